use Rattle.std.proofs.Common.{List, ◌++◌, take}
use Rattle.std.specs.List.{flat_map}
use Rattle.resource_status.specs.Counts.{Tallies}
use Rattle.resource_status.specs.Runs.{Ran, ended_by}
use Rattle.resource_status.proofs.counting.count_ended.Given as goal

abbrev pub invariant-loop-index : goal.invariant-loop-index
invariant-loop-index l =
    (runs : List Ran) → Tallies l.fn.counts.entries runs
    → Tallies l.counts.entries (runs ++ flat_map (ended_by l.change) (take l.index l.state.state.resources))
