use Rattle.std.proofs.Common.{List, ◌++◌, take}
use Rattle.std.specs.List.{flat_map}
use Rattle.resource_status.specs.Facts.{FactOf, IsRecordOf, ended_facts}
use Rattle.resource_status.proofs.facts.take_ended.Given as goal

abbrev pub invariant-loop-index : goal.invariant-loop-index
invariant-loop-index l =
    (facts : List FactOf) → IsRecordOf l.fn.recorded.entries facts
    → IsRecordOf l.recorded.entries (facts ++ flat_map (ended_facts l.event) (take l.index l.state.state.resources))
