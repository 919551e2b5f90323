use Rattle.std.proofs.Common.{◌≡◌, ◌++◌, drop, map, take}
use Rattle.child_keeper.specs.Waits.{reported}
use Rattle.child_keeper.proofs.waits.report_fresh.Given as goal

abbrev pub invariant-loop-wait : goal.invariant-loop-wait
invariant-loop-wait g l =
    l.wait-items ≡ map reported (take l.wait-index l.initial.wait-items) ++ drop l.wait-index l.initial.wait-items
