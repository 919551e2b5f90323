use Rattle.std.proofs.Common.{◌≡◌, ◌++◌, drop, map, take}
use Rattle.child_keeper.specs.Waits.{settled}
use Rattle.child_keeper.proofs.waits.settle_all.Given as goal

abbrev pub invariant-loop-wait : goal.invariant-loop-wait
invariant-loop-wait g l =
    l.wait-items ≡ map (settled l.until) (take l.wait-index l.initial.wait-items) ++ drop l.wait-index l.initial.wait-items
