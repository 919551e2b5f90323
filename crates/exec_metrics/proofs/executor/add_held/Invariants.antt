use Rattle.std.proofs.Common.{◌≡◌, ◌++◌, take}
use Rattle.std.specs.List.{flat_map}
use Rattle.exec_metrics.specs.Held.{held_sample}
use Rattle.exec_metrics.proofs.executor.add_held.Given as goal

abbrev pub invariant-loop-id : goal.invariant-loop-id
invariant-loop-id l = l.text ≡ l.fn.text ++ flat_map held_sample (take l.id-index l.held)
