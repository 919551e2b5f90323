use Rattle.std.proofs.Common.{ℕ, ◌<◌, take}
use Rattle.std.specs.List.{AllByRecursion}
use Rattle.std.specs.Map.{values_of}
use Rattle.exec_state.proofs.Resting.{RestsAt}
use Rattle.exec_state.proofs.registry.rests_until.Given as goal

abbrev pub invariant-loop-index : goal.invariant-loop-index
invariant-loop-index g l = (now : ℕ) → now < l.until → AllByRecursion (RestsAt now) (take l.index (values_of l.resources.entries))
