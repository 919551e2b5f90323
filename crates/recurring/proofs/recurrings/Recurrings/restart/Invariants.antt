use Rattle.std.proofs.Common.{◌≡◌, ◌++◌, map, take, drop}
use Rattle.recurring.specs.Monitors.{due_at}
use Rattle.recurring.proofs.recurrings.Recurrings.restart.Given as goal

abbrev pub invariant-loop-m : goal.invariant-loop-m
invariant-loop-m l = l.m-items ≡ map (due_at l.at) (take l.m-index l.initial.m-items) ++ drop l.m-index l.initial.m-items
