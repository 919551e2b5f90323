use Rattle.std.proofs.Common.{◌≡◌, ◌++◌, map, take, drop}
use Rattle.recurring.specs.Monitors.{settled_one}
use Rattle.recurring.proofs.recurrings.Recurrings.settle.Given as goal

abbrev pub invariant-loop-m : goal.invariant-loop-m
invariant-loop-m l = l.m-items ≡ map (settled_one l.call l.ended_at) (take l.m-index l.initial.m-items) ++ drop l.m-index l.initial.m-items
