use Rattle.std.proofs.Common.{take}
use Rattle.recurring.specs.Monitors.{pairs, IsFirstMoment}
use Rattle.recurring.proofs.recurrings.Recurrings.first_due.Given as goal

abbrev pub invariant-loop-m : goal.invariant-loop-m
invariant-loop-m l = IsFirstMoment (pairs (take l.m-index l.m-items)) l.first
