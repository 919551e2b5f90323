use Rattle.std.proofs.Common.{take}
use Rattle.recurring.specs.DueCalls.{IsFirstDue}
use Rattle.recurring.specs.Monitors.{pairs}
use Rattle.recurring.proofs.recurrings.Recurrings.due.Given as goal

abbrev pub invariant-loop-m : goal.invariant-loop-m
invariant-loop-m l = IsFirstDue (pairs (take l.m-index l.m-items)) l.now l.first
