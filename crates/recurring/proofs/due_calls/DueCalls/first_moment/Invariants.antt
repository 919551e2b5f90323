use Rattle.std.proofs.Common.{take}
use Rattle.recurring.specs.DueCalls.{pairs_of}
use Rattle.recurring.specs.Monitors.{IsFirstMoment}
use Rattle.recurring.proofs.due_calls.DueCalls.first_moment.Given as goal

abbrev pub invariant-loop-d : goal.invariant-loop-d
invariant-loop-d l = IsFirstMoment (pairs_of (take l.d-index l.d-items)) l.first
