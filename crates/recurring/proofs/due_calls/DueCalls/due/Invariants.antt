use Rattle.std.proofs.Common.{take}
use Rattle.recurring.specs.DueCalls.{pairs_of, IsFirstDue}
use Rattle.recurring.proofs.due_calls.DueCalls.due.Given as goal

abbrev pub invariant-loop-d : goal.invariant-loop-d
invariant-loop-d l = IsFirstDue (pairs_of (take l.d-index l.d-items)) l.now l.first
