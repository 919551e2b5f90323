use Rattle.std.proofs.Common.{◌≡◌, ◌++◌, map, take, drop}
use Rattle.recurring.specs.DueCalls.{settled_call}
use Rattle.recurring.proofs.due_calls.DueCalls.settle.Given as goal

abbrev pub invariant-loop-d : goal.invariant-loop-d
invariant-loop-d l = l.d-items ≡ map (settled_call l.call l.due) (take l.d-index l.initial.d-items) ++ drop l.d-index l.initial.d-items
