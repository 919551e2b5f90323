use Rattle.std.proofs.Common.{◌≡◌, take}
use Rattle.exec_state.proofs.answer.results.Given as goal

abbrev pub invariant-loop-at : goal.invariant-loop-at
invariant-loop-at g l = l.results.items ≡ take l.at l.ops.ended
