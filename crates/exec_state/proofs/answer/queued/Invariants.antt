use Rattle.std.proofs.Common.{◌≡◌, map, take}
use Rattle.exec_state.proofs.answer.queued.Given as goal

abbrev pub invariant-loop-at : goal.invariant-loop-at
invariant-loop-at g l = l.calls.items ≡ map (λ o. o.call) (take l.at l.ops.queue)
