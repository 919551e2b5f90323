use Rattle.std.proofs.Common.{◌≡◌, take}
use Rattle.op_history.proofs.queued.queue_of.Given as goal

abbrev pub invariant-loop-op : goal.invariant-loop-op
invariant-loop-op l = l.queue.items ≡ take l.op-index l.ops
