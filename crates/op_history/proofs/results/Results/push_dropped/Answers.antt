use Rattle.std.proofs.Common.{arith}
use Rattle.ocf_model.specs.Resource.{dropped_of}
use Rattle.op_history.proofs.Last.{buffer_more}
use Rattle.op_history.proofs.results.Results.push_dropped.Goals as goal

pub loop-queued-preserved : goal.loop-queued-preserved
loop-queued-preserved g c =
    buffer_more c.self.inside.ring.capacity (dropped_of c.args.at) c.self.inside.ring.items c.args.queue.now c.loop-queued.queued-index
    c.queued-item.result c.dropped_of.result c.loop-queued.ring c.push_back.new.self
    (omega arith) c.queued-item.is (rw c.op.ensures at c.dropped_of.ensures) c.loop-queued.invariant c.push_back.ensures.items
