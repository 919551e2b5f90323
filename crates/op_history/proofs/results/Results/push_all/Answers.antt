use Rattle.std.proofs.Common.{arith}
use Rattle.op_history.proofs.Last.{buffer_more_same}
use Rattle.op_history.proofs.results.Results.push_all.Goals as goal

pub loop-result-preserved : goal.loop-result-preserved
loop-result-preserved g c =
    buffer_more_same c.self.inside.ring.capacity c.self.inside.ring.items c.args.results.now c.loop-result.result-index
    c.result-item.result c.loop-result.ring c.push_back.new.self
    (omega arith) c.result-item.is c.loop-result.invariant c.push_back.ensures.items
