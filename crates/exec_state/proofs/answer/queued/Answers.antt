use Rattle.std.proofs.Common.{sym}
use Rattle.ocf_types.specs.declared.operation.Op.{Op}
use Rattle.exec_state.proofs.Choices.{map_more_some}
use Rattle.exec_state.proofs.answer.queued.Goals as goal

pub loop-at-preserved : goal.loop-at-preserved
loop-at-preserved g c =
    rw (c.push.ensures.items, c.loop-at.invariant)
    (sym (map_more_some (λ (o : Op). o.call) c.args.ops.now.queue c.loop-at.at c.queued_at.result c.queued_at.ensures))
