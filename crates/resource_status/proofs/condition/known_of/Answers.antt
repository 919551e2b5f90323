use Rattle.ocf_model.specs.Indexes.{at_index}
use Rattle.resource_status.proofs.ConditionLemmas.{known_more}
use Rattle.resource_status.proofs.condition.known_of.Goals as goal

pub loop-at-preserved : goal.loop-at-preserved
loop-at-preserved c =
    let es = (at_index c.args.state.now.state c.args.index).history.ended in
    known_more es c.loop-at.at c.ended_at.result c.loop-at.known c.after-known.result c.ended_at.ensures c.loop-at.invariant c.after-known.ensures
