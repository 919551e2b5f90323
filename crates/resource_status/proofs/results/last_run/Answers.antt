use Rattle.std.proofs.Common.{sym, ◌∙◌}
use Rattle.ocf_model.specs.Indexes.{at_index}
use Rattle.resource_status.specs.Results.{is_run}
use Rattle.resource_status.proofs.ResultLemmas.{last_no, last_yes}
use Rattle.resource_status.proofs.results.last_run.Goals as goal
use Rattle.resource_status.proofs.results.last_run.Goals.{then-is_run, else-is_run}

pub loop-at-preserved : goal.loop-at-preserved
loop-at-preserved c =
    let es = (at_index c.args.state.now.state c.args.index).history.ended in
    let e = c.ended_at-ended.result in
    let is = is_run c.args.call in
    elim c.if-is_run.branch [
      | then-is_run w ↦ w.last-is ∙ sym (last_yes is es c.loop-at.at e c.ended_at-ended.ensures (sym c.is_run.ensures ∙ w.if-is_run.true))
      | else-is_run w ↦
          w.last-is ∙ c.loop-at.invariant
          ∙ sym (last_no is es c.loop-at.at e c.ended_at-ended.ensures (sym c.is_run.ensures ∙ w.if-is_run.false))
    ]
