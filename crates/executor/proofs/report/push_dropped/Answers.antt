use Rattle.std.proofs.Common.{ℕ, List, ap, ◌∙◌}
use Rattle.ocf_model.specs.Notices.{drop_notice}
use Rattle.ocf_model.specs.Indexes.{entry_at}
use Rattle.executor.proofs.Openings.Reporting.{drop_more}
use Rattle.executor.proofs.report.push_dropped.Goals as goal

pub loop-i-preserved : goal.loop-i-preserved
loop-i-preserved g c =
    let e = entry_at c.args.state.now.state c.args.index in
    drop_more e.0 c.args.at c.loop-i.i e.1.history.queue c.queued_at.result c.args.notices.now.items c.loop-i.notices.items
    c.push.new.vec.items c.drop_notice-notice.result c.queued_at.ensures
    (c.drop_notice-notice.ensures
    ∙ ap (λ (id : List ℕ). drop_notice id c.args.at c.queued_at.result) (c.copied-id.ensures ∙ c.id_at.ensures))
    c.loop-i.invariant c.in_ok-push.ensures.items
