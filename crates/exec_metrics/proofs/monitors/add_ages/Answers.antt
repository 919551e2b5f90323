use Rattle.std.proofs.Common.{◌≡◌, ◌++◌, ap, ap₂, ◌∙◌}
use Rattle.ocf_model.specs.Indexes.{at_index, id_at}
use Rattle.resource_status.proofs.ResultLemmas.{lines_more}
use Rattle.exec_metrics.specs.Samples.{age, age_of_monitor, monitor_age}
use Rattle.exec_metrics.proofs.monitors.add_ages.Goals as goal

pub loop-at-preserved : goal.loop-at-preserved
loop-at-preserved c =
    let s = c.args.state.now.state in
    let r = at_index s c.args.index in
    let m = c.recurring_at-recur.result in
    let f = age_of_monitor c.args.now (id_at s c.args.index) r.history.ended in
    let one : monitor_age c.id_at.result.now m c.age-seconds.result ≡ f m =
    ap₂ (λ i l. monitor_age i m l) c.id_at.ensures (c.age-seconds.ensures ∙ ap (age c.args.now) c.last_run.ensures)
    in
    c.add_age.ensures ∙ ap₂ (λ t u. t ++ u) c.loop-at.invariant one ∙ lines_more f r.recurring c.loop-at.at m _ c.recurring_at-recur.ensures
