use Rattle.std.proofs.Common.{◌≡◌, ◌++◌, ap₂, ◌∙◌}
use Rattle.ocf_model.specs.Indexes.{at_index, id_at}
use Rattle.resource_status.proofs.ResultLemmas.{lines_more}
use Rattle.exec_metrics.specs.Samples.{code_of_monitor, monitor_code}
use Rattle.exec_metrics.proofs.monitors.add_codes.Goals as goal

pub loop-at-preserved : goal.loop-at-preserved
loop-at-preserved c =
    let s = c.args.state.now.state in
    let r = at_index s c.args.index in
    let m = c.recurring_at-recur.result in
    let f = code_of_monitor (id_at s c.args.index) r.history.ended in
    let one : monitor_code c.id_at.result.now m c.last_run-last.result ≡ f m =
    ap₂ (λ i l. monitor_code i m l) c.id_at.ensures c.last_run-last.ensures
    in
    c.add_code.ensures ∙ ap₂ (λ t u. t ++ u) c.loop-at.invariant one ∙ lines_more f r.recurring c.loop-at.at m _ c.recurring_at-recur.ensures
