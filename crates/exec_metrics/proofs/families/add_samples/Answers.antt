use Rattle.std.proofs.Common.{rules, ◌≡◌, ◌++◌, ap, ap₂, sym, ◌∙◌}
use Rattle.ocf_model.specs.Indexes.{entry_at}
use Rattle.resource_status.specs.Conditions.{condition_by}
use Rattle.exec_metrics.specs.Metrics.{measure_of, samples}
use Rattle.exec_metrics.specs.Samples.{state_samples}
use Rattle.exec_metrics.specs.declared.family.Family.{Family}
use Rattle.exec_metrics.specs.declared.family.Family.TheVariants as family
use Rattle.exec_metrics.proofs.families.add_samples.Goals as goal

pub returns-in-State : goal.returns-in-State
returns-in-State c =
    let m = measure_of c.args.taken.now in
    let e = entry_at c.args.state.now.state c.args.row.index in
    let one : state_samples c.id_at-id.result.now c.condition_by.result ≡ samples m family.State e =
    ap₂ state_samples c.id_at-id.ensures
    (c.condition_by.ensures ∙ ap₂ condition_by (c.recorded_of-recorded.ensures ∙ ap m.recorded c.id_at-id.ensures) c.failed_at.ensures) in
    let is : c.args.row.family ≡ family.State = search rules in
    c.add_states.ensures ∙ ap (λ t. c.args.text.now ++ t) (one ∙ ap (λ (f : Family). samples m f e) (sym is))
