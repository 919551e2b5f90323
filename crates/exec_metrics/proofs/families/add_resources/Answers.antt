use Rattle.std.proofs.Common.{rules, ◌<◌, ◌++◌, length, ap, ◌∙◌}
use Rattle.ocf_model.specs.Indexes.{entry_at}
use Rattle.exec_metrics.specs.Metrics.{measure_of, samples}
use Rattle.exec_metrics.proofs.TextLemmas.{entry_more}
use Rattle.exec_metrics.proofs.families.add_resources.Goals as goal

pub loop-index-preserved : goal.loop-index-preserved
loop-index-preserved c =
    let s = c.args.state.now.state in
    let f = samples (measure_of c.args.taken.now) c.args.family in
    let lt : c.loop-index.index < length s.resources = search rules in
    c.add_samples.ensures ∙ ap (λ t. t ++ f (entry_at s c.loop-index.index)) c.loop-index.invariant
    ∙ entry_more f s c.loop-index.index _ lt
