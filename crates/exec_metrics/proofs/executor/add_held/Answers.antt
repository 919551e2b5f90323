use Rattle.std.proofs.Common.{◌++◌, ap, ◌∙◌}
use Rattle.exec_metrics.specs.Held.{held_sample}
use Rattle.exec_metrics.proofs.TextLemmas.{item_more}
use Rattle.exec_metrics.proofs.executor.add_held.Goals as goal

pub loop-id-preserved : goal.loop-id-preserved
loop-id-preserved c =
    c.add_plain.ensures ∙ ap (λ t. t ++ held_sample c.id-item.result) c.loop-id.invariant
    ∙ item_more held_sample c.args.held.now c.loop-id.id-index c.id-item.result c.args.text.now c.loop-id-test.true c.id-item.is
