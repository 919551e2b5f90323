use Rattle.std.proofs.Common.{sym}
use Rattle.ocf_types.specs.Lemmas.{flat_more}
use Rattle.exec_replies.specs.Tokens.{text_member}
use Rattle.exec_replies.proofs.AddLemmas.{added, joined}
use Rattle.exec_replies.proofs.info.put_params.Goals as goal

pub loop-name-preserved : goal.loop-name-preserved
loop-name-preserved c =
    added _ _ _ _ (sym (flat_more (λ p. text_member p.0 p.1) _ c.loop-name.name-index c.loop-name-item.result c.loop-name-test.true c.loop-name-item.is))
    (joined _ (text_member c.loop-name-item.result.0 c.loop-name-item.result.1) _ _ _ c.loop-name.invariant c.in_ok-put_param.ensures.ok)
