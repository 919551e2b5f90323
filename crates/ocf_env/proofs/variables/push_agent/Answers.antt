use Rattle.std.proofs.Common.{◌∙◌}
use Rattle.ocf_env.proofs.PushLemmas.{valued, two_more}
use Rattle.ocf_env.proofs.variables.push_agent.Goals as goal

pub returns : goal.returns
returns g c = record {
  pairs = two_more _ _ _ _ _
      (valued _ _ _ _ _ c.in_ok-push_pair.ensures.pairs (c.ascii.ensures ∙ c.as_bytes.ensures.bytes))
      (valued _ _ _ _ _ c.in_ok-push_pair-2.ensures.pairs (c.ascii-2.ensures ∙ c.as_bytes-2.ensures.bytes));
}
