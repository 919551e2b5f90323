use Rattle.std.proofs.Common.{◌∙◌}
use Rattle.ocf_env.proofs.PushLemmas.{valued}
use Rattle.ocf_env.proofs.variables.push_instance.Goals as goal

pub returns : goal.returns
returns g c = record {
  pairs = valued _ _ _ _ _ c.in_ok-push_pair.ensures.pairs (c.ascii.ensures ∙ c.as_bytes.ensures.bytes);
}
