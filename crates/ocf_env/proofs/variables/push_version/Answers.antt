use Rattle.ocf_env.proofs.PushLemmas.{two_more}
use Rattle.ocf_env.proofs.variables.push_version.Goals as goal

pub returns : goal.returns
returns g c = record {
  pairs = two_more _ _ _ _ _ c.in_ok-push_pair.ensures.pairs c.in_ok-push_pair-2.ensures.pairs;
}
