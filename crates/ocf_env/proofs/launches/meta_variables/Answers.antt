use Rattle.std.proofs.Common.{◌≡◌}
use Rattle.ocf_env.specs.Lists.{meta_pairs}
use Rattle.ocf_env.proofs.PushLemmas.{in_two}
use Rattle.ocf_env.proofs.SortedLemmas.{meta_ascending}
use Rattle.ocf_env.proofs.MemberLemmas.{meta_members}
use Rattle.ocf_env.proofs.launches.meta_variables.Goals as goal

pub returns-clause-sorted : goal.returns-clause-sorted
unfolding meta_pairs
returns-clause-sorted g c =
    let filled : c.push_last.new.pairs.items ≡ meta_pairs c.args.site.now c.args.provider.now c.args.agent.now
    = in_two _ _ _ _ _ c.new-pairs.ensures.items c.in_ok-push_version.ensures.pairs c.in_ok-push_last.ensures.pairs in
    rw filled (meta_ascending c.args.site.now c.args.provider.now c.args.agent.now)

pub returns-clause-variables : goal.returns-clause-variables
unfolding meta_pairs
returns-clause-variables g c =
    let filled : c.push_last.new.pairs.items ≡ meta_pairs c.args.site.now c.args.provider.now c.args.agent.now
    = in_two _ _ _ _ _ c.new-pairs.ensures.items c.in_ok-push_version.ensures.pairs c.in_ok-push_last.ensures.pairs in
    λ name value. rw filled (meta_members c.args.site.now c.args.provider.now c.args.agent.now name value)
