use Rattle.std.proofs.Common.{◌≡◌}
use Rattle.ocf_env.specs.Instances.{registered}
use Rattle.ocf_env.specs.Lists.{action_pairs}
use Rattle.ocf_env.proofs.PushLemmas.{in_five}
use Rattle.ocf_env.proofs.SortedLemmas.{ascending}
use Rattle.ocf_env.proofs.MemberLemmas.{members}
use Rattle.ocf_env.proofs.launches.action_variables.Goals as goal

pub returns-clause-sorted : goal.returns-clause-sorted
unfolding action_pairs
returns-clause-sorted g c =
    let filled : c.push_last.new.pairs.items ≡ action_pairs c.args.site.now (registered c.args.instance.now) c.args.task
    =
    in_five _ _ _ _ _ _ _ _ _ _ _ c.new-pairs.ensures.items c.in_ok-push_level.ensures.pairs c.in_ok-push_version.ensures.pairs
    c.in_ok-push_params.ensures.pairs c.in_ok-push_instance.ensures.pairs c.in_ok-push_last.ensures.pairs in
    rw filled (ascending c.args.site.now (registered c.args.instance.now) c.args.task c.in_ok-push_params.ensures.lawful)

pub returns-clause-variables : goal.returns-clause-variables
unfolding action_pairs
returns-clause-variables g c =
    let filled : c.push_last.new.pairs.items ≡ action_pairs c.args.site.now (registered c.args.instance.now) c.args.task
    =
    in_five _ _ _ _ _ _ _ _ _ _ _ c.new-pairs.ensures.items c.in_ok-push_level.ensures.pairs c.in_ok-push_version.ensures.pairs
    c.in_ok-push_params.ensures.pairs c.in_ok-push_instance.ensures.pairs c.in_ok-push_last.ensures.pairs in
    λ name value. rw filled (members c.args.site.now (registered c.args.instance.now) c.args.task name value)
