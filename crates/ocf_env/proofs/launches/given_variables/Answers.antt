use Rattle.std.proofs.Common.{◌≡◌, false, true, rules}
use Rattle.ocf_env.specs.Instances.{registered}
use Rattle.ocf_env.proofs.MetaLemmas.{meta_members, meta_order, without}
use Rattle.ocf_env.proofs.launches.given_variables.Goals as goal

pub returns-then-not-meta-clause-variables : goal.returns-then-not-meta-clause-variables
returns-then-not-meta-clause-variables g c =
    let unasked : c.args.site.now.meta ≡ false = search rules in
    λ name value. (
      λ h. (without c.args.site.now (registered c.args.instance.now) c.args.running name value unasked).1
          ((c.in_ok-pairs.ensures.variables name value).0 h),
      λ given. (c.in_ok-pairs.ensures.variables name value).1
          ((without c.args.site.now (registered c.args.instance.now) c.args.running name value unasked).0 given),
    )

pub returns-clause-sorted : goal.returns-clause-sorted
returns-clause-sorted g c = rw c.in_ok-add_meta.ensures.pairs (meta_order c.args.running c.in_ok-pairs.pairs.items c.in_ok-pairs.ensures.sorted)

pub returns-clause-variables : goal.returns-clause-variables
returns-clause-variables g c =
    let asked : c.args.site.now.meta ≡ true = search rules in
    λ name value. rw c.in_ok-add_meta.ensures.pairs
    (meta_members c.args.site.now (registered c.args.instance.now) c.args.running c.in_ok-pairs.pairs.items asked
    c.in_ok-pairs.ensures.variables name value)
