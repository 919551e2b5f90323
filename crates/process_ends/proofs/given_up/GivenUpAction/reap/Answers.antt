use Rattle.std.proofs.Common.{ap, refl, ◌∙◌}
use Rattle.process_ends.proofs.IndexLemmas.{kept_at, matched_child, reaped_at, same_child}
use Rattle.process_ends.proofs.given_up.GivenUpAction.reap.Goals as goal

pub returns-in_default-clause-given_up : goal.returns-in_default-clause-given_up
returns-in_default-clause-given_up g c = kept_at _ _ _ _ c.args.self.now _ c.requires.given_up refl refl c.requires.given_up.matched

pub returns-then-is_reaped-clause-given_up : goal.returns-then-is_reaped-clause-given_up
returns-then-is_reaped-clause-given_up g c =
    reaped_at _ _ _ _ c.args.self.now c.requires.given_up (c.is_reaped.ensures.reaped c.if-is_reaped.true)

pub returns-else-is_reaped-clause-given_up : goal.returns-else-is_reaped-clause-given_up
returns-else-is_reaped-clause-given_up g c =
    kept_at _ _ _ _ c.args.self.now _ c.requires.given_up (ap (λ v. v.sights.given_up) (c.is_reaped.ensures.lives c.if-is_reaped.false))
    (same_child c.args.self.now c.in-Some.child c.is_reaped.new.child c.in-Some.is)
    (c.is_reaped.ensures.same ∙ matched_child g.R.AgentSystem.process_of c.args.self.now c.in-Some.child c.in-Some.is c.requires.given_up.matched)
