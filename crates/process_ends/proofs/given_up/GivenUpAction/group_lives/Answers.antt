use Rattle.std.proofs.Common.{◌≡◌, ap, length, refl, rules, subst, vec_len, ◌∙◌}
use Rattle.agent_system.specs.May.{AreAll}
use Rattle.process_ends.specs.Endings.{given_up_of}
use Rattle.process_ends.proofs.IndexLemmas.{kept_at}
use Rattle.process_ends.proofs.OverLemmas.{empty_is_nil, found_none, members_given_up}
use Rattle.process_ends.proofs.given_up.GivenUpAction.group_lives.Goals as goal

pub returns-then-eq-clause-given_up : goal.returns-then-eq-clause-given_up
returns-then-eq-clause-given_up g c =
    kept_at _ _ _ _ c.args.self.now _ c.requires.given_up (members_given_up _ _ _ c.has_members.result c.has_members.ensures.asked) refl
    c.requires.given_up.matched

pub returns-in_default-clause-given_up : goal.returns-in_default-clause-given_up
returns-in_default-clause-given_up g c =
    kept_at _ _ _ _ c.args.self.now _ c.requires.given_up
    (ap (λ v. v.sights.given_up) c.in_default.ensures.listed ∙ members_given_up _ _ _ c.has_members.result c.has_members.ensures.asked) refl
    c.requires.given_up.matched

pub returns-in-Ok-find-clause-over : goal.returns-in-Ok-find-clause-over
returns-in-Ok-find-clause-over g c = λ none.
    let known = c.find.new.self.known.items in
    let size : length known ≡ vec_len c.find.new.self.known = search rules in
    found_none _ c.args.self.now c.find.new.self c.in-Ok.table.items c.find.ensures.same.process c.find.ensures.child
    (c.find.ensures.table ∙ ap (λ v. v.sights.table) c.in-Ok.ensures.listed)
    (subst (λ t. AreAll (given_up_of c.args.self.now) t known) c.as_slice.ensures.value c.in-Ok-find.ensures.all)
    (empty_is_nil known (vec_len c.find.new.self.known) c.is_empty.result size c.is_empty.ensures none)
