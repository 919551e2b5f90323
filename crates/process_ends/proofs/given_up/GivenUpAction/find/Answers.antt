use Rattle.std.proofs.Common.{ap, refl, subst, sym, ◌∙◌}
use Rattle.agent_system.specs.May.{AreAll}
use Rattle.process_ends.specs.Endings.{given_up_of}
use Rattle.process_ends.proofs.IndexLemmas.{kept_at, known_at}
use Rattle.process_ends.proofs.given_up.GivenUpAction.find.Goals as goal

pub returns-in_err-found-clause-given_up : goal.returns-in_err-found-clause-given_up
returns-in_err-found-clause-given_up g c =
    kept_at _ _ _ _ c.args.self.now _ c.requires.given_up refl refl c.requires.given_up.matched

pub keep-requires : goal.keep-requires
keep-requires g c = record {
  may = (
    given_up_of c.args.self.now,
    c.requires.given_up.is,
    (
      c.args.table.now,
      c.requires.listed,
      subst (AreAll (given_up_of c.args.self.now) c.args.table.now) (sym c.as_slice.ensures.value) c.in_ok-found.ensures.all,
    ),
  );
}

pub returns-clause-given_up : goal.returns-clause-given_up
returns-clause-given_up g c =
    known_at _ _ _ _ c.args.self.now c.replace.new.dest c.as_slice.result.now c.requires.given_up
    (ap (λ v. v.sights.given_up) c.keep.ensures.kept) (c.as_slice.ensures.value ∙ sym (ap (λ v. v.items) c.replace.ensures.after))

pub returns-clause-all : goal.returns-clause-all
returns-clause-all g c =
    subst (λ v. AreAll (given_up_of c.args.self.now) c.args.table.now v.items) (sym c.replace.ensures.after) c.in_ok-found.ensures.all
