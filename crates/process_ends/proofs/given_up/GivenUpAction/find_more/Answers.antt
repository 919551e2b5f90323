use Rattle.std.proofs.Common.{refl, ◌∙◌}
use Rattle.process_ends.proofs.IndexLemmas.{changed_at_index, is_among, kept_at}
use Rattle.process_ends.proofs.OverLemmas.{always_ok, is_searched}
use Rattle.process_ends.proofs.given_up.GivenUpAction.find_more.Goals as goal

pub returns-then-not-self-clause-given_up : goal.returns-then-not-self-clause-given_up
returns-then-not-self-clause-given_up g c =
    kept_at _ _ _ _ c.args.self.now _ c.requires.given_up refl refl c.requires.given_up.matched

pub suspend_new-requires : goal.suspend_new-requires
suspend_new-requires g c = record {
  given_up = is_among g.R.AgentSystem.process_of _ c.args.at c.find.new.self
      (changed_at_index _ _ _ _ c.args.self.now c.find.new.self c.requires.given_up c.find.ensures.given_up);
}

pub returns-clause-searched : goal.returns-clause-searched
returns-clause-searched g c =
    always_ok c.suspend_new.result (λ _. is_searched _ c.args.self.now c.find.new.self c.args.table.now c.find.ensures.same.process
    c.find.ensures.child (c.suspend_new.ensures.signals.table ∙ c.find.ensures.table ∙ c.requires.listed) c.in_ok-before.ensures.all)
