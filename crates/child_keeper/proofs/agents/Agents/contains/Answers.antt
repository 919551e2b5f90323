use Rattle.std.proofs.Common.{refl, sym, ◌∙◌}
use Rattle.child_keeper.proofs.AgentLemmas.{found_lives, not_found}
use Rattle.child_keeper.proofs.agents.Agents.contains.Goals as goal

pub returns-in-Some : goal.returns-in-Some
returns-in-Some g c =
    record {
      lives = (
        λ _. found_lives (λ a. a.process.run) c.args.run c.in-Some.field-0 c.args.self.now.agents.items
            (sym c.first.ensures ∙ c.in-Some.is),
        λ _. refl,
      );
    }

pub returns-in-None : goal.returns-in-None
returns-in-None g c =
    record {
      lives = (
        λ found. absurd (let never : ⊥ = cc in never),
        λ lives. absurd (not_found (λ a. a.process.run) c.args.run 0 c.args.self.now.agents.items (sym c.first.ensures ∙ c.in-None.is) lives),
      );
    }
