use Rattle.std.proofs.Common.{◌≡◌, arith, length, rules, sym, vec_len, ◌∙◌}
use Rattle.child_keeper.proofs.AgentLemmas.{found, found_within, not_found}
use Rattle.child_keeper.proofs.agents.Agents.index.Goals as goal

pub returns-clause-within : goal.returns-clause-within
returns-clause-within g c =
    let size : length c.args.self.now.agents.items ≡ vec_len c.args.self.now.agents = search rules in
    omega (
      arith,
      size,
      found_within (λ a. a.process.run) c.args.run c.in-Some.index c.args.self.now.agents.items
          (sym c.first.ensures ∙ c.in-Some.is),
    )

pub returns-clause-found : goal.returns-clause-found
returns-clause-found g c = found (λ a. a.process.run) c.args.run c.in-Some.index c.args.self.now.agents.items (sym c.first.ensures ∙ c.in-Some.is)

pub unreachable-requires : goal.unreachable-requires
unreachable-requires g c =
    not_found (λ a. a.process.run) c.args.run 0 c.args.self.now.agents.items (sym c.first.ensures ∙ c.in-None.is) c.requires.lives
