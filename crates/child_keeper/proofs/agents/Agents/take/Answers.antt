use Rattle.std.proofs.Common.{◌≡◌, ap, arith, length, not, refl, rules, sym, vec_len, ◌∙◌}
use Rattle.std.specs.Prelude.{◌==◌}
use Rattle.std.proofs.lemmas.Fn.{filter_same}
use Rattle.std.proofs.lemmas.List.{length-map}
use Rattle.child_model.specs.Lemmas.{fewer}
use Rattle.child_keeper.specs.Agents.{others_of, runs_of}
use Rattle.child_keeper.proofs.AgentLemmas.{run_at, runs-others, taken}
use Rattle.child_keeper.proofs.agents.Agents.take.Goals as goal

pub returns : goal.returns
returns g c =
    let agents = c.args.self.now.agents.items in
    let index = c.index-index.result in
    let agent = c.remove-agent.result in
    let at = c.index-index.ensures.found in
    let others : c.retain.new.self.items ≡ others_of c.args.run agents =
    taken (λ a. a.process.run) c.args.run index agents c.remove-agent.new.self.items c.retain.new.self.items at c.remove-agent.ensures.items
    (filter_same _ (λ a. not (a.process.run == c.args.run)) _ (λ x b f' t. search rules) _ _ c.retain.ensures.filtered) in
    let size : length agents ≡ vec_len c.args.self.now.agents = search rules in
    let run_is = ap (λ a. a.process.run) c.remove-agent.ensures.value ∙ run_at (λ a. a.process.run) c.args.run index agents agent at in
    let gone = ap runs_of others ∙ runs-others (λ a. a.process.run) c.args.run agents in
    let left : length c.retain.new.self.items ≡ vec_len c.retain.new.self = search rules in
    record {
      fewer = omega (
        arith,
        size,
        left,
        length-map agents (λ a. a.process.run),
        length-map c.retain.new.self.items (λ a. a.process.run),
        ap length gone,
        fewer c.args.run (runs_of agents) c.requires.lives,
      );
      given_up = refl;
      agent = (index, omega (arith, size, c.index-index.ensures.within), sym c.remove-agent.ensures.value);
      run = run_is;
      others = others;
    }
