use Rattle.std.proofs.Common.{ap, ◌∙◌, ◌++◌, ◌∷◌, []}
use Rattle.std.proofs.lemmas.List.Elements.{All-contains}
use Rattle.agent_system.specs.SystemView.{after_give_up}
use Rattle.child_keeper.specs.Agents.{IsIts}
use Rattle.child_keeper.proofs.KeeperLemmas.{lives_in}
use Rattle.child_keeper.proofs.keeper.give_up.Goals as goal

pub returns-clause-moved : goal.returns-clause-moved
returns-clause-moved g c =
    let agent = c.take-agent.result in
    let its = All-contains (IsIts g.R.AgentSystem.process_of) c.args.agents.now.agents.items agent c.requires.live.its c.take-agent.ensures.agent in
    record {
      agent = agent;
      lives = lives_in g.R.AgentSystem.process_of (g.R.AgentSystem.view c.args.rt.now).sights c.args.agents.now.agents.items agent c.requires.live c.take-agent.ensures.agent;
      its = its;
      run_is = c.take-agent.ensures.run;
      appended = c.add_given_up.ensures.given_up ∙ ap (λ l. l.items ++ agent ∷ []) c.take-agent.ensures.given_up;
      after = c.give_up.ensures.given_up ∙ ap (after_give_up (g.R.AgentSystem.view c.args.rt.now)) its;
    }
