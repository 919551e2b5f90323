use Rattle.std.proofs.Common.{◌∙◌}
use Rattle.agent_metadata.proofs.RunLemmas.{refused_by}
use Rattle.agent_system.specs.Commands.{leader_of}
use Rattle.agent_metadata.proofs.asking.ask_agent.Goals as goal

pub returns-in-Err-clause-refused : goal.returns-in-Err-clause-refused
returns-in-Err-clause-refused g c =
    refused_by (leader_of c.args.how.leading.now) c.args.invocation.now (g.R.AgentSystem.view c.args.rt.now)
    (g.R.AgentSystem.view c.let_run.new.self) (g.R.AgentSystem.view c.end_one.new.rt) (g.R.AgentSystem.process_of c.in_ok-child.child)
    (g.R.AgentSystem.process_of c.let_run.new.child) (c.in-Err.ensures.let_run ∙ c.in_ok-child.ensures.asked) c.in-Err.ensures.same
    c.end_one.ensures.ended
