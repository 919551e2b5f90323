use Rattle.agent_system.specs.SystemView.{after_let_run}
use Rattle.host_system.proofs.system_agents.SystemAgentsAgentSystem.let_run.Given as goal

abbrev pub ghost-follow : goal.ghost-follow
ghost-follow a = after_let_run a.self.now.view a.call.now.0.now a.call.now.1.now
