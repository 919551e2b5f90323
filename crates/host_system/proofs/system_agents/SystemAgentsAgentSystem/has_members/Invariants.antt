use Rattle.agent_system.specs.SystemView.{after_members}
use Rattle.host_system.proofs.system_agents.SystemAgentsAgentSystem.has_members.Given as goal

abbrev pub ghost-follow : goal.ghost-follow
ghost-follow a = after_members a.self.now.view a.call.now.0 a.call.now.1.now
