use Rattle.agent_system.specs.SystemView.{after_adopt}
use Rattle.host_system.proofs.system_agents.SystemAgentsAgentSystem.adopt.Given as goal

abbrev pub ghost-follow : goal.ghost-follow
ghost-follow a = after_adopt a.self.now.view a.call.now
