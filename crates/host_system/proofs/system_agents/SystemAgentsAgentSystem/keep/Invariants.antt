use Rattle.agent_system.specs.SystemView.{after_keep}
use Rattle.host_system.proofs.system_agents.SystemAgentsAgentSystem.keep.Given as goal

abbrev pub ghost-follow : goal.ghost-follow
ghost-follow a = after_keep a.self.now.view a.call.now.0 a.call.now.1.now
