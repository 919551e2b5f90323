use Rattle.agent_system.specs.SystemView.{after_release}
use Rattle.host_system.proofs.system_agents.SystemAgentsAgentSystem.release.Given as goal

abbrev pub ghost-follow : goal.ghost-follow
ghost-follow a = after_release a.self.now.view a.call.now
