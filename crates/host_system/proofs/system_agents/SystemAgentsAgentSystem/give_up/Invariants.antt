use Rattle.agent_system.specs.SystemView.{after_give_up}
use Rattle.host_system.proofs.system_agents.SystemAgentsAgentSystem.give_up.Given as goal

abbrev pub ghost-follow : goal.ghost-follow
ghost-follow a = after_give_up a.self.now.view a.call.now
