use Rattle.agent_system.specs.Commands.{leader_of}
use Rattle.agent_system.specs.SystemView.{after_ask, started}
use Rattle.host_system.proofs.system_agents.SystemAgentsAgentSystem.ask.Given as goal

abbrev pub ghost-follow : goal.ghost-follow
ghost-follow g a =
    after_ask a.self.now.view a.call.now.0.now (leader_of a.call.now.1.now) (started (λ c. c.process) a.call.now.2.now)
