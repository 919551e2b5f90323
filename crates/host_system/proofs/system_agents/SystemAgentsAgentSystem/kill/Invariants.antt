use Rattle.agent_system.specs.SystemView.{after_send}
use Rattle.agent_system.specs.declared.signal.Signal.TheVariants.{Kill}
use Rattle.agent_system.specs.declared.signal.Target.TheVariants as target
use Rattle.host_system.proofs.system_agents.SystemAgentsAgentSystem.kill.Given as goal

abbrev pub ghost-follow : goal.ghost-follow
ghost-follow a = after_send a.self.now.view Kill (target.Process a.call.now.pid)
