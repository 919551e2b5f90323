use Rattle.agent_system.specs.Histories.{asked, list}
use Rattle.host_system.proofs.SystemLemmas.{followed}
use Rattle.host_system.proofs.system_agents.SystemAgentsAgentSystem.list.Goals as goal

pub invariant_of-self : goal.invariant_of-self
invariant_of-self g c = followed _ _ _ _ c.self.invariant c.follow.ensures (asked _ (list _))
