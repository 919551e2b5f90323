use Rattle.agent_system.specs.Histories.{asked, members}
use Rattle.host_system.proofs.SystemLemmas.{followed}
use Rattle.host_system.proofs.system_agents.SystemAgentsAgentSystem.has_members.Goals as goal

pub invariant_of-self : goal.invariant_of-self
invariant_of-self c = followed _ _ _ _ c.self.invariant c.follow.ensures (asked _ (members _ _))
