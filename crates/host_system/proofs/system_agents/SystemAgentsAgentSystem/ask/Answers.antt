use contract.BorrowLft.{⊑_meet, ⊑_static}
use Rattle.agent_system.specs.Histories.{ask}
use Rattle.host_system.proofs.SystemLemmas.{followed}
use Rattle.host_system.proofs.system_agents.SystemAgentsAgentSystem.ask.Goals as goal

pub follow-requires : goal.follow-requires
follow-requires g c κs within = Prim.search (⊑_meet, ⊑_static) depth 40 fits 20000

pub invariant_of-self : goal.invariant_of-self
invariant_of-self g c = followed _ _ _ _ c.self.invariant c.follow.ensures (ask _ _ _)
