use contract.BorrowLft.{⊑_meet, ⊑_static}
use Rattle.std.proofs.Common.{subst, sym}
use Rattle.agent_system.specs.Histories.{spawn}
use Rattle.agent_system.specs.May.{IsFree}
use Rattle.agent_system.specs.SystemView.{SystemView}
use Rattle.host_system.proofs.SystemLemmas.{followed, was_free}
use Rattle.host_system.proofs.system_agents.SystemAgentsAgentSystem.spawn.Goals as goal

pub follow-requires : goal.follow-requires
follow-requires g c κs within = Prim.search (⊑_meet, ⊑_static) depth 40 fits 20000

pub invariant_of-self : goal.invariant_of-self
invariant_of-self g c = followed _ _ _ _ c.self.invariant c.follow.ensures (spawn _ _ _ (was_free _ _ c.spawned-child.result (subst (λ (v : SystemView). IsFree v.sights c.copied.result) (sym c.self.view_is) (subst (IsFree _) (sym c.copied.ensures) c.requires.may.free)) c.spawned-child.ensures.id))
