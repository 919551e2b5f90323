use Rattle.std.proofs.Common.{subst, sym, Contains}
use Rattle.agent_system.specs.Histories.{give_up}
use Rattle.agent_system.specs.SystemView.{SystemView}
use Rattle.host_system.proofs.SystemLemmas.{followed}
use Rattle.host_system.proofs.system_agents.SystemAgentsAgentSystem.give_up.Goals as goal

pub invariant_of-self : goal.invariant_of-self
invariant_of-self c = followed _ _ _ _ c.self.invariant c.follow.ensures (give_up _ (subst (λ (v : SystemView). Contains v.sights.live c.args.child.now.process) (sym c.self.view_is) c.requires.lives))
