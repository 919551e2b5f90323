use Rattle.std.proofs.Common.{subst, sym}
use Rattle.agent_system.specs.Histories.{reap}
use Rattle.agent_system.specs.May.{IsChildAt}
use Rattle.agent_system.specs.SystemView.{SystemView}
use Rattle.host_system.proofs.SystemLemmas.{followed}
use Rattle.host_system.proofs.system_agents.SystemAgentsAgentSystem.reap.Goals as goal

pub invariant_of-self : goal.invariant_of-self
invariant_of-self c = followed _ _ _ _ c.self.invariant c.follow.ensures (reap _ _ _ (subst (λ (v : SystemView). IsChildAt v.sights c.args.at c.args.child.now.process) (sym c.self.view_is) c.requires.its))
