use Rattle.std.proofs.Common.{subst, sym}
use Rattle.agent_system.specs.Histories.{asked, kill}
use Rattle.agent_system.specs.May.{IsChildAt}
use Rattle.agent_system.specs.SystemView.{SystemView}
use Rattle.host_system.proofs.SystemLemmas.{followed}
use Rattle.host_system.proofs.system_agents.SystemAgentsAgentSystem.kill.Goals as goal

pub invariant_of-self : goal.invariant_of-self
invariant_of-self c = followed _ _ _ _ c.self.invariant c.follow.ensures (asked _ (kill _ _ (subst (λ (v : SystemView). IsChildAt v.sights c.args._at c.args.child.now.process) (sym c.self.view_is) c.requires.its)))
