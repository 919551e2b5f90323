use Rattle.std.proofs.Common.{subst, sym}
use Rattle.agent_system.specs.Histories.{release}
use Rattle.agent_system.specs.May.{IsOverAt}
use Rattle.agent_system.specs.SystemView.{SystemView}
use Rattle.host_system.proofs.SystemLemmas.{followed}
use Rattle.host_system.proofs.system_agents.SystemAgentsAgentSystem.release.Goals as goal

pub invariant_of-self : goal.invariant_of-self
invariant_of-self c = followed _ _ _ _ c.self.invariant c.follow.ensures (release _ (subst (λ (v : SystemView). IsOverAt v.sights c.args.at) (sym c.self.view_is) c.requires.over))
