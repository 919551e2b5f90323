use Rattle.std.proofs.Common.{subst, sym}
use Rattle.agent_system.specs.Histories.{keep}
use Rattle.agent_system.specs.May.{MayKeepAt}
use Rattle.agent_system.specs.SystemView.{SystemView}
use Rattle.host_system.proofs.SystemLemmas.{followed}
use Rattle.host_system.proofs.system_agents.SystemAgentsAgentSystem.keep.Goals as goal

pub invariant_of-self : goal.invariant_of-self
invariant_of-self c = followed _ _ _ _ c.self.invariant c.follow.ensures (keep _ _ (subst (λ (v : SystemView). MayKeepAt v.sights c.args.at c.args.found.now) (sym c.self.view_is) c.requires.may))
