use Rattle.std.proofs.Common.{subst, sym}
use Rattle.agent_system.specs.Histories.{asked, send}
use Rattle.agent_system.specs.May.{MaySignal}
use Rattle.agent_system.specs.SystemView.{SystemView}
use Rattle.host_system.proofs.SystemLemmas.{followed}
use Rattle.host_system.proofs.system_agents.SystemAgentsAgentSystem.send.Goals as goal

pub invariant_of-self : goal.invariant_of-self
invariant_of-self c = followed _ _ _ _ c.self.invariant c.follow.ensures (asked _ (send _ _ (subst (λ (v : SystemView). MaySignal v.sights c.args.target) (sym c.self.view_is) c.requires.may)))

pub invariant_of-self-2 : goal.invariant_of-self-2
invariant_of-self-2 c = followed _ _ _ _ c.self.invariant c.follow.ensures (asked _ (send _ _ (subst (λ (v : SystemView). MaySignal v.sights c.args.target) (sym c.self.view_is) c.requires.may)))
