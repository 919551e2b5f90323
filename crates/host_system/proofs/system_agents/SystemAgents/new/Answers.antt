use Rattle.std.proofs.Common.{subst, sym}
use Rattle.agent_system.specs.Histories.{Reaches, none}
use Rattle.agent_system.specs.SystemView.{unasked}
use Rattle.host_system.proofs.system_agents.SystemAgents.new.Goals as goal

pub invariant_of-result : goal.invariant_of-result
invariant_of-result c = subst (Reaches (unasked c.ok-own.result)) (sym c.unasked.ensures) none
