use Rattle.std.proofs.Common.{ap, ◌∙◌}
use Rattle.agent_system.specs.SystemView.{SystemView}
use Rattle.host_system.proofs.SystemLemmas.{own_is}
use Rattle.host_system.proofs.system_agents.SystemAgentsAgentSystem.own.Goals as goal

pub returns : goal.returns
returns c = record { value = own_is _ _ c.self.invariant ∙ ap (λ (v : SystemView). v.sights.own) c.self.view_is }
