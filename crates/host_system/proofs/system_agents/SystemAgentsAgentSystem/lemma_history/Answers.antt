use Rattle.std.proofs.Common.{subst}
use Rattle.agent_system.specs.Histories.{IsHistory}
use Rattle.host_system.proofs.SystemLemmas.{is_history}
use Rattle.host_system.proofs.system_agents.SystemAgentsAgentSystem.lemma_history.Goals as goal

pub returns : goal.returns
returns c = record { history = subst IsHistory c.self.view_is (is_history _ _ c.self.invariant) }
