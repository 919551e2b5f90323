use Rattle.agent_system.proofs.HistoryLemmas.{apart}
use Rattle.agent_system.proofs.laws.lemma_apart.Goals as goal

pub returns : goal.returns
returns c = record { apart = apart }
