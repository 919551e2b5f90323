use Rattle.agent_system.proofs.HistoryLemmas.{given_up_until, known_or_over}
use Rattle.agent_system.proofs.laws.lemma_over.Goals as goal

pub returns-clause-given_up : goal.returns-clause-given_up
returns-clause-given_up c = given_up_until

pub returns-clause-spawned : goal.returns-clause-spawned
returns-clause-spawned c = known_or_over
