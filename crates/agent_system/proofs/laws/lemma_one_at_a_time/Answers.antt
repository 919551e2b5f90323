use Rattle.agent_system.proofs.HistoryLemmas.{given_up_before, spawned_before}
use Rattle.agent_system.proofs.laws.lemma_one_at_a_time.Goals as goal

pub returns-clause-spawned : goal.returns-clause-spawned
returns-clause-spawned c = spawned_before

pub returns-clause-given_up : goal.returns-clause-given_up
returns-clause-given_up c = given_up_before
