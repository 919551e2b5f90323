use Rattle.session_machine.proofs.CountLemmas.{wait_brief, wait_may}
use Rattle.session_machine.proofs.laws.lemma_waits_end.Goals as goal

pub returns-clause-may : goal.returns-clause-may
returns-clause-may g c = λ s e may waits. wait_may g.S.Store.view s e may waits

pub returns-clause-brief : goal.returns-clause-brief
returns-clause-brief g c = λ s e may waits. wait_brief s _ (wait_may g.S.Store.view s e may waits)
