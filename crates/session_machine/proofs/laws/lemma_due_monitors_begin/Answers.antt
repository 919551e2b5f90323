use Rattle.session_machine.proofs.DueLemmas.{due_begins, idle_begins}
use Rattle.session_machine.proofs.laws.lemma_due_monitors_begin.Goals as goal

pub returns-clause-results : goal.returns-clause-results
returns-clause-results g c = λ s x now may shown. due_begins g.S.Store.view s x now may shown

pub returns-clause-idle : goal.returns-clause-idle
returns-clause-idle g c = λ s x now may shown idle. idle_begins _ _ _ _ _ idle (due_begins g.S.Store.view s x now may shown)
