use Rattle.session_machine.proofs.TimeoutLemmas.{late_killed}
use Rattle.session_machine.proofs.laws.lemma_late_actions_are_killed.Goals as goal

pub returns : goal.returns
returns g c = λ s end x now action may shown room there late. late_killed g.S.Store.view s end x now action may shown room there late
