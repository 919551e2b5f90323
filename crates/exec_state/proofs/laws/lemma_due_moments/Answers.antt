use Rattle.exec_state.proofs.DueLaw.{due_by_events, due_by_opening}
use Rattle.exec_state.proofs.laws.lemma_due_moments.Goals as goal

pub returns-clause-after : goal.returns-clause-after
returns-clause-after c = due_by_events

pub returns-clause-restart : goal.returns-clause-restart
returns-clause-restart c = due_by_opening
