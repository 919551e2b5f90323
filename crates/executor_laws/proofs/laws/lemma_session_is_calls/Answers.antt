use Rattle.executor_laws.proofs.SessionCalls.{lemma_session_is_calls}
use Rattle.executor_laws.proofs.laws.lemma_session_is_calls.Goals as goal

pub returns : goal.returns
returns g c = lemma_session_is_calls g.S.Store.view
