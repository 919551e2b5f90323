use Rattle.session_machine.proofs.BackedLemmas.{calls_from, sound}
use Rattle.session_machine.proofs.laws.lemma_sessions_are_calls.Goals as goal

pub returns : goal.returns
returns g c = λ first p q before events is come goes. calls_from g.S.Store.view (sound g.S.Store.view is come) goes
