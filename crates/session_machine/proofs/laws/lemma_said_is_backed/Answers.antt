use Rattle.session_machine.proofs.BackedLemmas.{sound}
use Rattle.session_machine.proofs.laws.lemma_said_is_backed.Goals as goal

pub returns : goal.returns
returns g c = λ first s events is way. sound g.S.Store.view is way
