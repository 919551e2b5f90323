use Rattle.session_laws.proofs.Journals.{journal_never_full}
use Rattle.session_laws.proofs.laws.lemma_journal_never_full.Goals as goal

pub returns : goal.returns
returns g c = λ first s events e is lawful on way may unspent. journal_never_full g.S.Store.view e is lawful on way may unspent
