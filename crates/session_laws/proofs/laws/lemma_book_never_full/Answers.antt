use Rattle.session_laws.proofs.Sessions.{book_never_full, opened_book}
use Rattle.session_laws.proofs.laws.lemma_book_never_full.Goals as goal

pub returns-clause-never : goal.returns-clause-never
returns-clause-never g c = λ first s events is lawful book way. book_never_full g.S.Store.view is lawful book way

pub returns-clause-opened : goal.returns-clause-opened
returns-clause-opened g c = λ from x has over. opened_book from x has over
