use Rattle.executor_laws.proofs.RunLemmas.{first_returned, opening_lasts}
use Rattle.executor_laws.proofs.runs.lemma_runs_are_incarnations.Goals as goal

pub returns : goal.returns
returns g c = record { opening = opening_lasts g.S.Store.view; returned = first_returned g.S.Store.view }
