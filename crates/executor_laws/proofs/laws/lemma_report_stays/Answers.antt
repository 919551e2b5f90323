use Rattle.executor_laws.proofs.Lasting.{lemma_report_stays}
use Rattle.executor_laws.proofs.laws.lemma_report_stays.Goals as goal

pub returns : goal.returns
returns g c = lemma_report_stays g.S.Store.view
