use Rattle.executor_laws.proofs.RunLemmas.{run_keeps}
use Rattle.executor_laws.proofs.runs.lemma_run_keeps_promise.Goals as goal

pub returns : goal.returns
returns g c = run_keeps g.D.Disk.view g.met.D.Disk.lawful c.promise.ensures
