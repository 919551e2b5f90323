use Rattle.executor_laws.proofs.RunLemmas.{refusal_keeps}
use Rattle.executor_laws.proofs.runs.lemma_refusal_keeps_promise.Goals as goal

pub returns : goal.returns
returns g c = refusal_keeps g.D.Disk.view g.met.D.Disk.lawful c.promise.ensures
