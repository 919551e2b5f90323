use Rattle.executor_laws.proofs.Memory.{memory_there, memory_reported}
use Rattle.executor_laws.proofs.laws.lemma_memory_is_there.Goals as goal

pub returns : goal.returns
returns g c = record {
  reported = λ x y call d does lacks. memory_reported g.S.Store.view call x y d does lacks;
  none = λ x y calls d does none. memory_there g.S.Store.view x y calls d does none;
}
