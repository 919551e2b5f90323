use Rattle.session_machine.proofs.LeaveLemmas.{leaves}
use Rattle.session_machine.proofs.laws.lemma_leaves.Goals as goal

pub returns : goal.returns
returns g c = λ first s events e is serves way at asks may. leaves is serves events s way at asks e may
