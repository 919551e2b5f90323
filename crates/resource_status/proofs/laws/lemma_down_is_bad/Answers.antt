use Rattle.resource_status.proofs.LawLemmas.{down_is_bad}
use Rattle.resource_status.proofs.laws.lemma_down_is_bad.Goals as goal

pub returns : goal.returns
returns c = down_is_bad
