use Rattle.resource_status.proofs.LawLemmas.{failed_is_bad}
use Rattle.resource_status.proofs.laws.lemma_failed_is_bad.Goals as goal

pub returns : goal.returns
returns c = failed_is_bad
