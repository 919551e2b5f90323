use Rattle.resource_status.proofs.LawLemmas.{started_is_well}
use Rattle.resource_status.proofs.laws.lemma_started_is_well.Goals as goal

pub returns : goal.returns
returns c = started_is_well
