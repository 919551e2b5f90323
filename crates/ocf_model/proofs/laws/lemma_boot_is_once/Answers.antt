use Rattle.ocf_model.proofs.BootLemmas.{boot_once}
use Rattle.ocf_model.proofs.laws.lemma_boot_is_once.Goals as goal

pub returns : goal.returns
returns c s m n = boot_once s m n
