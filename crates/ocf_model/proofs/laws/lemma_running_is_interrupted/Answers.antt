use Rattle.ocf_model.proofs.BootLemmas.{boot_interrupts}
use Rattle.ocf_model.proofs.laws.lemma_running_is_interrupted.Goals as goal

pub returns : goal.returns
returns c s at id r x there runs = boot_interrupts s at id r x there runs
