use Rattle.ocf_model.proofs.FailureLemmas.{boot_keeps_failure, failure_kept}
use Rattle.ocf_model.proofs.laws.lemma_failures_are_kept.Goals as goal

pub returns-clause-result : goal.returns-clause-result
returns-clause-result c s at id end r x there runs = failure_kept s at id end r x there runs

pub returns-clause-boot : goal.returns-clause-boot
returns-clause-boot c s at id r there = boot_keeps_failure s at id r there
