use Rattle.test_incarnations.proofs.OneHistory.{begin_kept, begin_lost, behaves, boot_kept, boot_lost, kept}
use Rattle.test_incarnations.proofs.OnlyRemaining.{only}
use Rattle.test_incarnations.proofs.one_history.lemma_one_history.Goals as goal

pub returns-clause-behaves : goal.returns-clause-behaves
returns-clause-behaves c = behaves

pub returns-clause-kept : goal.returns-clause-kept
returns-clause-kept c = kept

pub returns-clause-begin_kept : goal.returns-clause-begin_kept
returns-clause-begin_kept c = begin_kept

pub returns-clause-begin_lost : goal.returns-clause-begin_lost
returns-clause-begin_lost c = begin_lost

pub returns-clause-boot_kept : goal.returns-clause-boot_kept
returns-clause-boot_kept c = boot_kept

pub returns-clause-boot_lost : goal.returns-clause-boot_lost
returns-clause-boot_lost c = boot_lost

pub returns-clause-only : goal.returns-clause-only
returns-clause-only c = only
