use Rattle.ocf_model.proofs.AskedLemmas.{event_applies, boot_applies, registers}
use Rattle.ocf_model.proofs.laws.lemma_events_apply.Goals as goal

pub returns-clause-command : goal.returns-clause-command
returns-clause-command c s now command e h l is = event_applies s now command e h l is

pub returns-clause-boot : goal.returns-clause-boot
returns-clause-boot c s at later le busy = boot_applies s at later le busy

pub returns-clause-registers : goal.returns-clause-registers
returns-clause-registers c s now command e is h = registers s now command e is h
