use Rattle.exec_client.proofs.SignalLemmas.{polled_is_sent, sent_is_polled}
use Rattle.exec_client.proofs.laws.lemma_signals_are_polled.Goals as goal

pub returns : goal.returns
returns c = record { polled = sent_is_polled; reported = polled_is_sent }
