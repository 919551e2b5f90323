use Rattle.executor_laws.proofs.Isolation.Runs.{lemma_distinct_keys}
use Rattle.executor_laws.proofs.laws.lemma_distinct_keys.Goals as goal

pub returns : goal.returns
returns c = record { apart = lemma_distinct_keys }
