use Rattle.executor_laws.proofs.Isolation.Joins.{lemma_projections_join}
use Rattle.executor_laws.proofs.laws.lemma_projections_join.Goals as goal

pub returns : goal.returns
returns c = lemma_projections_join
