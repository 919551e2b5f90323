use Rattle.ocf_env.proofs.OnceLemmas.{one_value}
use Rattle.ocf_env.proofs.laws.lemma_no_shadow.Goals as goal

pub returns-clause-one_value : goal.returns-clause-one_value
returns-clause-one_value c = one_value
