use Rattle.ocf_env.proofs.MetaLemmas.{given_once, param_wins, without}
use Rattle.ocf_env.proofs.laws.lemma_metadata_variables.Goals as goal

pub returns-clause-without : goal.returns-clause-without
returns-clause-without c = without

pub returns-clause-one_value : goal.returns-clause-one_value
returns-clause-one_value c = given_once

pub returns-clause-parameters : goal.returns-clause-parameters
returns-clause-parameters c = param_wins
