use Rattle.agent_metadata.proofs.MetaLemmas.{whole_before}
use Rattle.agent_metadata.proofs.laws.lemma_metadata_are_whole.Goals as goal

pub returns : goal.returns
returns c = λ old now metadata goes_on whole. let before = goes_on whole.0 in
    (before.0, whole_before old.left now.left old.kept now.kept before.1.0 metadata before.1.1 before.1.2 whole.1)
