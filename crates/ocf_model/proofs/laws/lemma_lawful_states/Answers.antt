use Rattle.ocf_types.specs.Layouts.{current}
use Rattle.ocf_model.proofs.LawfulLaw.{lawful_empty, lawful_after}
use Rattle.ocf_model.proofs.laws.lemma_lawful_states.Goals as goal

pub returns-clause-empty : goal.returns-clause-empty
returns-clause-empty c = lawful_empty current

pub returns-clause-after : goal.returns-clause-after
returns-clause-after c s e h a = lawful_after current s e h a
