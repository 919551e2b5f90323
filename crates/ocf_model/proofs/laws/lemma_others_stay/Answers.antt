use Rattle.ocf_model.proofs.OthersLemmas.{other_stays, order_stays}
use Rattle.ocf_model.proofs.laws.lemma_others_stay.Goals as goal

pub returns-clause-resource : goal.returns-clause-resource
returns-clause-resource c s e id other n h = other_stays e.at e.change s.resources id other n h

pub returns-clause-order : goal.returns-clause-order
returns-clause-order c s e id n = order_stays e.at e.change s.resources id n
