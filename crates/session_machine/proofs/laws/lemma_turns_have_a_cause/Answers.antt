use Rattle.std.proofs.Common.{sym, ◌∙◌}
use Rattle.session_machine.proofs.CountLemmas.{counted, first_fresh, own_turn_due}
use Rattle.session_machine.proofs.laws.lemma_turns_have_a_cause.Goals as goal

pub returns-clause-looked : goal.returns-clause-looked
returns-clause-looked g c =
    λ first s events end x is way may own. sym (counted (first_fresh is) way).looked ∙ (own_turn_due s may.now own may.due).looked

pub returns-clause-caused : goal.returns-clause-caused
returns-clause-caused g c =
    λ first s events end x is way may own. sym (counted (first_fresh is) way).woken ∙ (own_turn_due s may.now own may.due).woken

pub returns-clause-reads : goal.returns-clause-reads
returns-clause-reads g c = λ first s events is way. (counted (first_fresh is) way).reads
