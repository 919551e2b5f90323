use Rattle.session_machine.proofs.EndLemmas.{answers_only, ends_answered}
use Rattle.session_machine.proofs.laws.lemma_only_answers_after_the_input.Goals as goal

pub returns-clause-answers : goal.returns-clause-answers
returns-clause-answers g c = λ first s events e is way ended may. answers_only is events s way ended e may

pub returns-clause-over : goal.returns-clause-over
returns-clause-over g c = λ first s events is way ended none at. ends_answered is events s way ended none at
