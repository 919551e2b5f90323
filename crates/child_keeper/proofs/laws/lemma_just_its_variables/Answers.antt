use Rattle.std.proofs.Common.{None}
use Rattle.child_keeper.proofs.CommandLemmas.{given_each, given_only}
use Rattle.child_keeper.proofs.laws.lemma_just_its_variables.Goals as goal

pub returns : goal.returns
returns c = λ pairs name value sorted. (given_only None pairs name value sorted, given_each None pairs name value sorted)
