use Rattle.session_machine.proofs.CountLemmas.{first_fresh, polls_few, polls_since, reads_few, reads_since, waits_few, waits_since}
use Rattle.session_machine.proofs.laws.lemma_turns_between_waits.Goals as goal

pub returns-clause-waits : goal.returns-clause-waits
returns-clause-waits g c = λ first s events is way. (waits_since (first_fresh is) events s way, waits_few (first_fresh is) events s way)

pub returns-clause-polls : goal.returns-clause-polls
returns-clause-polls g c = λ first s events is way. (polls_since (first_fresh is) events s way, polls_few (first_fresh is) events s way)

pub returns-clause-reads : goal.returns-clause-reads
returns-clause-reads g c =
    λ first s events is serves way. (reads_since (first_fresh is) serves events s way, reads_few (first_fresh is) serves events s way)
