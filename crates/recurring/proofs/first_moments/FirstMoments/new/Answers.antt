use Rattle.recurring.proofs.Tournament.{no_nodes}
use Rattle.recurring.proofs.first_moments.FirstMoments.new.Goals as goal

pub invariant_of-result : goal.invariant_of-result
invariant_of-result g c = rw c.new.ensures.items no_nodes
