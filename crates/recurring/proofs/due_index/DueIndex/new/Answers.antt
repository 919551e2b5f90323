use Rattle.recurring.proofs.Tied.{tied_none}
use Rattle.recurring.proofs.due_index.DueIndex.new.Goals as goal

pub invariant_of-result : goal.invariant_of-result
invariant_of-result g c = rw c.new-2.ensures (tied_none c.new.result.entries c.new.ensures.empty)
