use Rattle.recurring.proofs.Tied.{tied_first}
use Rattle.recurring.proofs.due_index.DueIndex.first_due.Goals as goal

pub returns : goal.returns
returns g c =
    rw (← c.self.view_is) (tied_first c.self.inside.resources.entries c.self.inside.firsts c.first.result c.self.invariant c.first.ensures)
