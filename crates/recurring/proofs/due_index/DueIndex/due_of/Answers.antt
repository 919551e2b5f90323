use Rattle.std.proofs.Common.{arith}
use Rattle.recurring.proofs.due_index.DueIndex.due_of.Goals as goal

pub returns-in-Some : goal.returns-in-Some
returns-in-Some g c = rw (← c.self.view_is, ← c.in-Some.ensures.value) c.due.ensures

pub returns-in-None : goal.returns-in-None
returns-in-None g c = rw (← c.self.view_is, ← c.in-None.ensures.value) (λ k d lt. absurd (omega (arith, lt)))
