use Rattle.std.proofs.Common.{refl, arith}
use Rattle.recurring.proofs.Tied.{tied_grown}
use Rattle.recurring.proofs.due_index.DueIndex.reserve.Goals as goal

pub invariant_of-self : goal.invariant_of-self
invariant_of-self g c =
    tied_grown c.self.inside.resources.entries c.reserve_entries.new.map.entries c.self.inside.firsts c.self.inside.firsts c.self.invariant
    c.reserve_entries.ensures.entries (omega arith) (λ k. refl)
