use Rattle.std.proofs.Common.{refl}
use Rattle.session_machine.proofs.EdgeLemmas.{followed, asks_nothing}
use Rattle.session_machine.proofs.system_edge.SystemEdgeEdge.rest.Goals as goal

pub invariant_of-self : goal.invariant_of-self
invariant_of-self g c = (followed _ c.self.invariant.0 c.self.view_is c.follow.ensures c.requires.may (asks_nothing _ _ refl refl) c.rest.ensures.asked tt refl, c.self.invariant.1)
