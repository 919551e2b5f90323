use Rattle.std.proofs.Common.{refl}
use Rattle.session_machine.proofs.EdgeLemmas.{followed, asks_only, ticks_none}
use Rattle.session_machine.proofs.system_edge.SystemEdgeEdge.poll.Goals as goal

pub invariant_of-self : goal.invariant_of-self
invariant_of-self g c = (followed _ c.self.invariant.0 c.self.view_is c.follow.ensures c.requires.may (asks_only _ _ _ c.is_ready-ready.ensures.left c.is_ready-ready.ensures.asked refl) (ticks_none refl) tt refl, c.self.invariant.1)
