use Rattle.std.proofs.Common.{refl}
use Rattle.session_machine.proofs.EdgeLemmas.{followed, asks_only, ticks_none}
use Rattle.session_machine.proofs.system_edge.SystemEdgeEdge.has_line.Goals as goal

pub invariant_of-self : goal.invariant_of-self
invariant_of-self g c = (followed _ c.self.invariant.0 c.self.view_is c.follow.ensures c.requires.may (asks_only _ _ _ c.has_line-has_line.ensures.left c.has_line-has_line.ensures.asked refl) (ticks_none refl) tt refl, c.self.invariant.1)
