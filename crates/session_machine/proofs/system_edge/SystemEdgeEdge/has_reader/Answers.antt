use Rattle.std.proofs.Common.{refl}
use Rattle.session_machine.proofs.EdgeLemmas.{followed, asks_nothing, ticks_none}
use Rattle.session_machine.proofs.system_edge.SystemEdgeEdge.has_reader.Goals as goal

pub invariant_of-self : goal.invariant_of-self
invariant_of-self g c = (followed _ c.self.invariant.0 c.self.view_is c.follow.ensures c.requires.may (asks_nothing _ _ refl refl) (ticks_none refl) tt c.has_reader-still_reads.ensures.noted, c.self.invariant.1)
