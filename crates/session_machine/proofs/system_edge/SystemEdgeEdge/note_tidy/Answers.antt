use contract.BorrowLft.{⊑_meet, ⊑_static}
use Rattle.std.proofs.Common.{refl}
use Rattle.session_machine.proofs.EdgeLemmas.{followed, asks_nothing, ticks_none}
use Rattle.session_machine.proofs.system_edge.SystemEdgeEdge.note_tidy.Goals as goal

pub follow-requires : goal.follow-requires
follow-requires g c κs within = Prim.search (⊑_meet, ⊑_static) depth 40 fits 20000

pub invariant_of-self : goal.invariant_of-self
invariant_of-self g c = (followed _ c.self.invariant.0 c.self.view_is c.follow.ensures c.requires.may (asks_nothing _ _ refl refl) (ticks_none refl) tt refl, c.self.invariant.1)
