use contract.BorrowLft.{⊑_meet, ⊑_static}
use Rattle.std.proofs.Common.{rules}
use Rattle.session_machine.proofs.EdgeLemmas.{begun_kept}
use Rattle.session_machine.proofs.system_edge.SystemEdge.new.Goals as goal

pub at-note-requires : goal.at-note-requires
at-note-requires g c κs within = Prim.search (⊑_meet, ⊑_static) depth 40 fits 20000

pub invariant_of-result : goal.invariant_of-result
invariant_of-result g c = (begun_kept _ c.at-note.ensures c.requires.new, search rules)
