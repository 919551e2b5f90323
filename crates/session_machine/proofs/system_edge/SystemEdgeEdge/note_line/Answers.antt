use contract.BorrowLft.{⊑_meet, ⊑_static}
use Rattle.std.proofs.Common.{ap, ◌∙◌}
use Rattle.std.specs.Prelude.{is_ok}
use Rattle.session_machine.specs.Behaviours.{then}
use Rattle.session_machine.proofs.EdgeLemmas.{followed, ticks_none}
use Rattle.session_machine.proofs.NotedLines.{noted_as, noted_asks, noted_client, noted_given, noted_may, noted_ticks}
use Rattle.session_machine.proofs.system_edge.SystemEdgeEdge.note_line.Goals as goal

pub follow-requires : goal.follow-requires
follow-requires g c κs within = Prim.search (⊑_meet, ⊑_static) depth 40 fits 20000

pub invariant_of-self : goal.invariant_of-self
invariant_of-self g c =
    let S = g.row.S.Denot in
    let noted = is_ok c.note_tag-noted.result in
    let line = c.args.line.now in (
      followed (noted_as noted line c.args.tag) c.self.invariant.0 c.self.view_is
          (c.follow.ensures ∙ ap (λ tag. then c.self.inside.note.trace (noted_as noted line tag)) c.of-seen.ensures)
          (noted_may _ _ c.note_tag-noted.result line c.args.tag c.requires.may (λ why. why.refused))
          (noted_asks S _ noted line c.args.tag) (ticks_none (noted_ticks S noted line c.args.tag)) (noted_given S _ noted line c.args.tag)
          (c.note_tag-noted.ensures.noted ∙ noted_client _ noted line c.args.tag),
      c.self.invariant.1,
    )
