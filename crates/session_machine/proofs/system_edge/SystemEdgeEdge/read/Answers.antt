use Rattle.std.proofs.Common.{rules, refl, ap, ◌∙◌}
use Rattle.exec_lines.proofs.LineLemmas.{kept-more}
use Rattle.session_machine.specs.Behaviours.{then}
use Rattle.session_machine.specs.EdgeView.{EdgeView}
use Rattle.session_machine.proofs.EdgeLemmas.{followed, ticks_none}
use Rattle.session_machine.proofs.ReadEvents.{last_read, err_asks, err_is, ok_asks, ok_is}
use Rattle.session_machine.proofs.system_edge.SystemEdgeEdge.read.Goals as goal

pub invariant_of-self : goal.invariant_of-self
invariant_of-self g c =
    let S = g.row.S.Denot in
    let takes = c.take_piece-read.ensures.takes in (
      followed _ c.self.invariant.0 c.self.view_is (c.follow.ensures ∙ ap (then c.self.inside.note.trace) (ok_is S takes c.in-Ok.is))
          c.requires.may (ok_asks S takes c.in-Ok.is) (ticks_none refl) tt refl,
      c.self.invariant.1,
    )

pub invariant_of-self-in-Err : goal.invariant_of-self-in-Err
invariant_of-self-in-Err g c =
    let S = g.row.S.Denot in
    let takes = c.take_piece-read.ensures.takes in (
      followed _ c.self.invariant.0 c.self.view_is (c.follow.ensures ∙ ap (then c.self.inside.note.trace) (err_is S takes c.in-Err.is))
          c.requires.may (err_asks S takes c.in-Err.is) (ticks_none refl) tt refl,
      search rules,
    )

pub returns-in-Ok : goal.returns-in-Ok
returns-in-Ok g c =
    let S = g.row.S.Denot in
    let takes = c.take_piece-read.ensures.takes in
    let kept = kept-more _ _ _ _ c.requires.kept takes.kept in
    record {
      reads = (
        takes.part,
        c.in-Ok.piece,
        c.follow.ensures ∙ ap (λ (v : EdgeView S). then v.trace (last_read (g.I.Input.view c.take_piece-read.new.self).asked)) c.self.view_is
            ∙ ap (then c.args.self.now.trace) (ok_is S takes c.in-Ok.is),
        c.next_in.ensures _ kept,
        kept,
      );
    }

pub returns-in-Err : goal.returns-in-Err
returns-in-Err g c =
    let S = g.row.S.Denot in
    record {
      reads =
          c.follow.ensures ∙ ap (λ (v : EdgeView S). then v.trace (last_read (g.I.Input.view c.take_piece-read.new.self).asked)) c.self.view_is
          ∙ ap (then c.args.self.now.trace) (err_is S c.take_piece-read.ensures.takes c.in-Err.is);
    }
