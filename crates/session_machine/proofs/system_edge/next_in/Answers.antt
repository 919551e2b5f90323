use Rattle.std.proofs.Common.{◌≡◌, Some, ap, subst, sym, ⊎_elim}
use Rattle.exec_lines.specs.Pieces.{answer_at}
use Rattle.exec_lines.specs.declared.line.Piece.{Piece}
use Rattle.session_machine.specs.Edges.{next_after}
use Rattle.session_machine.proofs.system_edge.next_in.Goals as goal

pub returns-in-Last : goal.returns-in-Last
returns-in-Last c = λ line held.
    let n = c.of.result in
    ⊎_elim
    (λ is. subst (λ (p : Piece). n ≡ answer_at p line → Some n ≡ next_after p line) (sym is) (λ said. ap Some said) (c.of.ensures line held))
    (λ is. subst (λ (p : Piece). n ≡ answer_at p line → Some n ≡ next_after p line) (sym is) (λ said. ap Some said) (c.of.ensures line held))
    c.in-Last.is
