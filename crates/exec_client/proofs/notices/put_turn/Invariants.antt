use Rattle.exec_client.proofs.Lines.{Noticing}
use Rattle.exec_client.proofs.notices.put_turn.Given as goal

abbrev pub invariant-loop-notice : goal.invariant-loop-notice
invariant-loop-notice g l =
    Noticing l.making.form l.making.reasons.now l.turn.book.now l.fn.tags l.tags l.turn.notices.now l.notice-index (g.W.Output.contents l.fn.lines.writer)
    (g.W.Output.contents l.lines.writer)
