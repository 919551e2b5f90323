use Rattle.exec_client.proofs.Lines.{Answers}
use Rattle.exec_client.proofs.replies.answer_requests.Given as goal

abbrev pub invariant-loop-reply : goal.invariant-loop-reply
invariant-loop-reply g l =
    Answers l.making.form l.making.reasons.now l.fn.tags l.tags l.replies l.reply-index (g.W.Output.contents l.fn.lines.writer) (g.W.Output.contents l.lines.writer)
