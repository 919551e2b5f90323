use Rattle.std.proofs.Common.{refl}
use Rattle.exec_replies.proofs.PrefixLemmas.{on_err}
use Rattle.exec_client.proofs.Along.{along_none}
use Rattle.exec_client.proofs.Lines.{answers_all, answers_more, answers_part}
use Rattle.exec_client.proofs.replies.answer_requests.Goals as goal

pub loop-reply-init : goal.loop-reply-init
loop-reply-init g c = record { lines = along_none _ _; kept = refl }

pub loop-reply-preserved : goal.loop-reply-preserved
loop-reply-preserved g c =
    answers_more c.args.making.now.form c.args.making.now.reasons.now _ _ _ c.args.replies.now c.loop-reply.reply-index c.reply-item.result _ _ _ c.loop-reply-test.true
    c.reply-item.is c.loop-reply.invariant c.in_ok-answer_request.ensures.sent c.in_ok-answer_request.ensures.kept

pub returns-in_err-answer_request-clause-prefix : goal.returns-in_err-answer_request-clause-prefix
returns-in_err-answer_request-clause-prefix g c =
    on_err c.from_residual.result _
    (answers_part c.args.making.now.form c.args.making.now.reasons.now _ _ c.args.replies.now c.loop-reply.reply-index c.reply-item.result _ _ _ c.loop-reply-test.true
    c.reply-item.is c.loop-reply.invariant c.in_err-answer_request.ensures.prefix)

pub returns-clause-sent : goal.returns-clause-sent
returns-clause-sent g c =
    (answers_all c.args.making.now.form c.args.making.now.reasons.now _ _ c.args.replies.now c.loop-reply.reply-index _ _ c.loop-reply-test.false c.loop-reply.invariant).0

pub returns-clause-kept : goal.returns-clause-kept
returns-clause-kept g c =
    (answers_all c.args.making.now.form c.args.making.now.reasons.now _ _ c.args.replies.now c.loop-reply.reply-index _ _ c.loop-reply-test.false c.loop-reply.invariant).1
