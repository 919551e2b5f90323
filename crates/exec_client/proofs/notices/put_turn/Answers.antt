use Rattle.std.proofs.Common.{refl, ap, ◌∙◌}
use Rattle.exec_replies.proofs.PrefixLemmas.{on_err}
use Rattle.ocf_types.specs.declared.notice.Notice.{Notice}
use Rattle.exec_client.specs.Tags.{after_notice}
use Rattle.exec_client.proofs.Along.{along_none}
use Rattle.exec_client.proofs.Lines.{appends_same, prefix_same, notices_all, notices_more, notices_part, signaled_line}
use Rattle.exec_client.proofs.notices.put_turn.Goals as goal

pub loop-notice-init : goal.loop-notice-init
loop-notice-init g c = record { lines = along_none _ _; kept = refl }

pub loop-notice-preserved : goal.loop-notice-preserved
loop-notice-preserved g c =
    let form = c.args.making.now.form in
    let reasons = c.args.making.now.reasons.now in
    let book = c.args.turn.now.book.now in
    let signaled = c.with_signal.result in
    let line = signaled_line form reasons book c.loop-notice.tags signaled.notice.now c.notice-item.result signaled.signal c.with_signal.ensures.notice
    c.with_signal.ensures.signal in
    notices_more form reasons book _ _ _ c.args.turn.now.notices.now c.loop-notice.notice-index c.notice-item.result _ _ _ c.loop-notice-test.true
    c.notice-item.is c.loop-notice.invariant (appends_same _ _ _ _ line c.in_ok-put_signaled.ensures.sent)
    (c.in_ok-put_signaled.ensures.kept ∙ ap (λ (n : Notice). after_notice n c.loop-notice.tags) c.with_signal.ensures.notice)

pub returns-in_err-put_signaled-clause-prefix : goal.returns-in_err-put_signaled-clause-prefix
returns-in_err-put_signaled-clause-prefix g c =
    let form = c.args.making.now.form in
    let reasons = c.args.making.now.reasons.now in
    let book = c.args.turn.now.book.now in
    let signaled = c.with_signal.result in
    let line = signaled_line form reasons book c.loop-notice.tags signaled.notice.now c.notice-item.result signaled.signal c.with_signal.ensures.notice
    c.with_signal.ensures.signal in
    on_err c.from_residual.result _
    (notices_part form reasons book _ _ c.args.turn.now.notices.now c.loop-notice.notice-index c.notice-item.result _ _ _ c.loop-notice-test.true
    c.notice-item.is c.loop-notice.invariant (prefix_same _ _ _ _ line c.in_err-put_signaled.ensures.prefix))

pub returns-clause-sent : goal.returns-clause-sent
returns-clause-sent g c =
    (notices_all c.args.making.now.form c.args.making.now.reasons.now c.args.turn.now.book.now _ _ c.args.turn.now.notices.now c.loop-notice.notice-index _ _
    c.loop-notice-test.false c.loop-notice.invariant).0

pub returns-clause-kept : goal.returns-clause-kept
returns-clause-kept g c =
    (notices_all c.args.making.now.form c.args.making.now.reasons.now c.args.turn.now.book.now _ _ c.args.turn.now.notices.now c.loop-notice.notice-index _ _
    c.loop-notice-test.false c.loop-notice.invariant).1
