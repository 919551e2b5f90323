use Rattle.std.proofs.Common.{None}
use Rattle.std.proofs.KnownBytes.{Appends-nil}
use Rattle.exec_replies.specs.Replies.{notice_line}
use Rattle.exec_replies.specs.declared.notice.Origin.TheVariants.{Opening}
use Rattle.exec_replies.proofs.PrefixLemmas.{on_err, prefix_more, sends_more}
use Rattle.exec_replies.proofs.json_lines.JsonLines.put_report.Goals as goal

pub loop-notice-init : goal.loop-notice-init
loop-notice-init g c = Appends-nil (g.W.Output.contents c.args.self.now.writer)

pub loop-notice-preserved : goal.loop-notice-preserved
loop-notice-preserved g c =
    sends_more (notice_line c.args.form None None Opening) c.args.notices.now c.loop-notice.notice-index c.notice-item.result _ _ _ c.loop-notice-test.true c.notice-item.is
    c.loop-notice.invariant c.in_ok-put_notice.ensures.sent

pub returns-in_err-put_notice-clause-prefix : goal.returns-in_err-put_notice-clause-prefix
returns-in_err-put_notice-clause-prefix g c =
    on_err c.from_residual.result _
    (prefix_more (notice_line c.args.form None None Opening) c.args.notices.now c.loop-notice.notice-index c.notice-item.result _ _ _ c.loop-notice-test.true
    c.notice-item.is c.loop-notice.invariant c.in_err-put_notice.ensures.prefix)
