use Rattle.std.proofs.Common.{◌≡◌, None, ap, ◌∙◌}
use Rattle.std.specs.List.{flat_map}
use Rattle.exec_replies.specs.Replies.{notice_line}
use Rattle.exec_replies.specs.declared.notice.Origin.TheVariants.{Opening}
use Rattle.exec_client.specs.SentItem.{lines_of, sent_in}
use Rattle.exec_client.specs.MessageTags.{sent_tags}
use Rattle.exec_client.specs.MessageView.{message_view}
use Rattle.exec_client.specs.declared.message.Message.{Message}
use Rattle.exec_client.proofs.Lines.{err_same, ok_same, report_lines}
use Rattle.exec_client.proofs.json_client.put_message.Goals as goal

pub returns-in-Report-clause-sent : goal.returns-in-Report-clause-sent
returns-in-Report-clause-sent g c =
    let form = c.args.making.now.form in
    let reasons = c.args.making.now.reasons.now in
    let ns = c.in-Report.notices.now in
    let lines : lines_of form reasons (sent_tags c.args.tags.now (message_view c.args.what.now)) (sent_in (message_view c.args.what.now))
    ≡ flat_map (notice_line form None None Opening) ns =
    ap (λ (w : Message). lines_of form reasons (sent_tags c.args.tags.now (message_view w)) (sent_in (message_view w))) c.in-Report.is
    ∙ report_lines form reasons ns
    in
    ok_same c.put_report.result _ _ _ _ lines c.put_report.ensures.sent

pub returns-in-Report-clause-prefix : goal.returns-in-Report-clause-prefix
returns-in-Report-clause-prefix g c =
    let form = c.args.making.now.form in
    let reasons = c.args.making.now.reasons.now in
    let ns = c.in-Report.notices.now in
    let lines : lines_of form reasons (sent_tags c.args.tags.now (message_view c.args.what.now)) (sent_in (message_view c.args.what.now))
    ≡ flat_map (notice_line form None None Opening) ns =
    ap (λ (w : Message). lines_of form reasons (sent_tags c.args.tags.now (message_view w)) (sent_in (message_view w))) c.in-Report.is
    ∙ report_lines form reasons ns
    in
    err_same c.put_report.result _ _ _ _ lines c.put_report.ensures.prefix
