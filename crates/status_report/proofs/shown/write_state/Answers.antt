use Rattle.std.proofs.Common.{◌≡◌}
use Rattle.ocf_model.specs.declared.reply.ReplyOf.TheVariants as reply
use Rattle.status_report.proofs.TextLemmas.{shows}
use Rattle.status_report.proofs.shown.write_state.Goals as goal

pub returns-clause-written : goal.returns-clause-written
returns-clause-written g c =
    let said = c.in-Request-List.is in
    let listed = c.in-Request-List.field-0-is in
    let ids = c.as_slice.ensures in
    let is : c.answer.result ≡ reply.List c.as_slice.result.now = cc in
    shows c.args.state.now.state c.as_slice.result.now c.answer.result c.write_resources.result _ _ _ c.answer.ensures.reply is
    c.in_ok-send_plain.ensures.sent c.write_resources.ensures.written
