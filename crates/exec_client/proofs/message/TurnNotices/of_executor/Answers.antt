use Rattle.std.proofs.Common.{List, ap, ◌∙◌}
use Rattle.ocf_types.specs.declared.notice.Notice.{Notice}
use Rattle.child_model.specs.declared.answer.Entry.{Entry}
use Rattle.exec_client.specs.MessageView.{Turn}
use Rattle.exec_client.proofs.message.TurnNotices.of_executor.Goals as goal

pub returns : goal.returns
returns g c = record {
  items =
      ap (λ (ns : List Notice). Turn c.book.result.now ns) c.notices.ensures.value
      ∙ ap (λ (book : List Entry). Turn book c.args.executor.now.reported) c.book.ensures.value;
}
