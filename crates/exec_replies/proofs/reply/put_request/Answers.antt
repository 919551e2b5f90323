use Rattle.std.proofs.Common.{◌≡◌, ◌++◌, OnOk, subst, sym}
use Rattle.ocf_model.specs.Answer.{Reply}
use Rattle.exec_replies.specs.Replies.{request_data}
use Rattle.exec_replies.specs.Tags.{marked_tokens}
use Rattle.exec_replies.proofs.reply.put_request.Goals as goal

pub returns-in-Info : goal.returns-in-Info
returns-in-Info c = record {
  ok =
      subst (λ (r : Reply). OnOk c.put_info.result (c.put_info.new.line ≡ c.args.line.now ++ marked_tokens c.args.marks (request_data r)))
      (sym c.in-Info.is) c.put_info.ensures.ok;
}
