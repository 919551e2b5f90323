use Rattle.std.proofs.Common.{◌++◌, ap, ◌∙◌}
use Rattle.std.proofs.lemmas.Result.{on_ok_weaker}
use Rattle.exec_commands.specs.Messages.{about_key, message_of}
use Rattle.exec_replies.specs.Errors.{error_tokens, message_tokens}
use Rattle.exec_replies.specs.Service.{lent}
use Rattle.exec_replies.proofs.AddLemmas.{added, joined}
use Rattle.exec_replies.proofs.WholeLemmas.{refused_whole}
use Rattle.exec_replies.proofs.refused.put_refused.Goals as goal

pub returns : goal.returns
returns c = record {
  ok =
      let marks = c.args.marks in
      let why = c.args.refusal.now.why in
      let about = c.args.refusal.now.about in
      let message = message_of why about in
      let whole =
      ap (λ k. error_tokens why k ++ message_tokens marks why message) c.about_key.ensures
      ∙ refused_whole marks.kind (lent marks.tag) (about_key why about) why message
      in
      on_ok_weaker c.put_message.result
      (λ last. added _ _ _ _ whole
      (joined (error_tokens why (lent c.about_key.result)) (message_tokens marks why message) _ _ _ c.in_ok-put_error.ensures.ok last))
      c.put_message.ensures.ok;
}
