use Rattle.std.proofs.lemmas.Result.{on_ok_weaker}
use Rattle.exec_replies.specs.Replies.{following, run_data}
use Rattle.exec_replies.specs.declared.notice.NoticeForm.TheVariants.{Short}
use Rattle.exec_replies.proofs.WriteLemmas.{line_and_more}
use Rattle.exec_replies.proofs.write.write_run_reply.Goals as goal

pub returns : goal.returns
returns c = record {
  line =
      on_ok_weaker c.push_after.result
      (λ whole. line_and_more (run_data c.args.reply.now) _ _ c.in_ok-buffer.field-0.line.items (following Short c.args.reply.now) _ c.in_ok-tokens.ensures.tokens
      c.in_ok-put_run_reply.ensures.ok c.in_ok-buffer.ensures.line whole)
      c.push_after.ensures.value;
}
