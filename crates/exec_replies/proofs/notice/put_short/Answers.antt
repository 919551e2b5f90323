use Rattle.std.proofs.lemmas.Result.{on_ok_weaker}
use Rattle.exec_replies.specs.Notices.{short_first, short_rest}
use Rattle.exec_replies.proofs.AddLemmas.{added, joined}
use Rattle.exec_replies.proofs.WholeLemmas.{short_whole}
use Rattle.exec_replies.proofs.notice.put_short.Goals as goal

pub returns : goal.returns
returns c = record {
  ok =
      let rest0 = short_rest c.args.notice.now.result in
      on_ok_weaker c.put_short_rest.result
      (λ last. added _ _ _ _ (short_whole c.args.notice.now)
      (joined (short_first c.args.notice.now) rest0 _ _ _ c.in_ok-put_short_first.ensures.ok
      last))
      c.put_short_rest.ensures.ok;
}
