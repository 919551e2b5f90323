use Rattle.std.proofs.lemmas.Result.{on_ok_weaker}
use Rattle.exec_replies.specs.Infos.{recur_first, recur_rest}
use Rattle.exec_replies.proofs.AddLemmas.{added, joined}
use Rattle.exec_replies.proofs.WholeLemmas.{recur_whole}
use Rattle.exec_replies.proofs.info.put_recur.Goals as goal

pub returns : goal.returns
returns c = record {
  ok =
      let rest0 = recur_rest c.args.monitor.now in
      on_ok_weaker c.put_recur_rest.result
      (λ last. added _ _ _ _ (recur_whole c.args.monitor.now)
      (joined (recur_first c.args.monitor.now) rest0 _ _ _ c.in_ok-put_recur_first.ensures.ok
      last))
      c.put_recur_rest.ensures.ok;
}
