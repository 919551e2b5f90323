use Rattle.std.proofs.lemmas.Result.{on_ok_weaker}
use Rattle.exec_replies.specs.Results.{ended_first, ended_rest}
use Rattle.exec_replies.proofs.AddLemmas.{added, joined}
use Rattle.exec_replies.proofs.WholeLemmas.{ended_whole}
use Rattle.exec_replies.proofs.results.put_ended.Goals as goal

pub returns : goal.returns
returns c = record {
  ok =
      let rest0 = ended_rest c.args.ended.now in
      on_ok_weaker c.put_ended_rest.result
      (λ last. added _ _ _ _ (ended_whole c.args.ended.now)
      (joined (ended_first c.args.ended.now) rest0 _ _ _ c.in_ok-put_ended_first.ensures.ok
      last))
      c.put_ended_rest.ensures.ok;
}
