use Rattle.std.proofs.Common.{[], ◌∷◌, ◌++◌}
use Rattle.std.proofs.lemmas.Result.{on_ok_weaker}
use Rattle.std.specs.Prelude.{codes}
use Rattle.json.specs.Token.{end_object}
use Rattle.exec_replies.specs.Tokens.{kind_member, number_member, tag_member, text_or_null_member}
use Rattle.exec_replies.specs.Service.{lent}
use Rattle.exec_replies.specs.Notices.{lives_tokens, signal_tokens, timed_first, timed_how, timed_key}
use Rattle.exec_replies.proofs.AddLemmas.{added, joined}
use Rattle.exec_replies.proofs.WholeLemmas.{timed_whole}
use Rattle.exec_replies.proofs.notice.put_timed.Goals as goal

pub returns : goal.returns
returns c = record {
  ok =
      let rest9 = end_object ∷ [] in
      let rest8 = tag_member (lent c.args.marks.tag) ++ rest9 in
      let rest7 = number_member (codes "since") c.args.notice.now.result.since ++ rest8 in
      let rest6 = signal_tokens c.args.extras.signal ++ rest7 in
      let rest5 = number_member (codes "run") c.args.notice.now.result.run ++ rest6 in
      let rest4 = text_or_null_member (codes "reason") (lent c.args.extras.reason) ++ rest5 in
      let rest3 = timed_how c.args.notice.now.result ++ rest4 in
      let rest2 = lives_tokens c.args.extras.lives ++ rest3 in
      let rest1 = kind_member c.args.marks.kind ++ rest2 in
      let rest0 = timed_key c.args.notice.now ++ rest1 in
      on_ok_weaker c.end_object.result
      (λ last. added _ _ _ _ (timed_whole c.args.marks.kind (lent c.args.marks.tag) c.args.extras.lives c.args.extras.signal (lent c.args.extras.reason) c.args.notice.now)
      (joined (timed_first c.args.notice.now) rest0 _ _ _ c.in_ok-put_timed_first.ensures.ok
      (joined (timed_key c.args.notice.now) rest1 _ _ _ c.in_ok-put_timed_key.ensures.ok
      (joined (kind_member c.args.marks.kind) rest2 _ _ _ c.in_ok-put_kind.ensures.ok
      (joined (lives_tokens c.args.extras.lives) rest3 _ _ _ c.in_ok-put_lives.ensures.ok
      (joined (timed_how c.args.notice.now.result) rest4 _ _ _ c.in_ok-put_timed_how.ensures.ok
      (joined (text_or_null_member (codes "reason") (lent c.args.extras.reason)) rest5 _ _ _ c.in_ok-text_or_null.ensures.ok
      (joined (number_member (codes "run") c.args.notice.now.result.run) rest6 _ _ _ c.in_ok-put_run.ensures.ok
      (joined (signal_tokens c.args.extras.signal) rest7 _ _ _ c.in_ok-put_signal.ensures.ok
      (joined (number_member (codes "since") c.args.notice.now.result.since) rest8 _ _ _ c.in_ok-put_since.ensures.ok
      (joined (tag_member (lent c.args.marks.tag)) rest9 _ _ _ c.in_ok-put_tag.ensures.ok
      last)))))))))))
      c.end_object.ensures.ok;
}
