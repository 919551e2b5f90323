use Rattle.std.proofs.Common.{[], ◌∷◌, ◌++◌}
use Rattle.std.proofs.lemmas.Result.{on_ok_weaker}
use Rattle.std.specs.Prelude.{codes}
use Rattle.exec_replies.specs.Places.{counts_tokens, place_tokens}
use Rattle.json.specs.Token.{end_object}
use Rattle.exec_replies.specs.Tokens.{kind_member, tag_member, text_member}
use Rattle.exec_replies.specs.Service.{lent}
use Rattle.exec_replies.proofs.AddLemmas.{added, joined}
use Rattle.exec_replies.proofs.WholeLemmas.{ready_whole}
use Rattle.exec_replies.proofs.service.put_ready.Goals as goal

pub returns : goal.returns
returns c = record {
  ok =
      let rest4 = end_object ∷ [] in
      let rest3 = text_member (codes "version") c.args.service.version.now ++ rest4 in
      let rest2 = tag_member (lent c.args.marks.tag) ++ rest3 in
      let rest1 = counts_tokens c.args.counts.now ++ rest2 in
      let rest0 = kind_member c.args.marks.kind ++ rest1 in
      on_ok_weaker c.end_object.result
      (λ last. added _ _ _ _ (ready_whole c.args.marks.kind (lent c.args.marks.tag) c.args.service c.args.counts.now)
      (joined (place_tokens c.args.service c.args.counts.now) rest0 _ _ _ c.in_ok-put_place.ensures.ok
      (joined (kind_member c.args.marks.kind) rest1 _ _ _ c.in_ok-put_kind.ensures.ok
      (joined (counts_tokens c.args.counts.now) rest2 _ _ _ c.in_ok-put_counts.ensures.ok
      (joined (tag_member (lent c.args.marks.tag)) rest3 _ _ _ c.in_ok-put_tag.ensures.ok
      (joined (text_member (codes "version") c.args.service.version.now) rest4 _ _ _ c.in_ok-text.ensures.ok
      last))))))
      c.end_object.ensures.ok;
}
