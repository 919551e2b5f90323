use Rattle.std.proofs.Common.{[], ◌∷◌, ◌++◌}
use Rattle.std.proofs.lemmas.Result.{on_ok_weaker}
use Rattle.std.specs.Prelude.{codes}
use Rattle.json.specs.Token.{end_object}
use Rattle.exec_replies.specs.Infos.{info_lists, info_more, info_state}
use Rattle.exec_replies.specs.Tokens.{kind_member, tag_member, text_member}
use Rattle.exec_replies.specs.Service.{lent}
use Rattle.exec_replies.proofs.AddLemmas.{added, joined}
use Rattle.exec_replies.proofs.WholeLemmas.{info_whole}
use Rattle.exec_replies.proofs.info.put_info.Goals as goal

pub returns : goal.returns
returns c = record {
  ok =
      let rest5 = end_object ∷ [] in
      let rest4 = text_member (codes "type") c.args.info.now.agent ++ rest5 in
      let rest3 = tag_member (lent c.args.marks.tag) ++ rest4 in
      let rest2 = info_more c.args.info.now ++ rest3 in
      let rest1 = info_lists c.args.info.now ++ rest2 in
      let rest0 = kind_member c.args.marks.kind ++ rest1 in
      on_ok_weaker c.end_object.result
      (λ last. added _ _ _ _ (info_whole c.args.marks.kind (lent c.args.marks.tag) c.args.info.now)
      (joined (info_state c.args.info.now) rest0 _ _ _ c.in_ok-put_state.ensures.ok
      (joined (kind_member c.args.marks.kind) rest1 _ _ _ c.in_ok-put_kind.ensures.ok
      (joined (info_lists c.args.info.now) rest2 _ _ _ c.in_ok-put_registered.ensures.ok
      (joined (info_more c.args.info.now) rest3 _ _ _ c.in_ok-put_work.ensures.ok
      (joined (tag_member (lent c.args.marks.tag)) rest4 _ _ _ c.in_ok-put_tag.ensures.ok
      (joined (text_member (codes "type") c.args.info.now.agent) rest5 _ _ _ c.in_ok-put_type.ensures.ok
      last)))))))
      c.end_object.ensures.ok;
}
