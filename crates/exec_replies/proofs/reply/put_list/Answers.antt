use Rattle.std.proofs.Common.{[], ◌∷◌, ◌++◌}
use Rattle.std.proofs.lemmas.Result.{on_ok_weaker}
use Rattle.exec_replies.specs.Tokens.{array_member, flag_member, kind_member, tag_member, values_tokens}
use Rattle.json.specs.Token.{begin_object, end_array, end_object}
use Rattle.std.specs.Prelude.{codes, true}
use Rattle.exec_replies.specs.Service.{lent}
use Rattle.serde_json.specs.Data.{string}
use Rattle.exec_replies.proofs.AddLemmas.{added, joined}
use Rattle.exec_replies.proofs.WholeLemmas.{list_whole}
use Rattle.exec_replies.proofs.reply.put_list.Goals as goal

pub returns : goal.returns
returns c = record {
  ok =
      let rest6 = end_object ∷ [] in
      let rest5 = tag_member (lent c.args.marks.tag) ++ rest6 in
      let rest4 = end_array ∷ [] ++ rest5 in
      let rest3 = values_tokens string c.args.ids.now ++ rest4 in
      let rest2 = array_member (codes "resources") ++ rest3 in
      let rest1 = flag_member (codes "ok") true ++ rest2 in
      let rest0 = kind_member c.args.marks.kind ++ rest1 in
      on_ok_weaker c.end_object.result
      (λ last. added _ _ _ _ (list_whole c.args.marks.kind (lent c.args.marks.tag) c.args.ids.now)
      (joined (begin_object ∷ []) rest0 _ _ _ c.in_ok-begin_object.ensures.ok
      (joined (kind_member c.args.marks.kind) rest1 _ _ _ c.in_ok-put_kind.ensures.ok
      (joined (flag_member (codes "ok") true) rest2 _ _ _ c.in_ok-flag.ensures.ok
      (joined (array_member (codes "resources")) rest3 _ _ _ c.in_ok-begin_array.ensures.ok
      (joined (values_tokens string c.args.ids.now) rest4 _ _ _ c.in_ok-put_ids.ensures.ok
      (joined (end_array ∷ []) rest5 _ _ _ c.in_ok-end_array.ensures.ok
      (joined (tag_member (lent c.args.marks.tag)) rest6 _ _ _ c.in_ok-put_tag.ensures.ok
      last))))))))
      c.end_object.ensures.ok;
}
