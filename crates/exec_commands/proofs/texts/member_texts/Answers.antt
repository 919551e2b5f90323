use Rattle.std.proofs.Common.{◌≡◌, ℕ, true, not, is_ok, List, [], ◌∷◌, ◌++◌, Some, option_map, string_bytes, sym, ap, ◌∙◌, subst}
use Rattle.std.proofs.Common.{append-nil}
use Rattle.serde_json.specs.Find.{as_str}
use Rattle.serde_json.specs.View.{view, members_view}
use Rattle.serde_json.proofs.Views.{Entry}
use Rattle.ocf_types.specs.Params.{ParamList}
use Rattle.exec_commands.specs.Keys.{texts_seen, member_texts}
use Rattle.exec_commands.proofs.TextLemmas.{seen_push, if_taken, one_more, ascending}
use Rattle.exec_commands.proofs.texts.member_texts.Goals as goal

pub loop-name-preserved : goal.loop-name-preserved
loop-name-preserved c =
    let e : Entry = (c.in-Some.name.now, c.in-Some.member.now) in
    let left = c.next.new.self in
    let all = c.args.object.now.entries in
    let done = texts_seen c.loop-name.members.items in
    let step : c.loop-name.name-iterator ≡ e ∷ left = c.in-Some.ensures.steps in
    let text : as_str (view c.in-Some.member.now) ≡ Some c.in-Some-as_str.text.now = sym c.in-Some-as_str.ensures in
    let before : option_map (λ ps. done ++ ps) (member_texts (members_view (e ∷ left))) ≡ member_texts (members_view all) =
    rw step at c.loop-name.invariant in
    let next = one_more done (string_bytes c.in-Some.name.now) c.in-Some-as_str.text.now (view c.in-Some.member.now)
    (members_view left) _ text before in
    let name = c.as_str-in-loop-name.result in
    let text_there = c.in-Some-as_str.text in
    let room : is_ok c.push.result ≡ true = c.is_err.ensures.negation ∙ ap not c.if-is_err.false in
    let items : c.push.new.vec.items ≡ c.loop-name.members.items ++ (name, text_there) ∷ [] = if_taken
    (is_ok c.push.result) _ _ _ room c.push.ensures.items in
    let pushed : texts_seen c.push.new.vec.items ≡ done ++ (string_bytes c.in-Some.name.now, c.in-Some-as_str.text.now) ∷ [] =
    ap texts_seen items ∙ seen_push c.loop-name.members.items name text_there
    ∙ ap (λ (n : List ℕ). done ++ (n, text_there.now) ∷ []) c.as_str-in-loop-name.ensures.value in
    subst (λ (xs : ParamList). option_map (λ ps. xs ++ ps) (member_texts (members_view left)) ≡ member_texts (members_view all))
    (sym pushed) next

pub returns-clause-sorted : goal.returns-clause-sorted
returns-clause-sorted c =
    let all = c.args.object.now.entries in
    let done = texts_seen c.loop-name.members.items in
    let whole : member_texts (members_view all) ≡ Some done =
    sym (rw c.in-None.ensures.steps.0 at c.loop-name.invariant) ∙ ap (λ (ps : ParamList). Some ps) (append-nil done) in
    ascending all done whole c.iter-name-items.ensures.ordered
