-- Objects whose members are texts.
use Rattle.std.proofs.Common.{◌≡◌, ℕ, Bool, true, false, if◌then◌else◌, Bor, List, [], ◌∷◌, ◌++◌, Option, Some, None, option_map}
use Rattle.std.proofs.Common.{option_and_then, String, Global, string_bytes, string_cmp, Less, refl, sym, ap, ◌∙◌, append_assoc}
use Rattle.std.specs.List.{AllByRecursion}
use Rattle.std.specs.List.Sorted.{IsStrictlySortedBy}
use Rattle.std.specs.Map.{keys_of}
use Rattle.std.specs.Ordering.{is_lt}
use Rattle.std.specs.Str.{is_utf8, IsUtf8}
use Rattle.std.proofs.lemmas.Str.{IsUtf8-from_is_utf8, is_utf8-from_IsUtf8}
use Rattle.serde_json.specs.Data.{Data, Members, member}
use Rattle.serde_json.specs.Find.{as_str}
use Rattle.serde_json.specs.View.{view, members_view}
use Rattle.serde_json.proofs.Views.{Entry}
use Rattle.ocf_types.specs.Lemmas.{and_true}
use Rattle.ocf_types.specs.Params.{ParamList}
use Rattle.exec_commands.specs.Keys.{TextPair, text_pair, texts_seen, member_texts, are_ascending}

-- one more pair is seen last
pub seen_push : (ms : List TextPair) (name text : Bor (List ℕ))
    → texts_seen (ms ++ (name, text) ∷ []) ≡ texts_seen ms ++ (name.now, text.now) ∷ []
seen_push [] name text = refl
seen_push (m ∷ ms) name text = ap (λ (ps : ParamList). text_pair m ∷ ps) (seen_push ms name text)

-- the branch that a test takes
pub if_taken : (test : Bool) (xs ys zs : List TextPair) → test ≡ true → xs ≡ (if test then ys else zs) → xs ≡ ys
if_taken true xs ys zs h e = e
if_taken false xs ys zs h e = absurd cc

-- one more member is a text
pub one_more : (done : ParamList) (name text : List ℕ) (d : Data) (ms : Members) (whole : Option ParamList) → as_str d ≡ Some text
    → option_map (λ ps. done ++ ps) (member_texts (member name d ms)) ≡ whole
    → option_map (λ ps. (done ++ (name, text) ∷ []) ++ ps) (member_texts ms) ≡ whole
one_more done name text d ms whole is h = by (member_texts ms) (rw is at h)
  where
    by : (rest : Option ParamList) → option_map (λ ps. done ++ ps) (option_map (λ ps. (name, text) ∷ ps) rest) ≡ whole
        → option_map (λ ps. (done ++ (name, text) ∷ []) ++ ps) rest ≡ whole
    by None e = e
    by (Some ps) e = ap (λ (qs : ParamList). Some qs) (append_assoc done ((name, text) ∷ []) ps) ∙ e

-- a member is no text
pub no_text : (done : ParamList) (name : List ℕ) (d : Data) (ms : Members) (whole : Option ParamList) → as_str d ≡ None
    → option_map (λ ps. done ++ ps) (member_texts (member name d ms)) ≡ whole → whole ≡ None
no_text done name d ms whole is h = sym (rw is at h)

record Split (name : List ℕ) (rest : Option ParamList) (ps : ParamList) : Type 0 where
  text : List ℕ
  others : ParamList
  rest_is : rest ≡ Some others
  whole : ps ≡ (name, text) ∷ others

split : (name : List ℕ) (o : Option (List ℕ)) (rest : Option ParamList) (ps : ParamList)
    → option_and_then (λ text. option_map (λ qs. (name, text) ∷ qs) rest) o ≡ Some ps → Split name rest ps
split name None rest ps h = absurd cc
split name (Some text) None ps h = absurd cc
split name (Some text) (Some others) ps h = record { text = text; others = others; rest_is = refl; whole = cc }

ascending_after : (k : String Global) (es : List Entry) (ps : ParamList) → member_texts (members_view es) ≡ Some ps
    → AllByRecursion (λ y. string_cmp k y ≡ Less) (keys_of es) → IsStrictlySortedBy string_cmp (keys_of es)
    → are_ascending (Some (string_bytes k)) ps ≡ true
unfolding IsStrictlySortedBy
ascending_after k [] ps h above sorted = let e : ps ≡ [] = cc in rw e refl
ascending_after k (e ∷ es) ps h above sorted =
    let s = split (string_bytes e.0) (as_str (view e.1)) (member_texts (members_view es)) ps h in
    rw s.whole (and_true _ _ (ap is_lt above.0) (ascending_after e.0 es s.others s.rest_is sorted.0 sorted.1))

-- the texts of a map's members ascend by their names
pub ascending : (es : List Entry) (ps : ParamList) → member_texts (members_view es) ≡ Some ps → IsStrictlySortedBy string_cmp (keys_of es)
    → are_ascending None ps ≡ true
unfolding IsStrictlySortedBy
ascending [] ps h sorted = let e : ps ≡ [] = cc in rw e refl
ascending (e ∷ es) ps h sorted =
    let s = split (string_bytes e.0) (as_str (view e.1)) (member_texts (members_view es)) ps h in
    rw s.whole (ascending_after e.0 es s.others s.rest_is sorted.0 sorted.1)
