-- Parameters in order of their names.
use Rattle.std.proofs.Common.{◌≡◌, ℕ, zero, suc, ◌+◌, ◌<◌, true, false, ◌&&◌, List, [], ◌∷◌, length, take, get_or, Option, Some, None}
use Rattle.std.proofs.Common.{Ok, Err, leb, refl, ap, ◌∙◌, add-one, arith}
use Rattle.std.specs.List.{list_all}
use Rattle.std.specs.Ordering.{nat_cmp, ordering_reverse}
use Rattle.std.specs.Cmp.Lexicographic.{slice_cmp}
use Rattle.std.specs.declared.cmp.Ordering.TheVariants.{Greater}
use Rattle.std.proofs.lemmas.Bool.{le-leb, lt-leb}
use Rattle.std.proofs.lemmas.Cmp.{nat_list_cmp_total}
use Rattle.std.proofs.lemmas.List.{length-map}
use Rattle.serde_json.specs.Data.{string, no_members, member, put}
use Rattle.ocf_types.specs.Names.{is_param_name}
use Rattle.ocf_types.specs.Values.{is_param_value}
use Rattle.ocf_types.specs.Params.{ParamList, is_before, is_after, are_params_after, AreParams, last_name}
use Rattle.ocf_types.specs.Lemmas.{and_false, before_trans, both, less_is}
use Rattle.ocf_model.specs.declared.refusal.Refusal.TheVariants.{BadValue}
use Rattle.exec_commands.specs.Keys.{TextPair, text_pair, texts_seen, are_ascending}
use Rattle.exec_commands.specs.Values.{are_names, valued_params}

after_from : (last : Option (List ℕ)) (ms : List TextPair) (i : ℕ) (d : TextPair) → i < length ms
    → are_ascending last (texts_seen ms) ≡ true
    → is_after (last_name last (texts_seen (take i ms))) (get_or ms i d).0.now ≡ true
after_from last [] i d h sorted = absurd (omega arith)
after_from last (m ∷ ms) zero d h sorted = (both (is_after last m.0.now) (are_ascending (Some m.0.now) (texts_seen ms)) sorted).0
after_from last (m ∷ ms) (suc i) d h sorted =
    after_from (Some m.0.now) ms i d (omega arith) (both (is_after last m.0.now) (are_ascending (Some m.0.now) (texts_seen ms)) sorted).1

-- a member's name comes after those before it
pub after_at : (ms : List TextPair) (i : ℕ) (d : TextPair) → i < length ms → are_ascending None (texts_seen ms) ≡ true
    → is_after (last_name None (texts_seen (take i ms))) (get_or ms i d).0.now ≡ true
after_at ms i d h sorted = after_from None ms i d h sorted

-- the names of members, borrowed
pub names_seen : (ms : List TextPair) → list_all (λ (m : TextPair). is_param_name m.0.now) ms ≡ are_names (texts_seen ms)
names_seen [] = refl
names_seen (m ∷ ms) = rw (names_seen ms) refl

-- each name is valid if all are
pub name_at : (ms : List TextPair) (i : ℕ) (d : TextPair) → i < length ms → are_names (texts_seen ms) ≡ true
    → is_param_name (get_or ms i d).0.now ≡ true
name_at [] i d h all = absurd (omega arith)
name_at (m ∷ ms) zero d h all = (both (is_param_name m.0.now) (are_names (texts_seen ms)) all).0
name_at (m ∷ ms) (suc i) d h all = name_at ms i d (omega arith) (both (is_param_name m.0.now) (are_names (texts_seen ms)) all).1

no_value : (ms : List TextPair) (i : ℕ) (d : TextPair) → i < length ms → is_param_value (get_or ms i d).1.now ≡ false
    → list_all (λ p. is_param_value p.1) (texts_seen ms) ≡ false
no_value [] i d h bad = absurd (omega arith)
no_value (m ∷ ms) zero d h bad = rw bad refl
no_value (m ∷ ms) (suc i) d h bad = rw (no_value ms i d (omega arith) bad) (and_false (is_param_value m.1.now))

-- a text that is not a valid value
pub bad_value : (ms : List TextPair) (i : ℕ) (d : TextPair) → i < length ms → is_param_value (get_or ms i d).1.now ≡ false
    → valued_params (texts_seen ms) ≡ Err BadValue
bad_value ms i d h bad = rw (no_value ms i d h bad, and_false (leb (length (texts_seen ms)) 64)) refl

-- more than 64
pub too_many : (ms : List TextPair) → 64 < length ms → valued_params (texts_seen ms) ≡ Err BadValue
too_many ms h =
    let more : leb (length (texts_seen ms)) 64 ≡ false = lt-leb _ _ (omega (arith, length-map ms text_pair)) in
    rw more refl

all_values : (last : Option (List ℕ)) (ps : ParamList) → are_params_after last ps ≡ true → list_all (λ p. is_param_value p.1) ps ≡ true
all_values last [] h = refl
all_values last (p ∷ ps) h =
    let s = both (is_after last p.0 && is_param_name p.0 && is_param_value p.1) (are_params_after (Some p.0) ps) h in
    let v = both (is_after last p.0 && is_param_name p.0) (is_param_value p.1) s.0 in
    rw (v.1, all_values (Some p.0) ps s.1) refl

-- well-formed parameters pass as valued
pub valued : (ps : ParamList) → AreParams ps → valued_params ps ≡ Ok ps
valued ps h =
    let few : leb (length ps) 64 ≡ true = le-leb _ _ h.at_most_64 in
    rw (few, all_values None ps h.sorted) refl
