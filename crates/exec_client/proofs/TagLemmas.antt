-- How tags are stored.
use Rattle.std.proofs.Common.{◌≡◌, ℕ, zero, suc, ◌+◌, ◌-◌, ◌<◌, ◌==◌, Bool, true, false, cond, List, [], ◌∷◌, ◌++◌, drop, get_or, length, map, filter, Some, None, refl, sym, ap, subst, ◌∙◌, arith, length-append}
use Rattle.std.specs.Prelude.{replicate}
use Rattle.std.specs.List.{find}
use Rattle.std.specs.Option.{option_map}
use Rattle.std.proofs.lemmas.List.{drop-map, length-map, map-append}
use Rattle.exec_client.specs.Tags.{LineTag, call_limit, first_tag, tag_of_call, with_call}
use Rattle.exec_client.specs.Waiting.{call_tag, lines_in}
use Rattle.exec_client.specs.declared.kept_calls.KeptCall.{KeptCall}
use Rattle.exec_client.specs.declared.waiting.Waiting.{Waiting}

through_cond : {A B : Type 0} (f : A → B) (b : Bool) (x y : A) → f (cond b x y) ≡ cond b (f x) (f y)
through_cond f true x y = refl
through_cond f false x y = refl

-- a filter of a mapped list
pub filter-map : {A B : Type 0} (f : A → B) (test : B → Bool) (xs : List A) → filter test (map f xs) ≡ map f (filter (λ x. test (f x)) xs)
filter-map f test [] = refl
filter-map f test (x ∷ xs) =
    ap (λ ys. cond (test (f x)) (f x ∷ ys) ys) (filter-map f test xs)
    ∙ sym (through_cond (map f) (test (f x)) (x ∷ filter (λ y. test (f y)) xs) (filter (λ y. test (f y)) xs))

-- the tag of the first call of this number
pub tag_found : (call : ℕ) (calls : List KeptCall)
    → option_map (λ k. k.tag) (find (λ k. k.call == call) calls) ≡ tag_of_call call (map call_tag calls)
tag_found call [] = refl
tag_found call (k ∷ ks) =
    through_cond (option_map (λ k. k.tag)) (k.call == call) (Some k) (find (λ k. k.call == call) ks)
    ∙ ap (λ o. cond (k.call == call) (Some k.tag) o) (tag_found call ks)
    ∙ sym (through_cond (option_map (λ c. c.1)) (k.call == call) (Some (call_tag k)) (find (λ c. c.0 == call) (map call_tag ks)))

-- the newest calls, after one more
pub call_added : (calls : List KeptCall) (k : KeptCall)
    → map call_tag (drop (length calls + 1 - call_limit) (calls ++ k ∷ [])) ≡ with_call k.call (Some k.tag) (map call_tag calls)
call_added calls k =
    let all : map call_tag (calls ++ k ∷ []) ≡ map call_tag calls ++ call_tag k ∷ [] = map-append call_tag calls (k ∷ []) in
    let long : length (map call_tag calls ++ call_tag k ∷ []) ≡ length calls + 1 =
    omega (arith, length-append (map call_tag calls) (call_tag k ∷ []), length-map calls call_tag)
    in
    sym (drop-map call_tag (length calls + 1 - call_limit) (calls ++ k ∷ []))
    ∙ ap (λ cs. drop (length calls + 1 - call_limit) cs) all
    ∙ ap (λ (n : ℕ). drop (n - call_limit) (map call_tag calls ++ call_tag k ∷ [])) (sym long)

-- if lines without a tag wait first, the oldest has none
untagged_prefix : (n : ℕ) (a b c : List LineTag) → 0 < n → None ≡ first_tag (((replicate n None ++ a) ++ b) ++ c)
untagged_prefix zero a b c lt = absurd (omega (arith, lt))
untagged_prefix (suc n) a b c lt = refl

pub untagged_first : (waiting : List Waiting) (after : ℕ) (w : Waiting) → 0 < length waiting → w ≡ get_or waiting 0 w → 0 < w.before
    → None ≡ first_tag (lines_in waiting after)
untagged_first [] after w some is before = absurd (omega (arith, some))
untagged_first (x ∷ xs) after w some is before =
    untagged_prefix x.before _ _ _ (subst (λ (y : Waiting). 0 < y.before) is before)
