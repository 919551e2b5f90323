-- Lines of items with one more of them, and the last item of a kind.
use Rattle.std.proofs.Common.{◌≡◌, ℕ, ◌+◌, ◌++◌, Bool, true, false, take, List, [], ◌∷◌, Option, Some, None, filter, refl, ap, sym, ◌∙◌, slice_get}
use Rattle.std.proofs.lemmas.List.{append-nil, append_assoc, take_more}
use Rattle.std.proofs.lemmas.List.Elements.{filter-append}
use Rattle.std.proofs.lemmas.Option.{get_or_from_slice_get, slice_get_within}
use Rattle.std.specs.List.{flat_map, last_or}
use Rattle.ocf_types.specs.Lemmas.{flat_more}
use Rattle.resource_status.specs.Results.{last_of}

-- the lines of items, and one more
pub lines_more : {X : Type 0} (f : X → List ℕ) (xs : List X) (i : ℕ) (x : X) (prefix : List ℕ) → slice_get xs i ≡ Some x
    → (prefix ++ flat_map f (take i xs)) ++ f x ≡ prefix ++ flat_map f (take (i + 1) xs)
lines_more f xs i x prefix is =
    append_assoc prefix (flat_map f (take i xs)) (f x)
    ∙ ap (λ t. prefix ++ t) (sym (flat_more f xs i x (slice_get_within xs i x is) (sym (get_or_from_slice_get xs i x x is))))

-- the last item of a list
last_more : {A : Type 0} (xs : List A) (x : A) (o : Option A) → last_or o (xs ++ x ∷ []) ≡ Some x
last_more [] x o = refl
last_more (z ∷ xs) x o = last_more xs x (Some z)

kept_more : {A : Type 0} (is : A → Bool) (es : List A) (i : ℕ) (e : A) → slice_get es i ≡ Some e
    → filter is (take (i + 1) es) ≡ filter is (take i es) ++ filter is (e ∷ [])
kept_more is es i e at =
    let more : take (i + 1) es ≡ take i es ++ e ∷ [] =
    take_more es i e (slice_get_within es i e at) ∙ ap (λ y. take i es ++ y ∷ []) (get_or_from_slice_get es i e e at)
    in
    ap (filter is) more ∙ filter-append is (take i es) (e ∷ [])

-- the last item for which something holds, after one more for which it holds, and after one for which it does not
pub last_yes : {A : Type 0} (is : A → Bool) (es : List A) (i : ℕ) (e : A) → slice_get es i ≡ Some e → is e ≡ true
    → last_of is (take (i + 1) es) ≡ Some e
last_yes is es i e at true_of =
    let one : filter is (e ∷ []) ≡ e ∷ [] = rw true_of refl in
    ap (last_or None) (kept_more is es i e at ∙ ap (λ t. filter is (take i es) ++ t) one) ∙ last_more (filter is (take i es)) e None

pub last_no : {A : Type 0} (is : A → Bool) (es : List A) (i : ℕ) (e : A) → slice_get es i ≡ Some e → is e ≡ false
    → last_of is (take (i + 1) es) ≡ last_of is (take i es)
last_no is es i e at false_of =
    let none : filter is (e ∷ []) ≡ [] = rw false_of refl in
    ap (last_or None) (kept_more is es i e at ∙ ap (λ t. filter is (take i es) ++ t) none ∙ append-nil (filter is (take i es)))
