-- A list with one more pair, unless its name is in the list.
use Rattle.std.proofs.Common.{◌≡◌, ◌⊎◌, inl, inr, ℕ, zero, suc, Bool, true, false, ◌||◌, ◌+◌, List, [], ◌∷◌, Option, Some, None, refl, sym, ◌∙◌, ap, subst, arith}
use Rattle.std.specs.Prelude.{cond, count_by, insert, bytes_eq, if◌then◌else◌}
use Rattle.std.specs.List.{list_any}
use Rattle.std.specs.Ordering.{nat_cmp, is_lt, ordering_reverse}
use Rattle.std.specs.Cmp.Lexicographic.{slice_cmp}
use Rattle.std.specs.declared.cmp.Ordering.{Ordering}
use Rattle.std.specs.declared.cmp.Ordering.TheVariants.{Less, Equal, Greater}
use Rattle.std.proofs.lemmas.Bool.{or_parts}
use Rattle.std.proofs.lemmas.Cmp.{nat_list_cmp_total}
use Rattle.std.proofs.lemmas.List.Sums.{sum_by-cons}
use Rattle.std.proofs.lemmas.Map.Lookups.{exact_bytes}
use Rattle.std.proofs.lemmas.Slice.Eq.{bytes_eq-Decides}
use Rattle.ocf_types.specs.Lemmas.{and_true, before_trans, both, less_is}
use Rattle.ocf_types.specs.Params.{is_before, is_after}
use Rattle.ocf_env.specs.Lists.{with_new}
use Rattle.ocf_env.specs.Locations.{Pair}
use Rattle.ocf_env.specs.Variables.{are_ascending_after}
use Rattle.ocf_env.proofs.Amongs.{Among}

-- one name is before another, the same, or after it
before_cases : (a b : List ℕ) → (is_before a b ≡ true) ⊎ ((a ≡ b) ⊎ (is_before b a ≡ true))
before_cases a b = by (slice_cmp nat_cmp a b) refl
  where
    by : (r : Ordering) → slice_cmp nat_cmp a b ≡ r → (is_before a b ≡ true) ⊎ ((a ≡ b) ⊎ (is_before b a ≡ true))
    by Less e = inl (ap is_lt e)
    by Equal e = inr (inl (exact_bytes a b e))
    by Greater e = inr (inr (ap is_lt (nat_list_cmp_total.antisymm b a ∙ ap ordering_reverse e)))

not_back : (a b : List ℕ) → is_before a b ≡ true → is_before b a ≡ false
not_back a b h = ap is_lt (nat_list_cmp_total.antisymm b a ∙ ap ordering_reverse (less_is _ h))

abbrev pub is_named : List ℕ → List Pair → Bool
is_named name xs = list_any (λ x. bytes_eq x.0 name) xs

abbrev pub lesser : List ℕ → List Pair → ℕ
lesser name xs = count_by (λ x. is_before x.0 name) xs

-- names that are in a list, and names that are not
pub named : (name : List ℕ) (xs : List Pair) → is_named name xs ≡ true → (value : List ℕ) × Among (name, value) xs
named name [] h = absurd cc
named name (x ∷ xs) h = by (named name xs) (bytes_eq x.0 name) refl
  where
    by : (is_named name xs ≡ true → (value : List ℕ) × Among (name, value) xs) → (b : Bool) → bytes_eq x.0 name ≡ b
        → (value : List ℕ) × Among (name, value) (x ∷ xs)
    by later true is = let same : x.0 ≡ name = (bytes_eq-Decides x.0 name).0 is in (x.1, inl (λ k. (same k, x.1)))
    by later false is =
        let rest : is_named name xs ≡ true = subst (λ b. (b || is_named name xs) ≡ true) is h in
        let found = later rest in (found.0, inr found.1)

pub unnamed : (name value : List ℕ) (xs : List Pair) → is_named name xs ≡ false → Among (name, value) xs → ⊥
unnamed name value [] h a = absurd a
unnamed name value (x ∷ xs) h (inl e) =
    let same : bytes_eq x.0 name ≡ true = (bytes_eq-Decides x.0 name).1 (ap (λ (p : Pair). p.0) e) in
    let other : bytes_eq x.0 name ≡ false = (or_parts (bytes_eq x.0 name) (is_named name xs) h).0 in
    cc
unnamed name value (x ∷ xs) h (inr a) = unnamed name value xs (or_parts (bytes_eq x.0 name) (is_named name xs) h).1 a

-- the two cases: the name is in the list, or not
pub new_there : (p : Pair) (xs : List Pair) → is_named p.0 xs ≡ true → xs ≡ with_new p xs
new_there p xs h = rw h refl

pub new_put : (p : Pair) (xs ys : List Pair) (k : ℕ) → is_named p.0 xs ≡ false → k ≡ lesser p.0 xs → ys ≡ insert xs k p → ys ≡ with_new p xs
new_put p xs ys k h at is = is ∙ rw (at, h) refl

-- a list after an insertion has the inserted pair, all others and nothing else
inserted : (xs : List Pair) (k : ℕ) (p x : Pair) → Among x (insert xs k p) → (p ≡ x) ⊎ Among x xs
inserted xs zero p x (inl e) = inl e
inserted xs zero p x (inr a) = inr a
inserted [] (suc k) p x (inl e) = inl e
inserted [] (suc k) p x (inr a) = absurd a
inserted (y ∷ ys) (suc k) p x (inl e) = inr (inl e)
inserted (y ∷ ys) (suc k) p x (inr a) = elim (inserted ys k p x a) [ inl e ↦ inl e | inr b ↦ inr (inr b) ]

here : (xs : List Pair) (k : ℕ) (p : Pair) → Among p (insert xs k p)
here xs zero p = inl refl
here [] (suc k) p = inl refl
here (y ∷ ys) (suc k) p = inr (here ys k p)

others : (xs : List Pair) (k : ℕ) (p x : Pair) → Among x xs → Among x (insert xs k p)
others xs zero p x a = inr a
others [] (suc k) p x a = absurd a
others (y ∷ ys) (suc k) p x (inl e) = inl e
others (y ∷ ys) (suc k) p x (inr a) = inr (others ys k p x a)

-- the pairs of the list with one more
pub new_cases : (p : Pair) (xs : List Pair) (x : Pair) → Among x (with_new p xs) → Among x xs ⊎ ((p ≡ x) × (is_named p.0 xs ≡ false))
new_cases p xs x = by (is_named p.0 xs) refl
  where
    by : (b : Bool) → is_named p.0 xs ≡ b → Among x (if b then xs else insert xs (lesser p.0 xs) p)
        → Among x xs ⊎ ((p ≡ x) × (is_named p.0 xs ≡ false))
    by true is a = inl a
    by false is a = elim (inserted xs (lesser p.0 xs) p x a) [ inl e ↦ inr (e, is) | inr b ↦ inl b ]

pub new_keeps : (p : Pair) (xs : List Pair) (x : Pair) → Among x xs → Among x (with_new p xs)
new_keeps p xs x a = by (is_named p.0 xs)
  where
    by : (b : Bool) → Among x (if b then xs else insert xs (lesser p.0 xs) p)
    by true = a
    by false = others xs (lesser p.0 xs) p x a

pub new_here : (p : Pair) (xs : List Pair) → is_named p.0 xs ≡ false → Among p (with_new p xs)
new_here p xs h = subst (λ b. Among p (if b then xs else insert xs (lesser p.0 xs) p)) (sym h) (here xs (lesser p.0 xs) p)

lesser_more : (name : List ℕ) (x : Pair) (xs : List Pair) → lesser name (x ∷ xs) ≡ cond (is_before x.0 name) 1 0 + lesser name xs
lesser_more name x xs = sum_by-cons (λ y. cond (is_before y.0 name) 1 0) x xs

-- in a list that begins after a later name, no name is lesser
none_lesser : (name last : List ℕ) (xs : List Pair) → is_before name last ≡ true → are_ascending_after (Some last) xs ≡ true
    → lesser name xs ≡ 0
none_lesser name last [] h s = refl
none_lesser name last (x ∷ xs) h s =
    let t = both (is_before last x.0) (are_ascending_after (Some x.0) xs) s in
    let later : is_before name x.0 ≡ true = before_trans name last x.0 h t.0 in
    lesser_more name x xs ∙ rw (not_back name x.0 later, none_lesser name x.0 xs later t.1) refl

one_more : (n : ℕ) → 1 + n ≡ suc n
one_more n = omega arith

-- inserting a new name in order keeps the list sorted
in_order : (last : Option (List ℕ)) (p : Pair) (xs : List Pair) → is_after last p.0 ≡ true → are_ascending_after last xs ≡ true
    → is_named p.0 xs ≡ false → are_ascending_after last (insert xs (lesser p.0 xs) p) ≡ true
in_order last p [] after s n = and_true _ _ after refl
in_order last p (x ∷ xs) after s n =
    elim (before_cases x.0 p.0) [ inl lt ↦ under (in_order (Some x.0) p xs) lt | inr r ↦ elim r [ inl e ↦ absurd (equal e) | inr gt ↦ above gt ] ]
  where
    parts : (is_after last x.0 ≡ true) × (are_ascending_after (Some x.0) xs ≡ true)
    parts = both (is_after last x.0) (are_ascending_after (Some x.0) xs) s

    news : (bytes_eq x.0 p.0 ≡ false) × (is_named p.0 xs ≡ false)
    news = or_parts (bytes_eq x.0 p.0) (is_named p.0 xs) n

    under : (is_before x.0 p.0 ≡ true → are_ascending_after (Some x.0) xs ≡ true → is_named p.0 xs ≡ false
        → are_ascending_after (Some x.0) (insert xs (lesser p.0 xs) p) ≡ true)
        → is_before x.0 p.0 ≡ true → are_ascending_after last (insert (x ∷ xs) (lesser p.0 (x ∷ xs)) p) ≡ true
    under later lt =
        let index : lesser p.0 (x ∷ xs) ≡ suc (lesser p.0 xs) = lesser_more p.0 x xs ∙ rw lt (one_more (lesser p.0 xs)) in
        rw index (and_true _ _ parts.0 (later lt parts.1 news.1))

    equal : x.0 ≡ p.0 → ⊥
    equal e =
        let same : bytes_eq x.0 p.0 ≡ true = (bytes_eq-Decides x.0 p.0).1 e in
        let other = news.0 in
        cc

    above : is_before p.0 x.0 ≡ true → are_ascending_after last (insert (x ∷ xs) (lesser p.0 (x ∷ xs)) p) ≡ true
    above gt =
        let index : lesser p.0 (x ∷ xs) ≡ 0 = lesser_more p.0 x xs ∙ rw (not_back p.0 x.0 gt, none_lesser p.0 x.0 xs gt parts.1) refl in
        rw index (and_true _ _ after (and_true _ _ gt parts.1))

pub new_ascends : (p : Pair) (xs : List Pair) → are_ascending_after None xs ≡ true → are_ascending_after None (with_new p xs) ≡ true
new_ascends p xs s = by (is_named p.0 xs) refl
  where
    by : (b : Bool) → is_named p.0 xs ≡ b → are_ascending_after None (if b then xs else insert xs (lesser p.0 xs) p) ≡ true
    by true is = s
    by false is = in_order None p xs refl s is
