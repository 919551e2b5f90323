-- Lemmas: the index and the first moments of its resources stay consistent when both change.
use Rattle.std.proofs.Common.{◌≡◌, ℕ, zero, suc, ◌+◌, ◌-◌, ◌<◌, ◌≤◌, min, List, [], ◌∷◌, ◌++◌, length, get_or, set, remove, Option, Some, None, All, Contains}
use Rattle.std.proofs.Common.{◌⊎◌, inl, inr, refl, ap, ◌∙◌, arith}
use Rattle.std.specs.Map.{values_of}
use Rattle.std.proofs.lemmas.Bool.{cases_eq, cases_lt}
use Rattle.std.proofs.lemmas.List.{get_or-set_same, get_or-set_other, get_or_past, get_or_default, length-append, length-set}
use Rattle.std.proofs.lemmas.List.Edits.{get_or-remove_below, get_or-remove_above, length-remove}
use Rattle.std.proofs.lemmas.List.Elements.{All-append, Contains-append_left, Contains-append_right}
use Rattle.indexmap.specs.Layout.{length-set_value_at}
use Rattle.indexmap.specs.IndexMap.{set_value_at}
use Rattle.recurring.specs.Monitors.{IsFirstMoment}
use Rattle.recurring.specs.FirstMoments.{IsFirstOf, IsNotAfter}
use Rattle.recurring.specs.DueIndex.{Dues, pairs_of_all, pairs_in, IsTied}

-- the pairs at an index after each change
pairs_in-kept : (es : Dues) (id : List ℕ) (k : ℕ) → pairs_in (es ++ (id, []) ∷ []) k ≡ pairs_in es k
pairs_in-kept [] id zero = refl
pairs_in-kept [] id (suc k) = refl
pairs_in-kept (e ∷ es) id zero = refl
pairs_in-kept (e ∷ es) id (suc k) = pairs_in-kept es id k

pub values-set_value_at : (es : Dues) (i : ℕ) (w : List (ℕ × ℕ)) → values_of (set_value_at es i w) ≡ set (values_of es) i w
values-set_value_at [] i w = refl
values-set_value_at (e ∷ es) zero w = refl
values-set_value_at (e ∷ es) (suc i) w = ap (λ (vs : List (List (ℕ × ℕ))). e.1 ∷ vs) (values-set_value_at es i w)

values-remove : (es : Dues) (i : ℕ) → values_of (remove es i) ≡ remove (values_of es) i
values-remove [] zero = refl
values-remove [] (suc i) = refl
values-remove (e ∷ es) zero = refl
values-remove (e ∷ es) (suc i) = ap (λ (vs : List (List (ℕ × ℕ))). e.1 ∷ vs) (values-remove es i)

length-values : (es : Dues) → length (values_of es) ≡ length es
length-values [] = refl
length-values (e ∷ es) = ap suc (length-values es)

-- no resources, and no moments
pub tied_none : (es : Dues) → es ≡ [] → IsTied es []
tied_none es none = rw none (record { room = omega arith; each = λ k. refl })

-- the same resources, and more moments
pub tied_grown : (es fs : Dues) (ms ns : List (Option ℕ)) → IsTied es ms → fs ≡ es → length ms ≤ length ns
    → ((k : ℕ) → get_or ns k None ≡ get_or ms k None) → IsTied fs ns
tied_grown es fs ms ns tied same le moments =
    rw same (record { room = omega (arith, tied.room, le); each = λ k. rw (moments k) (tied.each k) })

-- one more resource, for which there is a moment
pub tied_kept : (es : Dues) (id : List ℕ) (ms : List (Option ℕ)) → IsTied es ms → length es < length ms → IsTied (es ++ (id, []) ∷ []) ms
tied_kept es id ms tied lt = record {
  room = rw (length-append es ((id, []) ∷ [])) (omega (arith, lt));
  each = λ k. rw (pairs_in-kept es id k) (tied.each k);
}

-- a write at an index
pub tied_written : (es : Dues) (ms : List (Option ℕ)) (i : ℕ) (w : List (ℕ × ℕ)) (m : Option ℕ) → IsTied es ms → i < length es
    → IsFirstMoment w m → IsTied (set_value_at es i w) (set ms i m)
tied_written es ms i w m tied lt first = record { room = rw (length-set_value_at es i w, length-set ms i m) tied.room; each = each }
  where
    by : (k : ℕ) → (k ≡ i) ⊎ (k ≡ i → ⊥) → IsFirstMoment (get_or (set (values_of es) i w) k []) (get_or (set ms i m) k None)
    by k (inl e) =
        rw (e, get_or-set_same (values_of es) i w [] (omega (arith, lt, length-values es)), get_or-set_same ms i m None (omega (arith, lt, tied.room)))
        first
    by k (inr ne) = rw (get_or-set_other (values_of es) i k w [] ne, get_or-set_other ms i k m None ne) (tied.each k)

    each : (k : ℕ) → IsFirstMoment (pairs_in (set_value_at es i w) k) (get_or (set ms i m) k None)
    each k = rw (values-set_value_at es i w) (by k (cases_eq k i))

-- an index removed
pub tied_removed : (es : Dues) (ms : List (Option ℕ)) (i : ℕ) → IsTied es ms → i < length es → IsTied (remove es i) (remove ms i)
tied_removed es ms i tied lt = record { room = omega (arith, tied.room, length-remove es i lt, length-remove ms i in_moments); each = each }
  where
    in_values : i < length (values_of es)
    in_values = omega (arith, lt, length-values es)

    in_moments : i < length ms
    in_moments = omega (arith, lt, tied.room)

    by : (k : ℕ) → (k < i) ⊎ (i ≤ k) → IsFirstMoment (get_or (remove (values_of es) i) k []) (get_or (remove ms i) k None)
    by k (inl below) =
        rw (get_or-remove_below (values_of es) i [] k below in_values, get_or-remove_below ms i None k below in_moments) (tied.each k)
    by k (inr above) =
        rw (get_or-remove_above (values_of es) i [] k above in_values, get_or-remove_above ms i None k above in_moments) (tied.each (k + 1))

    each : (k : ℕ) → IsFirstMoment (pairs_in (remove es i) k) (get_or (remove ms i) k None)
    each k = rw (values-remove es i) (by k (cases_lt k i))

-- a property of the pairs at each index holds for all pairs
none_of_all : (es : Dues) → ((k : ℕ) → pairs_in es k ≡ []) → pairs_of_all es ≡ []
none_of_all [] h = refl
none_of_all (e ∷ es) h =
    ap (λ (ps : List (ℕ × ℕ)). ps ++ pairs_of_all es) (let here : e.1 ≡ [] = h 0 in here) ∙ none_of_all es (λ k. h (suc k))

all_of_all : (P : ℕ × ℕ → Type 0) (es : Dues) → ((k : ℕ) → All P (pairs_in es k)) → All P (pairs_of_all es)
all_of_all P [] h = λ k d lt. absurd (omega (arith, lt))
all_of_all P (e ∷ es) h =
    All-append P e.1 (pairs_of_all es) (let here : All P e.1 = h 0 in here) (all_of_all P es (λ k. h (suc k)))

contains_in_all : (es : Dues) (k : ℕ) (p : ℕ × ℕ) → Contains (pairs_in es k) p → Contains (pairs_of_all es) p
contains_in_all [] k p h = absurd (omega (arith, h.1))
contains_in_all (e ∷ es) zero p h = Contains-append_left e.1 (pairs_of_all es) p h
contains_in_all (e ∷ es) (suc k) p h = Contains-append_right e.1 (pairs_of_all es) p (contains_in_all es k p h)

-- the first of the resources' first moments is the first of all
pub tied_first : (es : Dues) (ms : List (Option ℕ)) (first : Option ℕ) → IsTied es ms → IsFirstOf ms first → IsFirstMoment (pairs_of_all es) first
tied_first es ms None tied h = none_of_all es (λ k. by k (cases_lt k (length ms)))
  where
    nothing : (k : ℕ) (m : Option ℕ) → IsNotAfter None m → IsFirstMoment (pairs_in es k) m → pairs_in es k ≡ []
    nothing k None not_after f = f
    nothing k (Some d) not_after f = absurd not_after

    by : (k : ℕ) → (k < length ms) ⊎ (length ms ≤ k) → pairs_in es k ≡ []
    by k (inl lt) = nothing k (get_or ms k None) (h.least k None lt) (tied.each k)
    by k (inr ge) = rw (get_or_past ms k None ge) at (tied.each k)
tied_first es ms (Some m) tied h = (here.0, contains_in_all es found.0 (m, here.0) here.1, all_of_all (λ p. m ≤ p.0) es (λ j. by j (cases_lt j (length ms))))
  where
    found : Contains ms (Some m)
    found = h.one

    here : IsFirstMoment (pairs_in es found.0) (Some m)
    here = rw (get_or_default ms found.0 None (Some m) found.1 ∙ found.2) at (tied.each found.0)

    later : (j : ℕ) (o : Option ℕ) → IsNotAfter (Some m) o → IsFirstMoment (pairs_in es j) o → All (λ p. m ≤ p.0) (pairs_in es j)
    later j None not_after f = rw f (λ i d lt. absurd (omega (arith, lt)))
    later j (Some d) not_after f = let le : m ≤ d = not_after in λ i p lt. omega (arith, le, f.2 i p lt)

    by : (j : ℕ) → (j < length ms) ⊎ (length ms ≤ j) → All (λ p. m ≤ p.0) (pairs_in es j)
    by j (inl lt) = later j (get_or ms j None) (h.least j None lt) (tied.each j)
    by j (inr ge) = later j None tt (rw (get_or_past ms j None ge) at (tied.each j))

-- a write at an index leaves the capacity as it is
pub room-written : (es : Dues) (ms : List (Option ℕ)) (i : ℕ) (w : List (ℕ × ℕ)) (m : Option ℕ) (spare : ℕ)
    → min spare (length (set ms i m) - length (set_value_at es i w)) ≡ min spare (length ms - length es)
room-written es ms i w m spare = rw (length-set_value_at es i w, length-set ms i m) refl
