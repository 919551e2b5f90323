-- Lemmas on the entries of the index by id: after a write, and without an id.
use Rattle.std.proofs.Common.{◌≡◌, ℕ, zero, suc, ◌<◌, Bool, true, false, cond, not, List, [], ◌∷◌, length, remove, filter, get_or, slice_get, position, Option, Some, None}
use Rattle.std.proofs.Common.{refl, sym, ap, subst, ◌∙◌, arith, is_some}
use Rattle.std.specs.List.{IsDistinct, AllByRecursion}
use Rattle.std.specs.Map.{keys_of, values_of, lookup}
use Rattle.std.specs.Str.{bytes_eq}
use Rattle.std.proofs.lemmas.List.Quantifiers.{position-Some}
use Rattle.std.proofs.lemmas.Map.Keys.{IsDistinct-head, IsDistinct-tail}
use Rattle.std.proofs.lemmas.Slice.Eq.{bytes_eq-Decides}
use Rattle.indexmap.specs.IndexMap.{set_value_at}
use Rattle.ocf_model.specs.State.{at_id}
use Rattle.recurring.specs.DueIndex.{Dues}

-- no key equals the id
abbrev IsAbsent : List ℕ → Dues → Type 0
IsAbsent id es = AllByRecursion (λ k. bytes_eq id k ≡ false) (keys_of es)

-- no entry after that of an id has the same id
absent_after : (id : List ℕ) (e : List ℕ × List (ℕ × ℕ)) (es : Dues) → IsDistinct bytes_eq (keys_of (e ∷ es)) → bytes_eq id e.0 ≡ true
    → IsAbsent id es
absent_after id e es distinct same =
    subst (λ (k : List ℕ). IsAbsent k es) (sym ((bytes_eq-Decides id e.0).0 same)) (IsDistinct-head bytes_eq e.0 (keys_of es) distinct)

module _ (f : List (ℕ × ℕ) → List (ℕ × ℕ)) where
  at_id-absent : (id : List ℕ) (es : Dues) → IsAbsent id es → at_id id f es ≡ es
  at_id-absent id [] h = refl
  at_id-absent id (e ∷ es) h =
      ap (λ (b : Bool). (e.0, cond b (f e.1) e.1) ∷ at_id id f es) h.0 ∙ ap (λ (xs : Dues). e ∷ xs) (at_id-absent id es h.1)

  -- an id that is not found has no entry
  pub at_id-none : (id : List ℕ) (es : Dues) → lookup (bytes_eq id) es ≡ None → at_id id f es ≡ es
  at_id-none id [] none = refl
  at_id-none id (e ∷ es) none = by (bytes_eq id e.0) refl (at_id-none id es)
    where
      by : (b : Bool) → bytes_eq id e.0 ≡ b → (lookup (bytes_eq id) es ≡ None → at_id id f es ≡ es) → at_id id f (e ∷ es) ≡ e ∷ es
      by true same rest = absurd (let some : Some e.1 ≡ None = rw same at none in cc)
      by false other rest = rw other (ap (λ (xs : Dues). e ∷ xs) (rest (rw other at none)))

  -- a write at the index of the id
  at_id-index : (id : List ℕ) (es : Dues) (i : ℕ) (v w : List (ℕ × ℕ)) → IsDistinct bytes_eq (keys_of es)
      → bytes_eq id (get_or (keys_of es) i []) ≡ true → ((k : ℕ) → k < i → bytes_eq id (get_or (keys_of es) k []) ≡ false)
      → slice_get (values_of es) i ≡ Some v → w ≡ f v → set_value_at es i w ≡ at_id id f es
  at_id-index id [] i v w distinct here before at is = refl
  at_id-index id (e ∷ es) zero v w distinct here before at is =
      let same : bytes_eq id e.0 ≡ true = here in
      let value : Some e.1 ≡ Some v = at in
      let now : w ≡ f e.1 = is ∙ ap f (let was : v ≡ e.1 = cc in was) in
      rw same (ap (λ (r : List (ℕ × ℕ)). (e.0, r) ∷ es) now
      ∙ ap (λ (xs : Dues). (e.0, f e.1) ∷ xs) (sym (at_id-absent id es (absent_after id e es distinct same))))
  at_id-index id (e ∷ es) (suc i) v w distinct here before at is =
      let other : bytes_eq id e.0 ≡ false = before 0 (omega arith) in
      rw other (ap (λ (xs : Dues). e ∷ xs)
      (at_id-index id es i v w (IsDistinct-tail bytes_eq e.0 (keys_of es) distinct) here (λ k lt. before (suc k) (omega (arith, lt))) at is))

  pub at_id-write : (id : List ℕ) (es : Dues) (i : ℕ) (v w : List (ℕ × ℕ)) → IsDistinct bytes_eq (keys_of es)
      → Some i ≡ position (bytes_eq id) (keys_of es) → slice_get (values_of es) i ≡ Some v → w ≡ f v → set_value_at es i w ≡ at_id id f es
  at_id-write id es i v w distinct found at is =
      let there = position-Some (bytes_eq id) (keys_of es) i [] (sym found) in at_id-index id es i v w distinct there.1 there.2 at is

others-absent : (id : List ℕ) (es : Dues) → IsAbsent id es → filter (λ e. not (bytes_eq id e.0)) es ≡ es
others-absent id [] h = refl
others-absent id (e ∷ es) h =
    ap (λ (b : Bool). cond (not b) (e ∷ filter (λ x. not (bytes_eq id x.0)) es) (filter (λ x. not (bytes_eq id x.0)) es)) h.0
    ∙ ap (λ (xs : Dues). e ∷ xs) (others-absent id es h.1)

remove-index : (id : List ℕ) (es : Dues) (i : ℕ) → i < length (keys_of es) → IsDistinct bytes_eq (keys_of es)
    → bytes_eq id (get_or (keys_of es) i []) ≡ true → ((k : ℕ) → k < i → bytes_eq id (get_or (keys_of es) k []) ≡ false)
    → remove es i ≡ filter (λ e. not (bytes_eq id e.0)) es
remove-index id [] i lt distinct here before = absurd (omega (arith, lt))
remove-index id (e ∷ es) zero lt distinct here before =
    let same : bytes_eq id e.0 ≡ true = here in rw same (sym (others-absent id es (absent_after id e es distinct same)))
remove-index id (e ∷ es) (suc i) lt distinct here before =
    let other : bytes_eq id e.0 ≡ false = before 0 (omega arith) in
    rw other (ap (λ (xs : Dues). e ∷ xs)
    (remove-index id es i (omega (arith, lt)) (IsDistinct-tail bytes_eq e.0 (keys_of es) distinct) here (λ k below. before (suc k) (omega (arith, below)))))

-- the entries without the one at the index of the id
pub remove-others : (id : List ℕ) (es : Dues) (i : ℕ) → IsDistinct bytes_eq (keys_of es) → Some i ≡ position (bytes_eq id) (keys_of es)
    → remove es i ≡ filter (λ e. not (bytes_eq id e.0)) es
remove-others id es i distinct found =
    let there = position-Some (bytes_eq id) (keys_of es) i [] (sym found) in remove-index id es i there.0 distinct there.1 there.2

-- removing an id that is not found changes nothing
pub others-none : (id : List ℕ) (es : Dues) → lookup (bytes_eq id) es ≡ None → filter (λ e. not (bytes_eq id e.0)) es ≡ es
others-none id [] none = refl
others-none id (e ∷ es) none = by (bytes_eq id e.0) refl (others-none id es)
  where
    by : (b : Bool) → bytes_eq id e.0 ≡ b → (lookup (bytes_eq id) es ≡ None → filter (λ x. not (bytes_eq id x.0)) es ≡ es)
        → filter (λ x. not (bytes_eq id x.0)) (e ∷ es) ≡ e ∷ es
    by true same rest = absurd (let some : Some e.1 ≡ None = rw same at none in cc)
    by false other rest = rw other (ap (λ (xs : Dues). e ∷ xs) (rest (rw other at none)))

-- an id that has no index is not found
pub none_found : {A : Type 0} (o : Option A) → false ≡ is_some o → o ≡ None
none_found None e = refl
none_found (Some x) e = absurd (cc)
