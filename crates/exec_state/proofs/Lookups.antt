-- Lemmas on lookups by id.
use Rattle.std.proofs.Common.{◌≡◌, ℕ, zero, suc, Bool, true, false, cond, not, List, [], ◌∷◌, ◌++◌, filter, slice_get, Option, Some, None, IsSomeAnd}
use Rattle.std.proofs.Common.{refl, ap, subst}
use Rattle.std.specs.List.{AllByRecursion, IsDistinct}
use Rattle.std.specs.Map.{keys_of, lookup}
use Rattle.std.specs.Str.{bytes_eq}
use Rattle.std.proofs.lemmas.Map.Keys.{IsDistinct-head, IsDistinct-tail}
use Rattle.ocf_types.specs.Lemmas.{other_way}
use Rattle.ocf_model.specs.RegistryLemmas.{same_id}

-- a property of an option's value implies a weaker one
pub some_weaken : {A : Type 0} (o : Option A) (P Q : A → Type 0) → ((x : A) → P x → Q x) → IsSomeAnd o P → IsSomeAnd o Q
some_weaken None P Q f h = h
some_weaken (Some x) P Q f h = f x h

-- a property of each value holds for the one that is found
pub found_fact : {A : Type 0} (P : A → Type 0) (test : List ℕ → Bool) (es : List (List ℕ × A)) (r : A) → AllByRecursion (λ e. P e.1) es
    → lookup test es ≡ Some r → P r
found_fact P test [] r h at = absurd (let none : None ≡ Some r = at in cc)
found_fact P test (e ∷ es) r h at = by (test e.0) refl (found_fact P test es r h.1)
  where
    by : (b : Bool) → test e.0 ≡ b → (lookup test es ≡ Some r → P r) → P r
    by true is rest =
        let here : Some e.1 ≡ Some r = rw is at at in
        let same : e.1 ≡ r = cc in
        subst P same h.0
    by false is rest = rest (rw is at at)

module _ {A : Type 0} where
  -- a new entry is found
  pub lookup-push_here : (test : List ℕ → Bool) (es : List (List ℕ × A)) (e : List ℕ × A) → lookup test es ≡ None → test e.0 ≡ true
      → lookup test (es ++ e ∷ []) ≡ Some e.1
  lookup-push_here test [] e none is = rw is refl
  lookup-push_here test (x ∷ xs) e none is = by (test x.0) refl (lookup-push_here test xs e)
    where
      by : (b : Bool) → test x.0 ≡ b → (lookup test xs ≡ None → test e.0 ≡ true → lookup test (xs ++ e ∷ []) ≡ Some e.1)
          → cond b (Some x.1) (lookup test (xs ++ e ∷ [])) ≡ Some e.1
      by true same rest = absurd (let some : Some x.1 ≡ None = rw same at none in cc)
      by false other rest = rest (rw other at none) is

  -- a removed entry is not found
  pub lookup-taken_out : (id : List ℕ) (es : List (List ℕ × A)) → lookup (bytes_eq id) (filter (λ e. not (bytes_eq id e.0)) es) ≡ None
  lookup-taken_out id [] = refl
  lookup-taken_out id (e ∷ es) = by (bytes_eq id e.0) refl (lookup-taken_out id es)
    where
      rest : List (List ℕ × A)
      rest = filter (λ x. not (bytes_eq id x.0)) es

      by : (b : Bool) → bytes_eq id e.0 ≡ b → lookup (bytes_eq id) rest ≡ None → lookup (bytes_eq id) (cond (not b) (e ∷ rest) rest) ≡ None
      by true same k = k
      by false other k = rw other k

  -- a property of each key holds for the one at an index
  pub key_fact : (P : List ℕ → Type 0) (es : List (List ℕ × A)) (i : ℕ) (k : List ℕ) (v : A) → AllByRecursion P (keys_of es)
      → Some (k, v) ≡ slice_get es i → P k
  key_fact P [] i k v h at = absurd (let none : Some (k, v) ≡ None = at in cc)
  key_fact P (e ∷ es) zero k v h at =
      let here : Some (k, v) ≡ Some e = at in
      let same : e ≡ (k, v) = cc in
      subst P (ap (λ (x : List ℕ × A). x.0) same) h.0
  key_fact P (e ∷ es) (suc i) k v h at = key_fact P es i k v h.1 at

  -- the entry at an index is found by its key, if keys are distinct
  pub lookup_own : (es : List (List ℕ × A)) (i : ℕ) (k : List ℕ) (v : A) → IsDistinct bytes_eq (keys_of es)
      → Some (k, v) ≡ slice_get es i → lookup (bytes_eq k) es ≡ Some v
  lookup_own [] i k v distinct at = absurd (let none : Some (k, v) ≡ None = at in cc)
  lookup_own (e ∷ es) zero k v distinct at =
      let here : Some (k, v) ≡ Some e = at in
      let same : e ≡ (k, v) = cc in
      rw (same, same_id k) refl
  lookup_own (e ∷ es) (suc i) k v distinct at =
      let apart : bytes_eq e.0 k ≡ false
      = key_fact (λ x. bytes_eq e.0 x ≡ false) es i k v (IsDistinct-head bytes_eq e.0 (keys_of es) distinct) at in
      rw (other_way e.0 k apart) (lookup_own es i k v (IsDistinct-tail bytes_eq e.0 (keys_of es) distinct) at)
