-- Lemmas on resources by their ids: unchanged ones, and lookups.
use Rattle.std.proofs.Common.{◌≡◌, ℕ, Bool, true, false, cond, not, List, [], ◌∷◌, map, filter, Some, refl, sym}
use Rattle.std.proofs.Common.{ap, subst}
use Rattle.std.specs.List.{AllByRecursion, IsDistinct}
use Rattle.std.specs.Map.{keys_of, lookup}
use Rattle.std.specs.Str.{bytes_eq}
use Rattle.std.proofs.lemmas.Slice.Eq.{bytes_eq-Decides}
use Rattle.std.proofs.lemmas.Map.Keys.{IsDistinct-head, IsDistinct-tail}
use Rattle.ocf_model.specs.State.{at_id}
pub use Rattle.ocf_model.specs.RegistryLemmas.{same_id, other_id, absent_any, keys-at_id}

module _ {A : Type 0} where
  -- a change of the entry of an id leaves the others as they were
  pub others-at_id : (id : List ℕ) (f : A → A) (es : List (List ℕ × A))
      → filter (λ e. not (bytes_eq id e.0)) (at_id id f es) ≡ filter (λ e. not (bytes_eq id e.0)) es
  others-at_id id f [] = refl
  others-at_id id f (e ∷ es) = by (bytes_eq id e.0) (others-at_id id f es)
    where
      rest : List (List ℕ × A) → List (List ℕ × A)
      rest xs = filter (λ x. not (bytes_eq id x.0)) xs

      by : (b : Bool) → rest (at_id id f es) ≡ rest es
          → cond (not b) ((e.0, cond b (f e.1) e.1) ∷ rest (at_id id f es)) (rest (at_id id f es)) ≡ cond (not b) (e ∷ rest es) (rest es)
      by true k = k
      by false k = ap (λ (xs : List (List ℕ × A)). e ∷ xs) k

  -- a change of each entry leaves the keys
  pub keys-map : (f : A → A) (es : List (List ℕ × A)) → keys_of (map (λ e. (e.0, f e.1)) es) ≡ keys_of es
  keys-map f [] = refl
  keys-map f (e ∷ es) = ap (λ (ks : List (List ℕ)). e.0 ∷ ks) (keys-map f es)

  -- a property of each id holds after a change of the entry of an id
  pub ids-at_id : (P : List ℕ → Type 0) (id : List ℕ) (f : A → A) (es : List (List ℕ × A)) → AllByRecursion (λ e. P e.0) es
      → AllByRecursion (λ e. P e.0) (at_id id f es)
  ids-at_id P id f [] h = tt
  ids-at_id P id f (e ∷ es) h = (h.0, ids-at_id P id f es h.1)

  -- a property of each value after a change of each
  pub values-map : (P Q : A → Type 0) (f : A → A) → ((x : A) → P x → Q (f x)) → (es : List (List ℕ × A)) → AllByRecursion (λ e. P e.1) es
      → AllByRecursion (λ (e : List ℕ × A). Q e.1) (map (λ e. (e.0, f e.1)) es)
  values-map P Q f step [] h = tt
  values-map P Q f step (e ∷ es) h = (step e.1 h.0, values-map P Q f step es h.1)

  -- a property of each id holds after a change of each entry
  pub ids-map : (P : List ℕ → Type 0) (f : A → A) (es : List (List ℕ × A)) → AllByRecursion (λ e. P e.0) es
      → AllByRecursion (λ (e : List ℕ × A). P e.0) (map (λ e. (e.0, f e.1)) es)
  ids-map P f [] h = tt
  ids-map P f (e ∷ es) h = (h.0, ids-map P f es h.1)

  -- a property of each value after a change of that of an id, if the ids are distinct
  pub values-at_id : (P Q : A → Type 0) (id : List ℕ) (f : A → A) → ((x : A) → P x → Q x) → (es : List (List ℕ × A)) (r : A)
      → IsDistinct bytes_eq (keys_of es) → lookup (bytes_eq id) es ≡ Some r → (P r → Q (f r)) → AllByRecursion (λ e. P e.1) es
      → AllByRecursion (λ e. Q e.1) (at_id id f es)
  values-at_id P Q id f later [] r distinct at here h = tt
  values-at_id P Q id f later (e ∷ es) r distinct at here h =
      by (bytes_eq id e.0) refl (values-at_id P Q id f later es r (IsDistinct-tail bytes_eq e.0 (keys_of es) distinct))
    where
      gone : (xs : List (List ℕ × A)) → AllByRecursion (λ k. bytes_eq id k ≡ false) (keys_of xs) → AllByRecursion (λ x. P x.1) xs
          → AllByRecursion (λ x. Q x.1) (at_id id f xs)
      gone [] a g = tt
      gone (x ∷ xs) a g = (rw a.0 (later x.1 g.0), gone xs a.1 g.1)

      by : (b : Bool) → bytes_eq id e.0 ≡ b
          → (lookup (bytes_eq id) es ≡ Some r → (P r → Q (f r)) → AllByRecursion (λ x. P x.1) es
          → AllByRecursion (λ x. Q x.1) (at_id id f es))
          → AllByRecursion (λ x. Q x.1) (at_id id f (e ∷ es))
      by true same rest =
          let there : Some e.1 ≡ Some r = rw same at at in
          let is : e.1 ≡ r = cc in
          let distinct_here = IsDistinct-head bytes_eq e.0 (keys_of es) distinct in (
            rw same (subst (λ (x : A). Q (f x)) (sym is) (here (subst (λ (x : A). P x) is h.0))),
            gone es (subst (λ (k : List ℕ). AllByRecursion (λ y. bytes_eq k y ≡ false) (keys_of es))
                (sym ((bytes_eq-Decides id e.0).0 same)) distinct_here) h.1,
          )
      by false other rest = (rw other (later e.1 h.0), rest (rw other at at) here h.1)
