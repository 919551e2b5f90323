-- The elements of one owner in a list, and in lists that are made of it.
use Rattle.std.proofs.Common.{◌≡◌, ℕ, Bool, true, false, cond, List, [], ◌∷◌, ◌++◌, map, filter, flat_map, nat_eq, refl, ap, ◌∙◌}
use Rattle.std.specs.List.{AllByRecursion, IsDistinct, list_any}
use Rattle.std.proofs.lemmas.Bool.{eq-eqb}
use Rattle.std.proofs.lemmas.Cmp.{nat_eq_equiv}
use Rattle.std.proofs.lemmas.List.Elements.{filter-append}
use Rattle.std.proofs.lemmas.Map.Keys.{IsDistinct-head, IsDistinct-tail}
use Rattle.ocf_model.specs.RegistryLemmas.{keys_filter}
use Rattle.ocf_types.specs.Lemmas.{each_append}

module _ {A : Type 0} where
  -- two facts of each make a third
  pub each_both : (P Q R : A → Type 0) → ((x : A) → P x → Q x → R x) → (xs : List A) → AllByRecursion P xs → AllByRecursion Q xs
      → AllByRecursion R xs
  each_both P Q R f [] h k = tt
  each_both P Q R f (x ∷ xs) h k = (f x h.0 k.0, each_both P Q R f xs h.1 k.1)

  -- a fact that holds of all
  pub each_of_all : (P : A → Type 0) → ((x : A) → P x) → (xs : List A) → AllByRecursion P xs
  each_of_all P f [] = tt
  each_of_all P f (x ∷ xs) = (f x, each_of_all P f xs)

  -- a fact of two lists together is one of each
  pub each_first : (P : A → Type 0) (xs ys : List A) → AllByRecursion P (xs ++ ys) → AllByRecursion P xs
  each_first P [] ys h = tt
  each_first P (x ∷ xs) ys h = (h.0, each_first P xs ys h.1)

  pub each_last : (P : A → Type 0) (xs ys : List A) → AllByRecursion P (xs ++ ys) → AllByRecursion P ys
  each_last P [] ys h = h
  each_last P (x ∷ xs) ys h = each_last P xs ys h.1

  -- a filter that all pass alike
  pub filter_alike : (test : A → Bool) (b : Bool) (xs : List A) → AllByRecursion (λ x. test x ≡ b) xs → filter test xs ≡ cond b xs []
  filter_alike test true [] h = refl
  filter_alike test false [] h = refl
  filter_alike test true (x ∷ xs) h = rw (h.0, filter_alike test true xs h.1) refl
  filter_alike test false (x ∷ xs) h = rw (h.0, filter_alike test false xs h.1) refl

  -- two tests that agree of each keep the same
  pub filter_same : (test own : A → Bool) (xs : List A) → AllByRecursion (λ x. test x ≡ own x) xs → filter test xs ≡ filter own xs
  filter_same test own [] h = refl
  filter_same test own (x ∷ xs) h = rw h.0 (ap (λ (l : List A). cond (own x) (x ∷ l) l) (filter_same test own xs h.1))

  -- no key is found that differs from each
  pub any_none : (test : A → Bool) (xs : List A) → AllByRecursion (λ x. test x ≡ false) xs → list_any test xs ≡ false
  any_none test [] h = refl
  any_none test (x ∷ xs) h = rw (h.0, any_none test xs h.1) refl

module _ {A B : Type 0} where
  -- a fact of each result of a map
  pub each_map : (P : B → Type 0) (f : A → B) (xs : List A) → AllByRecursion (λ x. P (f x)) xs → AllByRecursion P (map f xs)
  each_map P f [] h = tt
  each_map P f (x ∷ xs) h = (h.0, each_map P f xs h.1)

  pub each_unmap : (P : B → Type 0) (f : A → B) (xs : List A) → AllByRecursion P (map f xs) → AllByRecursion (λ x. P (f x)) xs
  each_unmap P f [] h = tt
  each_unmap P f (x ∷ xs) h = (h.0, each_unmap P f xs h.1)

  -- a fact of all results of a flat map
  pub each_into : (P : B → Type 0) (f : A → List B) (xs : List A) → AllByRecursion P (flat_map f xs)
      → AllByRecursion (λ x. AllByRecursion P (f x)) xs
  each_into P f [] h = tt
  each_into P f (x ∷ xs) h = (each_first P (f x) (flat_map f xs) h, each_into P f xs (each_last P (f x) (flat_map f xs) h))

  pub each_out : (P : B → Type 0) (f : A → List B) (xs : List A) → AllByRecursion (λ x. AllByRecursion P (f x)) xs
      → AllByRecursion P (flat_map f xs)
  each_out P f [] h = tt
  each_out P f (x ∷ xs) h = each_append P (f x) (flat_map f xs) h.0 (each_out P f xs h.1)

  pub each_flat_map : (P : B → Type 0) (f : A → List B) → ((x : A) → AllByRecursion P (f x)) → (xs : List A)
      → AllByRecursion P (flat_map f xs)
  each_flat_map P f h xs = each_out P f xs (each_of_all (λ x. AllByRecursion P (f x)) h xs)

  -- a filter of a map is a map of a filter
  pub filter-map : (test : B → Bool) (f : A → B) (xs : List A) → filter test (map f xs) ≡ map f (filter (λ x. test (f x)) xs)
  filter-map test f [] = refl
  filter-map test f (x ∷ xs) = by (test (f x)) (filter-map test f xs)
    where
      by : (b : Bool) → filter test (map f xs) ≡ map f (filter (λ x. test (f x)) xs)
          → cond b (f x ∷ filter test (map f xs)) (filter test (map f xs))
          ≡ map f (cond b (x ∷ filter (λ x. test (f x)) xs) (filter (λ x. test (f x)) xs))
      by true k = ap (λ (l : List B). f x ∷ l) k
      by false k = k

  -- a test that keeps all that an owner's elements make, and nothing of what the others make
  pub filter-flat_map : (test : B → Bool) (own : A → Bool) (f : A → List B) (xs : List A)
      → AllByRecursion (λ x. filter test (f x) ≡ cond (own x) (f x) []) xs → filter test (flat_map f xs) ≡ flat_map f (filter own xs)
  filter-flat_map test own f [] h = refl
  filter-flat_map test own f (x ∷ xs) h = filter-append test (f x) (flat_map f xs) ∙ by (own x) h.0 (filter-flat_map test own f xs h.1)
    where
      by : (b : Bool) → filter test (f x) ≡ cond b (f x) [] → filter test (flat_map f xs) ≡ flat_map f (filter own xs)
          → filter test (f x) ++ filter test (flat_map f xs) ≡ flat_map f (cond b (x ∷ filter own xs) (filter own xs))
      by true e k = rw (e, k) refl
      by false e k = rw (e, k) refl

module _ {A : Type 0} (key : A → ℕ) (own : A → Bool) where
  -- where keys differ, those of an owner's elements are found among them, and no others
  pub owned : (xs : List A) → IsDistinct nat_eq (map key xs)
      → AllByRecursion (λ x. list_any (nat_eq (key x)) (map key (filter own xs)) ≡ own x) xs
  owned [] h = tt
  owned (x ∷ xs) h =
      let head = IsDistinct-head nat_eq (key x) (map key xs) h in
      let rest = owned xs (IsDistinct-tail nat_eq (key x) (map key xs) h) in (
        here (own x) refl,
        each_both (λ y. nat_eq (key x) (key y) ≡ false) (λ y. list_any (nat_eq (key y)) (map key (filter own xs)) ≡ own y)
            (λ y. list_any (nat_eq (key y)) (map key (filter own (x ∷ xs))) ≡ own y) there xs
            (each_unmap (λ y. nat_eq (key x) y ≡ false) key xs head) rest,
      )
    where
      here : (b : Bool) → own x ≡ b → list_any (nat_eq (key x)) (map key (cond b (x ∷ filter own xs) (filter own xs))) ≡ b
      here true e = rw (eq-eqb (key x) (key x) refl) refl
      here false e = any_none (nat_eq (key x)) (map key (filter own xs))
          (keys_filter key (λ y. nat_eq (key x) y ≡ false) own xs (IsDistinct-head nat_eq (key x) (map key xs) h))

      there_by : (b : Bool) (y : A) → nat_eq (key y) (key x) ≡ false → list_any (nat_eq (key y)) (map key (filter own xs)) ≡ own y
          → list_any (nat_eq (key y)) (map key (cond b (x ∷ filter own xs) (filter own xs))) ≡ own y
      there_by true y differs k = rw differs k
      there_by false y differs k = k

      there : (y : A) → nat_eq (key x) (key y) ≡ false → list_any (nat_eq (key y)) (map key (filter own xs)) ≡ own y
          → list_any (nat_eq (key y)) (map key (filter own (x ∷ xs))) ≡ own y
      there y differs k = there_by (own x) y (nat_eq_equiv.symm (key y) (key x) ∙ differs) k
