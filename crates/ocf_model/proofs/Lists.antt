-- Lemmas on lists: properties of each element, and numbers that ascend.
use Rattle.std.proofs.Common.{◌≡◌, ℕ, ◌≤◌, ◌<◌, Bool, true, false, cond, List, [], ◌∷◌, ◌++◌, map, length, drop, filter, refl, zero, suc}
use Rattle.std.proofs.Common.{arith}
use Rattle.std.specs.List.{AllByRecursion}
use Rattle.ocf_types.specs.Numbers.{IsAscending}
use Rattle.ocf_model.specs.RegistryLemmas.{keys_filter}

module _ {A : Type 0} where
  -- a property of each element holds for the last ones
  pub each_drop : (P : A → Type 0) (n : ℕ) (xs : List A) → AllByRecursion P xs → AllByRecursion P (drop n xs)
  each_drop P zero xs h = h
  each_drop P (suc n) [] h = tt
  each_drop P (suc n) (x ∷ xs) h = each_drop P n xs h.1

  -- a filter makes no list longer
  pub filter_shorter : (test : A → Bool) (xs : List A) → length (filter test xs) ≤ length xs
  filter_shorter test [] = omega arith
  filter_shorter test (x ∷ xs) = by (test x) (filter_shorter test xs)
    where
      by : (b : Bool) → length (filter test xs) ≤ length xs → length (cond b (x ∷ filter test xs) (filter test xs)) ≤ suc (length xs)
      by true k = omega arith
      by false k = omega arith

  -- a second filter by the same test removes nothing
  pub filter-filter : (test : A → Bool) (xs : List A) → filter test (filter test xs) ≡ filter test xs
  filter-filter test [] = refl
  filter-filter test (x ∷ xs) = by (test x) refl (filter-filter test xs)
    where
      by : (b : Bool) → test x ≡ b → filter test (filter test xs) ≡ filter test xs
          → filter test (cond b (x ∷ filter test xs) (filter test xs)) ≡ cond b (x ∷ filter test xs) (filter test xs)
      by true e k = rw (e, k) refl
      by false e k = k

  -- ascending keys stay ascending when elements are removed
  pub ascends_filter : (key : A → ℕ) (test : A → Bool) (xs : List A) → IsAscending (map key xs) → IsAscending (map key (filter test xs))
  ascends_filter key test [] h = tt
  ascends_filter key test (x ∷ xs) h = by (test x) (ascends_filter key test xs h.1)
    where
      by : (b : Bool) → IsAscending (map key (filter test xs)) → IsAscending (map key (cond b (x ∷ filter test xs) (filter test xs)))
      by true k = (keys_filter key (λ m. key x < m) test xs h.0, k)
      by false k = k

  -- ascending keys stay ascending with one more element, which is not below a bound of the others
  pub ascends_push : (key : A → ℕ) (n : ℕ) (xs : List A) (y : A) → AllByRecursion (λ x. key x < n) xs → n ≤ key y → IsAscending (map key xs)
      → IsAscending (map key (xs ++ y ∷ []))
  ascends_push key n [] y below le h = (tt, tt)
  ascends_push key n (x ∷ xs) y below le h = (above xs h.0, ascends_push key n xs y below.1 le h.1)
    where
      above : (zs : List A) → AllByRecursion (λ m. key x < m) (map key zs) → AllByRecursion (λ m. key x < m) (map key (zs ++ y ∷ []))
      above [] a = (omega (arith, below.0), tt)
      above (z ∷ zs) a = (a.0, above zs a.1)
