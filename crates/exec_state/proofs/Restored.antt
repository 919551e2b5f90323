-- A registry that is restored resource by resource.
use Rattle.std.proofs.Common.{◌≡◌, ℕ, false, List, [], ◌∷◌, ◌++◌, map, None, refl, sym, ap, ◌∙◌, append_assoc}
use Rattle.std.specs.List.{AllByRecursion, IsDistinct}
use Rattle.std.specs.Map.{keys_of, lookup}
use Rattle.std.specs.Str.{bytes_eq}
use Rattle.std.proofs.lemmas.List.{map-append}
use Rattle.std.proofs.lemmas.Map.Keys.{IsDistinct-head, IsDistinct-tail}
use Rattle.ocf_model.specs.Resource.{Resource}
use Rattle.ocf_types.specs.Lemmas.{other_way}
use Rattle.recurring.specs.declared.monitor.Monitor.{Monitor}
use Rattle.recurring.specs.Monitors.{all_due_at}

-- the monitors of each resource by its id, due at a moment
abbrev pub due_by_id : ℕ → List (List ℕ × Resource) → List (List ℕ × List Monitor)
due_by_id at rs = map (λ e. (e.0, all_due_at at e.1.recurring)) rs

module _ {A : Type 0} where
  -- a property of each element holds for the one between two lists
  pub fact_between : (P : A → Type 0) (xs ys : List A) (x : A) → AllByRecursion P (xs ++ x ∷ ys) → P x
  fact_between P [] ys x h = h.0
  fact_between P (e ∷ es) ys x h = fact_between P es ys x h.1

  fact_of_key : (P : List ℕ → Type 0) (xs ys : List (List ℕ × A)) (x : List ℕ × A) → AllByRecursion P (keys_of (xs ++ x ∷ ys)) → P x.0
  fact_of_key P [] ys x h = h.0
  fact_of_key P (e ∷ es) ys x h = fact_of_key P es ys x h.1

  -- if keys are distinct, none of those before one equals it
  pub none_before_it : (xs ys : List (List ℕ × A)) (x : List ℕ × A) → IsDistinct bytes_eq (keys_of (xs ++ x ∷ ys))
      → lookup (bytes_eq x.0) xs ≡ None
  none_before_it [] ys x h = refl
  none_before_it (e ∷ es) ys x h =
      let other : bytes_eq e.0 x.0 ≡ false = fact_of_key (λ k. bytes_eq e.0 k ≡ false) es ys x
      (IsDistinct-head bytes_eq e.0 (keys_of (es ++ x ∷ ys)) h) in
      rw (other_way e.0 x.0 other) (none_before_it es ys x (IsDistinct-tail bytes_eq e.0 (keys_of (es ++ x ∷ ys)) h))

  -- a prefix that is one element longer
  pub one_more : (new done rest all : List A) (x : A) → new ≡ done ++ x ∷ [] → done ++ x ∷ rest ≡ all → new ++ rest ≡ all
  one_more new done rest all x is before = ap (λ (xs : List A). xs ++ rest) is ∙ append_assoc done (x ∷ []) rest ∙ before

-- the monitors of a prefix that is one resource longer
pub due_one_more : (at : ℕ) (new done : List (List ℕ × Resource)) (ms old : List (List ℕ × List Monitor)) (x : List ℕ × Resource)
    → new ≡ done ++ x ∷ [] → ms ≡ old ++ (x.0, all_due_at at x.1.recurring) ∷ [] → old ≡ due_by_id at done → ms ≡ due_by_id at new
due_one_more at new done ms old x is monitors before =
    rw (is, monitors, before) (sym (map-append (λ (e : List ℕ × Resource). (e.0, all_due_at at e.1.recurring)) done (x ∷ [])))

-- the next of a list with distinct ids is not among those before it
pub absent_next : (done it all rest : List (List ℕ × Resource)) (x : List ℕ × Resource) → done ++ it ≡ all → it ≡ x ∷ rest
    → IsDistinct bytes_eq (keys_of all)
    → lookup (bytes_eq x.0) done ≡ None
absent_next done it all rest x whole next distinct = none_before_it done rest x (rw (← next, whole) distinct)

-- a property of each element holds for the next one
pub fact_next : (P : List ℕ × Resource → Type 0) (done it all rest : List (List ℕ × Resource)) (x : List ℕ × Resource) → done ++ it ≡ all
    → it ≡ x ∷ rest
    → AllByRecursion P all → P x
fact_next P done it all rest x whole next each = fact_between P done rest x (rw (← next, whole) each)
