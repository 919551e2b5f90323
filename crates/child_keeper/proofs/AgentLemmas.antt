-- The index of a run in a list, and what is left without it.
use Rattle.std.specs.Prelude.{◌≡◌, ◌==◌, ◌<◌, ℕ, zero, suc, ◌+◌, List, [], ◌∷◌, Some, None, Contains}
use Rattle.std.specs.Prelude.{cond, false, filter, length, map, not, slice_get, slice_index_or, slice_set, true}
use Rattle.std.specs.List.{position_from, remove}
use Rattle.std.proofs.Common.{ap, arith, eq-eqb, inl, inr, refl, sym, ◌∙◌}
use Rattle.std.proofs.lemmas.List.{length-map}
use Rattle.std.proofs.lemmas.Option.{get_or_from_slice_get, slice_get_within}
use Rattle.std.proofs.lemmas.Bool.{cond_both, eqb-false, eqb-true}
use Rattle.child_model.specs.Children.{without_run}
use Rattle.child_model.specs.Lemmas.{first_or_rest}

-- the index that is found has the run
pub found_at : {X : Type 0} (f : X → ℕ) (run i k : ℕ) (xs : List X) → position_from (λ x. f x == run) i xs ≡ Some k
    → (j : ℕ) × (k ≡ i + j) × (slice_get (map f xs) j ≡ Some run)
found_at f run i k [] = λ e. absurd cc
found_at f run i k (x ∷ xs) =
    cond_both (f x == run) (Some i) (position_from (λ y. f y == run) (i + 1) xs)
    (λ r. r ≡ Some k → (j : ℕ) × (k ≡ i + j) × (slice_get (f x ∷ map f xs) j ≡ Some run))
    (λ same e. let here : i ≡ k = cc in (0, omega (arith, here), ap Some (eqb-true (f x) run same)))
    (λ other e. let there = found_at f run (i + 1) k xs e in (suc there.0, omega (arith, there.1), there.2))

pub found : {X : Type 0} (f : X → ℕ) (run k : ℕ) (xs : List X) → position_from (λ x. f x == run) 0 xs ≡ Some k
    → slice_get (map f xs) k ≡ Some run
found f run k xs e = let at = found_at f run 0 k xs e in
    ap (slice_get (map f xs)) (let same : k ≡ at.0 = omega (arith, at.1) in same) ∙ at.2

-- the index that is found is within the list
pub found_within : {X : Type 0} (f : X → ℕ) (run k : ℕ) (xs : List X) → position_from (λ x. f x == run) 0 xs ≡ Some k → k < length xs
found_within f run k xs e = let within : k < length (map f xs) = slice_get_within (map f xs) k run (found f run k xs e) in
    omega (arith, within, length-map xs f)

pub found_lives : {X : Type 0} (f : X → ℕ) (run k : ℕ) (xs : List X) → position_from (λ x. f x == run) 0 xs ≡ Some k
    → Contains (map f xs) run
found_lives f run k xs e =
    (k, slice_get_within (map f xs) k run (found f run k xs e), get_or_from_slice_get (map f xs) k run run (found f run k xs e))

-- a run that is not found is not there
pub not_found : {X : Type 0} (f : X → ℕ) (run i : ℕ) (xs : List X) → position_from (λ x. f x == run) i xs ≡ None → Contains (map f xs) run
    → ⊥
not_found f run i [] = λ e lives. omega (arith, lives.1)
not_found f run i (x ∷ xs) =
    cond_both (f x == run) (Some i) (position_from (λ y. f y == run) (i + 1) xs) (λ r. r ≡ None → Contains (f x ∷ map f xs) run → ⊥)
    (λ same e lives. cc)
    (λ other e lives. elim (first_or_rest (f x) run (map f xs) lives) [
      | inl here ↦ eqb-false
          (f x) run other here
      | inr rest ↦ not_found f run (i + 1) xs e rest
    ])

-- the element at the index of a run has this run
pub run_at : {X : Type 0} (f : X → ℕ) (run k : ℕ) (xs : List X) (d : X) → slice_get (map f xs) k ≡ Some run
    → f (slice_index_or xs k d) ≡ run
run_at f run k [] d e = absurd cc
run_at f run zero (x ∷ xs) d e = cc
run_at f run (suc k) (x ∷ xs) d e = run_at f run k xs d e

-- the elements of all other runs
abbrev others : {X : Type 0} → (X → ℕ) → ℕ → List X → List X
others f run = filter (λ x. not (f x == run))

-- an element of this run is not among them
left_out : {X : Type 0} (f : X → ℕ) (run : ℕ) (x : X) (xs : List X) → f x ≡ run → others f run (x ∷ xs) ≡ others f run xs
left_out f run x xs same = ap (λ b. cond (not b) (x ∷ others f run xs) (others f run xs)) (eq-eqb (f x) run same)

-- lists with the same elements of other runs still have so after the same element is put before both
put_on : {X : Type 0} (f : X → ℕ) (run : ℕ) (x : X) (xs ys : List X) → others f run xs ≡ others f run ys
    → others f run (x ∷ xs) ≡ others f run (x ∷ ys)
put_on f run x xs ys same = ap (λ zs. cond (not (f x == run)) (x ∷ zs) zs) same

-- their runs are the live runs without this run
pub runs-others : {X : Type 0} (f : X → ℕ) (run : ℕ) (xs : List X) → map f (others f run xs) ≡ without_run run (map f xs)
runs-others f run [] = refl
runs-others f run (x ∷ xs) =
    elim (f x == run) as (λ b. map f (cond (not b) (x ∷ others f run xs) (others f run xs))
    ≡ cond (not b) (f x ∷ without_run run (map f xs)) (without_run run (map f xs))) [
      | true ↦ runs-others f run xs
      | false ↦ ap (λ ys. f x ∷ ys) (runs-others f run xs)
    ]

-- they do not change when an element of this run is removed, or replaced by another of this run
others-removed : {X : Type 0} (f : X → ℕ) (run k : ℕ) (xs : List X) → slice_get (map f xs) k ≡ Some run
    → others f run (remove xs k) ≡ others f run xs
others-removed f run k [] e = absurd cc
others-removed f run zero (x ∷ xs) e = sym (left_out f run x xs (let same : f x ≡ run = cc in same))
others-removed f run (suc k) (x ∷ xs) e = put_on f run x (remove xs k) xs (others-removed f run k xs e)

pub others-set : {X : Type 0} (f : X → ℕ) (run k : ℕ) (xs : List X) (y d : X) → slice_get (map f xs) k ≡ Some run
    → f y ≡ f (slice_index_or xs k d) → others f run (slice_set xs k y) ≡ others f run xs
others-set f run k [] y d e same = refl
others-set f run zero (x ∷ xs) y d e same =
    let was : f x ≡ run = cc in
    left_out f run y xs (same ∙ was) ∙ sym (left_out f run x xs was)
others-set f run (suc k) (x ∷ xs) y d e same = put_on f run x (slice_set xs k y) xs (others-set f run k xs y d e same)

-- what is left after the element at an index and all others of its run are removed
pub taken : {X : Type 0} (f : X → ℕ) (run k : ℕ) (xs ys zs : List X) → slice_get (map f xs) k ≡ Some run → ys ≡ remove xs k
    → zs ≡ others f run ys → zs ≡ others f run xs
taken f run k xs ys zs at gone kept = kept ∙ ap (others f run) gone ∙ others-removed f run k xs at
