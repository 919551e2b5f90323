-- The processes of a listing that belong to what was given up.
use Rattle.std.specs.Prelude.{◌≡◌, ◌↔◌, ℕ, zero, suc, Bool, true, false, List, [], ◌∷◌, ◌++◌, Contains, cond, filter, not}
use Rattle.std.proofs.Common.{ap, arith, refl, subst, sym, ◌∙◌}
use Rattle.std.proofs.lemmas.List.Elements.{All-contains, All-contains_itself, All-filter, filter_passes}
use Rattle.agent_system.specs.May.{AreAll, agents_in, groups_in}
use Rattle.agent_system.specs.Sights.{GivenUp}
use Rattle.proc_files.specs.Belongings.{Belongs}
use Rattle.proc_files.specs.declared.process.Process.{Process}

-- an element is the first one or among the others
first_or_other : {X : Type 0} (x : X) (xs : List X) (y : X) (P : Type 0) → Contains (x ∷ xs) y → (x ≡ y → P) → (Contains xs y → P) → P
first_or_other x xs y P (zero, within, same) here there = here same
first_or_other x xs y P (suc k, within, same) here there = there (k, omega (arith, within), same)

-- an element is in a longer list
later : {X : Type 0} (x : X) (xs : List X) (y : X) → Contains xs y → Contains (x ∷ xs) y
later x xs y (k, within, same) = (suc k, omega (arith, within), same)

-- a filter keeps what passes the test, and nothing else
pub filtered_from : {X : Type 0} (p : X → Bool) (xs : List X) (y : X) → Contains (filter p xs) y → Contains xs y
filtered_from p xs y = All-contains (Contains xs) (filter p xs) y (All-filter p (Contains xs) xs (All-contains_itself xs))

pub filtered_passes : {X : Type 0} (p : X → Bool) (xs : List X) (y : X) → Contains (filter p xs) y → p y ≡ true
filtered_passes p xs y = All-contains (λ x. p x ≡ true) (filter p xs) y (filter_passes p xs)

pub passing_filtered : {X : Type 0} (p : X → Bool) (xs : List X) (y : X) → Contains xs y → p y ≡ true → Contains (filter p xs) y
passing_filtered p [] y has passes = has
passing_filtered p (x ∷ xs) y has passes =
    first_or_other x xs y (Contains (filter p (x ∷ xs)) y) has
    (λ same. subst (λ t. Contains (cond t (x ∷ filter p xs) (filter p xs)) y) (sym (ap p same ∙ passes)) (0, omega arith, same))
    (λ rest. by (p x) (passing_filtered p xs y rest passes))
  where
    by : (t : Bool) → Contains (filter p xs) y → Contains (cond t (x ∷ filter p xs) (filter p xs)) y
    by true kept = later x (filter p xs) y kept
    by false kept = kept

-- what is not true is false
pub is_false : (b : Bool) → not b ≡ true → b ≡ false
is_false true h = absurd cc
is_false false h = refl

-- of what belongs to it, all that has not ended
pub living_are_all : (u : GivenUp) (table found : List Process)
    → ((p : Process) → Contains found p ↔ Belongs table (u.known ++ agents_in u table) (groups_in u table) p)
    → AreAll u table (filter (λ p. not p.has_ended) found)
living_are_all u table found exact = λ p. (
  λ has. ((exact p).0 (filtered_from (λ q. not q.has_ended) found p has), is_false p.has_ended (filtered_passes (λ q. not q.has_ended) found p has)),
  λ (belongs, lives). passing_filtered (λ q. not q.has_ended) found p ((exact p).1 belongs) (ap not lives),
)

-- the same of what was found by these known processes and groups
pub found_are_all : (u : GivenUp) (table known : List Process) (groups : List ℕ) (found living : List Process)
    → known ≡ u.known ++ agents_in u table → groups ≡ groups_in u table
    → ((p : Process) → Contains found p ↔ Belongs table known groups p) → living ≡ filter (λ p. not p.has_ended) found → AreAll u table living
found_are_all u table known groups found living known_is groups_is exact living_is =
    subst (AreAll u table) (sym living_is) (living_are_all u table found
    (subst (λ k. (p : Process) → Contains found p ↔ Belongs table k (groups_in u table) p) known_is
    (subst (λ s. (p : Process) → Contains found p ↔ Belongs table known s p) groups_is exact)))
