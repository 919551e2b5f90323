-- The greatest length of a lawful state's encoding.
use Rattle.std.proofs.Common.{ℕ, ◌*◌, ◌≤◌, List, [], ◌∷◌, length, IsTrue, ap, arith, length-append}
use Rattle.std.specs.List.{flat_map, AllByRecursion}
use Rattle.std.proofs.Math.Nat.{suc-mul}
use Rattle.std.proofs.lemmas.List.Concat.{flat_map-cons}
use Rattle.ocf_types.specs.Limits.{longest_resource, longest_state}
use Rattle.ocf_types.specs.Names.{is_rsc_id}
use Rattle.ocf_model.specs.StateEncoding.{encoded_resource, encoded_state}
use Rattle.ocf_model.specs.State.{Registry, State}
use Rattle.ocf_model.specs.LawfulState.{IsLawfulResource, IsLawfulState}
use Rattle.ocf_model.specs.LengthLemmas.{resource_short, length_state}

module _ {A : Type 0} (f : A → List ℕ) (n : ℕ) where
  -- the length of pieces of at most n bytes each
  pub pieces : (xs : List A) → AllByRecursion (λ x. length (f x) ≤ n) xs → length (flat_map f xs) ≤ length xs * n
  pieces [] h = omega arith
  pieces (x ∷ xs) h =
      omega (
        arith,
        ap (λ (ys : List ℕ). length ys) (flat_map-cons f x xs),
        length-append (f x) (flat_map f xs),
        h.0,
        pieces xs h.1,
        suc-mul (length xs) n,
      )

-- the greatest length of lawful resources
resources_short : (n k clock : ℕ) (rs : Registry) → AllByRecursion (λ e. IsTrue (is_rsc_id e.0)) rs
    → AllByRecursion (λ e. IsLawfulResource n k clock e.1) rs
    → AllByRecursion (λ e. length (encoded_resource e) ≤ longest_resource) rs
resources_short n k clock [] ids lawful = tt
resources_short n k clock (e ∷ es) ids lawful = (resource_short n k clock e ids.0 lawful.0, resources_short n k clock es ids.1 lawful.1)

-- the greatest length of a lawful state
pub state_short : (s : State) → IsLawfulState s → length (encoded_state s) ≤ longest_state
state_short s h =
    let all = resources_short s.next_call s.next_run s.clock s.resources h.named h.resources in
    omega (arith, length_state s, h.at_most_256, pieces encoded_resource longest_resource s.resources all)
