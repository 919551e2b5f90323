-- The view of the index of the recurring monitors of all resources.
use Rattle.std.specs.Prelude.{ℕ, ◌==◌, ◌≤◌, List, [], map, filter, not, length, slice_index_or, if◌then◌else◌, Option, None, unwrap_or}
use Rattle.std.specs.List.{flat_map}
use Rattle.std.specs.Map.{lookup, values_of}
use Rattle.std.specs.Str.{bytes_eq}
use Rattle.recurring.specs.Monitors.{IsFirstMoment}

-- for each resource, by id, the pairs of due moment and call of its recurring monitors, in the order in which they were added;
-- the resources are in the order in which they were kept
abbrev pub Dues : Type 0
Dues = List (List ℕ × List (ℕ × ℕ))

-- the pairs of one resource
abbrev pub pairs_at : Dues → List ℕ → List (ℕ × ℕ)
pairs_at all id = unwrap_or (lookup (bytes_eq id) all) []

-- the pairs of all resources
abbrev pub pairs_of_all : Dues → List (ℕ × ℕ)
pairs_of_all all = flat_map (λ e. e.1) all

-- the pairs except that of a call
abbrev pub pairs_without : ℕ → List (ℕ × ℕ) → List (ℕ × ℕ)
pairs_without call ps = filter (λ p. not (p.1 == call)) ps

-- a pair, made due at a moment if its call is this one; and all pairs of a list
abbrev pub pair_settled : ℕ → ℕ → ℕ × ℕ → ℕ × ℕ
pair_settled call due p = if p.1 == call then (due, p.1) else p

abbrev pub pairs_settled : ℕ → ℕ → List (ℕ × ℕ) → List (ℕ × ℕ)
pairs_settled call due ps = map (pair_settled call due) ps

-- the pairs, and the number of further resources that can be kept without an allocation
pub record Index : Type 0 where
  pub dues : Dues
  pub room : ℕ

-- the pairs of the resource at an index: none if there is no resource
abbrev pub pairs_in : Dues → ℕ → List (ℕ × ℕ)
pairs_in all k = slice_index_or (values_of all) k []

-- the moment at each index is the first of the resource there, and each resource has one
pub record IsTied (all : Dues) (moments : List (Option ℕ)) : Type 0 where
  pub room : length all ≤ length moments
  pub each : (k : ℕ) → IsFirstMoment (pairs_in all k) (slice_index_or moments k None)
