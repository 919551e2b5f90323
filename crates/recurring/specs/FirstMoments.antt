-- The first of optional moments, by a tournament tree: each inner node has the earlier of its two children's moments.
use Rattle.std.specs.Prelude.{◌≡◌, ℕ, ◌+◌, ◌*◌, ◌<◌, ◌≤◌, min, List, length, slice_index_or, Option, Some, None, MatchOption, IsSomeAnd, All, Contains, ⊤}

-- the earlier of two optional moments
abbrev pub earlier : Option ℕ → Option ℕ → Option ℕ
earlier None other = other
earlier (Some a) None = Some a
earlier (Some a) (Some b) = Some (min a b)

-- the first moment is no later than the other, if there is another
abbrev pub IsNotAfter : Option ℕ → Option ℕ → Type 0
IsNotAfter first other = MatchOption other ⊤ (λ b. IsSomeAnd first (λ a. a ≤ b))

-- the moment is the first of these, or `None` if all are
pub record IsFirstOf (moments : List (Option ℕ)) (first : Option ℕ) : Type 0 where
  pub one : MatchOption first ⊤ (λ m. Contains moments (Some m))
  pub least : All (IsNotAfter first) moments

-- inner node i is correct: it has the earlier of the moments of nodes 2 i and 2 i + 1
abbrev pub IsWon : List (Option ℕ) → ℕ → Type 0
IsWon nodes i = slice_index_or nodes i None ≡ earlier (slice_index_or nodes (2 * i) None) (slice_index_or nodes (2 * i + 1) None)

-- the nodes of n moments: the leaves from n on; the inner nodes from 1 on, each of them correct; node 0 is not used
pub record IsTournament (n : ℕ) (nodes : List (Option ℕ)) : Type 0 where
  pub long : length nodes ≡ 2 * n
  pub won : (i : ℕ) → 1 ≤ i → i < n → IsWon nodes i
