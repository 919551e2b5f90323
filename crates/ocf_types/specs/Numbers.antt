-- Which numbers are moments, call ids, run numbers and lengths of time, and which ascend.
use Rattle.std.specs.Prelude.{ℕ, ◌≤◌, ◌<◌, ◌^◌, List, [], ◌∷◌, ⊤}
use Rattle.std.specs.List.{AllByRecursion}
use Rattle.ocf_types.specs.Limits.{num_max}

-- whole milliseconds, up to the greatest moment
abbrev pub IsMoment : ℕ → Type 0
IsMoment n = n ≤ num_max

-- a call id or a run number: drawn from 1 upwards
abbrev pub IsDrawn : ℕ → Type 0
IsDrawn n = (1 ≤ n) × (n ≤ num_max)

-- an interval or a timeout: at least one millisecond, in four bytes
abbrev pub IsMillis : ℕ → Type 0
IsMillis n = (1 ≤ n) × (n < 2 ^ 32)

-- numbers that strictly ascend
abbrev pub IsAscending : List ℕ → Type 0
IsAscending [] = ⊤
IsAscending (n ∷ ns) = AllByRecursion (λ m. n < m) ns × IsAscending ns
