-- The number of runs of a resource that ended, and of those that failed.
use Rattle.std.specs.Prelude.{◌≡◌, ℕ, ◌+◌, min, Bool, ◌&&◌, if◌then◌else◌, List, count_by, unwrap_or}
use Rattle.std.specs.Map.{lookup}
use Rattle.std.specs.Str.{bytes_eq}
use Rattle.resource_status.specs.Runs.{Ran}
use Rattle.resource_status.specs.declared.count.RunCount.{RunCount}

-- the greatest count
abbrev pub greatest : ℕ
greatest = 18446744073709551615

-- the counts of no run
abbrev pub no_runs : RunCount
no_runs = record { runs = 0; failures = 0 }

-- the counts with one more run
abbrev pub one_more : Bool → RunCount → RunCount
one_more failed c =
    record { runs = min (c.runs + 1) greatest; failures = min (c.failures + (if failed then 1 else 0)) greatest }

-- the number of runs of a resource that ended, and of those that failed, up to the greatest count
abbrev pub runs_of : List ℕ → List Ran → ℕ
runs_of id runs = min (count_by (λ r. bytes_eq id r.id) runs) greatest

abbrev pub failures_of : List ℕ → List Ran → ℕ
failures_of id runs = min (count_by (λ r. bytes_eq id r.id && r.failed) runs) greatest

-- the counts of a resource in a list of runs
abbrev pub tally : List Ran → List ℕ → RunCount
tally runs id = record { runs = runs_of id runs; failures = failures_of id runs }

-- the counts of a resource in a map
abbrev pub count_at : List (List ℕ × RunCount) → List ℕ → RunCount
count_at counts id = unwrap_or (lookup (bytes_eq id) counts) no_runs

-- the counts of each resource are those of these runs
abbrev pub Tallies : List (List ℕ × RunCount) → List Ran → Type 0
Tallies counts runs = (id : List ℕ) → count_at counts id ≡ tally runs id
