-- The last result of a kind.
use Rattle.std.specs.Prelude.{ℕ, ◌==◌, Bool, ◌&&◌, not, List, filter, Option, None}
use Rattle.std.specs.List.{last_or}
use Rattle.ocf_types.specs.declared.operation.Ended.{Ended}

-- a result is one of the recurring monitor of this call
abbrev pub is_run : ℕ → Ended → Bool
is_run call e = (e.call == call) && not (e.interval == 0)

-- the last item for which this holds
abbrev pub last_of : {A : Type 0} → (A → Bool) → List A → Option A
last_of is es = last_or None (filter is es)
