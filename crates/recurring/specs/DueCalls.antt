-- The calls of a resource's recurring monitors with their due moments.
use Rattle.std.specs.Prelude.{ℕ, ◌<◌, ◌≤◌, ◌==◌, List, map, if◌then◌else◌, Option, Some, None, All, Contains}
use Rattle.ocf_model.specs.Due.{IsBefore}
use Rattle.recurring.specs.declared.due_call.DueCall.{DueCall}
use Rattle.recurring.specs.declared.monitor.Monitor.{Monitor}

-- the pair of due moment and call of a call, and the pairs of a list
abbrev pub pair_of : DueCall → ℕ × ℕ
pair_of d = (d.due, d.call)

abbrev pub pairs_of : List DueCall → List (ℕ × ℕ)
pairs_of calls = map pair_of calls

-- the call of a monitor with its due moment
abbrev pub due_call_of : Monitor → DueCall
due_call_of m = record { due = m.due; call = m.recur.call }

-- a call, made due at a moment if it is this one
abbrev pub settled_call : ℕ → ℕ → DueCall → DueCall
settled_call call due d = if d.call == call then record { due = due; call = d.call } else d

-- the call is of a pair that is due, before which no other due pair comes; or it is `None`, and no pair is due
abbrev pub IsFirstDue : List (ℕ × ℕ) → ℕ → Option DueCall → Type 0
IsFirstDue pairs now None = All (λ p. now < p.0) pairs
IsFirstDue pairs now (Some d) = Contains pairs (pair_of d) × (d.due ≤ now) × All (λ p. p.0 ≤ now → IsBefore (pair_of d) p) pairs
