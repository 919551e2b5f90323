-- The recurring monitors of a resource, with their due moments.
use Rattle.std.specs.Prelude.{◌≡◌, [], ℕ, ◌+◌, ◌≤◌, ◌==◌, List, map, filter, not, if◌then◌else◌, Option, Some, None, All, Contains, length, nat_le, is_some}
use Rattle.ocf_types.specs.Limits.{recurring_limit}
use Rattle.ocf_model.specs.Resource.{of_interval}
use Rattle.ocf_types.specs.declared.operation.Recur.{Recur}
use Rattle.recurring.specs.declared.monitor.Monitor.{Monitor}
use Rattle.recurring.specs.declared.recurrings.NotAdded.{NotAdded}
use Rattle.recurring.specs.declared.recurrings.NotAdded.TheVariants.{Duplicate, RecurringFull}

-- the monitors without their due moments
abbrev pub recurs : List Monitor → List Recur
recurs monitors = map (λ m. m.recur) monitors

-- a monitor that is due at a moment, and a list of them
abbrev pub monitor_due_at : ℕ → Recur → Monitor
monitor_due_at at m = record { recur = m; due = at }

abbrev pub all_due_at : ℕ → List Recur → List Monitor
all_due_at at monitors = map (monitor_due_at at) monitors

-- the pair of due moment and call of a monitor, and the pairs of a list
abbrev pub pair : Monitor → ℕ × ℕ
pair m = (m.due, m.recur.call)

abbrev pub pairs : List Monitor → List (ℕ × ℕ)
pairs monitors = map pair monitors

-- the refusal of a monitor, if any: there is one of its interval, or else there are 8
abbrev pub refusal_of : Recur → List Monitor → Option NotAdded
refusal_of m monitors =
    if is_some (of_interval m.interval (recurs monitors)) then Some Duplicate else
    (if nat_le recurring_limit (length monitors) then Some RecurringFull else None)

-- the monitors except that of an interval
abbrev pub cancelled : ℕ → List Monitor → List Monitor
cancelled interval monitors = filter (λ m. not (m.recur.interval == interval)) monitors

-- a monitor, made due at a moment
abbrev pub due_at : ℕ → Monitor → Monitor
due_at at m = record m { due = at }

-- a monitor after a run of a call ended at a moment: due its interval later if the call is its own
abbrev pub settled_one : ℕ → ℕ → Monitor → Monitor
settled_one call at m = if m.recur.call == call then due_at (at + m.recur.interval) m else m

-- the monitors after a run of a call ended at a moment
abbrev pub settled : ℕ → ℕ → List Monitor → List Monitor
settled call at monitors = map (settled_one call at) monitors

-- the monitors after an opening, all due at its moment
abbrev pub restarted : ℕ → List Monitor → List Monitor
restarted at monitors = map (due_at at) monitors

-- the moment is the least of the pairs, or `None` if there are no pairs
abbrev pub IsFirstMoment : List (ℕ × ℕ) → Option ℕ → Type 0
IsFirstMoment pairs None = pairs ≡ []
IsFirstMoment pairs (Some due) = (call : ℕ) × Contains pairs (due, call) × All (λ p. due ≤ p.0) pairs
