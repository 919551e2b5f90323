-- The view of a registered resource, and its recurring monitors with their due moments.
use Rattle.std.specs.Prelude.{ℕ, ◌≤◌, List, map, length}
use Rattle.ocf_types.specs.Limits.{queue_limit, recurring_limit}
use Rattle.ocf_types.specs.Kinds.{Step}
use Rattle.ocf_model.specs.Resource.{Resource, kept}
use Rattle.ocf_model.specs.Applies.{StepApplies}
use Rattle.recurring.specs.declared.monitor.Monitor.{Monitor}
use Rattle.recurring.specs.Monitors.{recurs}
use Rattle.exec_state.specs.declared.registered.Registered.{Registered}

-- a resource as the journal keeps it: without the due moments
abbrev pub seen : {H : Type 0} → Registered H → Resource
seen r = record { provider = r.provider; agent = r.agent; params = r.params; history = r.ops; recurring = recurs r.monitors }

-- the monitors of a resource with their due moments
abbrev pub monitors_of : {H : Type 0} → Registered H → List Monitor
monitors_of r = r.monitors

-- the entries of a map, with a function applied to each value
abbrev pub map_entries : {H A : Type 0} → (Registered H → A) → List (List ℕ × Registered H) → List (List ℕ × A)
map_entries look es = map (λ e. (e.0, look e.1)) es

-- the resources of the entries, and their monitors
abbrev pub seen_all : {H : Type 0} → List (List ℕ × Registered H) → List (List ℕ × Resource)
seen_all es = map_entries seen es

abbrev pub monitors_all : {H : Type 0} → List (List ℕ × Registered H) → List (List ℕ × List Monitor)
monitors_all es = map_entries monitors_of es

-- the step applies to the resource in a state with some next numbers
abbrev pub CanTake : Step → Resource → Type 0
CanTake what r = (next_call : ℕ) × (next_run : ℕ) × StepApplies next_call next_run what r

-- the lists of the resource fit the capacity of a registered one
abbrev pub FitsRoom : Resource → Type 0
FitsRoom r = (length r.history.queue ≤ queue_limit) × (length r.history.ended ≤ kept) × (length r.recurring ≤ recurring_limit)
