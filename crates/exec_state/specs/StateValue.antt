-- The view of the state machine, and the picks of its resources.
use Rattle.std.specs.Prelude.{◌≡◌, ℕ, ◌==◌, Bool, List, [], map, find, Option, IsTrue, MatchOption, None, ⊤, option_map, option_and_then, unwrap_or}
use Rattle.std.specs.List.{flat_map}
use Rattle.std.specs.Map.{lookup}
use Rattle.std.specs.Str.{bytes_eq}
use Rattle.ocf_types.specs.Kinds.{Change, Event}
use Rattle.ocf_model.specs.Resource.{Resource}
use Rattle.ocf_model.specs.State.{State, resource_at, stepped}
use Rattle.ocf_model.specs.Due.{Due, IsPick}
use Rattle.ocf_types.specs.declared.event.Change.TheVariants as change
use Rattle.ocf_types.specs.declared.event.Step.TheVariants as step
use Rattle.ocf_types.specs.declared.operation.Running.{Running}
use Rattle.recurring.specs.declared.monitor.Monitor.{Monitor}
use Rattle.recurring.specs.DueIndex.{Dues}
use Rattle.recurring.specs.Monitors.{all_due_at, pairs}

-- the recurring monitors of each resource with their due moments, by its id, in order of registration
abbrev pub Monitors : Type 0
Monitors = List (List ℕ × List Monitor)

-- what contracts see of a `State`: the state that the journal keeps, the monitors with their due moments (which it does
-- not keep), whether a resource can be registered without an allocation, and whether the allocator refuses growths
pub record StateValue : Type 0 where
  pub state : State
  pub monitors : Monitors
  pub ready : Bool
  pub refuses : Bool

-- the memory that a change needs is reserved: only a registration needs any
abbrev pub IsReadyFor : StateValue → Change → Type 0
IsReadyFor s (change.Register r) = IsTrue s.ready
IsReadyFor s _ = ⊤

-- the event can be applied without an allocation
abbrev pub IsPrepared : StateValue → Event → Type 0
IsPrepared s e = IsReadyFor s e.change

-- the monitors of the resource of an id
abbrev pub monitors_at : Monitors → List ℕ → List Monitor
monitors_at all id = unwrap_or (lookup (bytes_eq id) all) []

-- the due moments of all monitors, each with its call
abbrev pub all_pairs : Monitors → List (ℕ × ℕ)
all_pairs all = flat_map (λ e. pairs e.1) all

-- the due moments of each resource's monitors with their calls, by its id
abbrev pub dues_by_id : Monitors → Dues
dues_by_id all = map (λ e. (e.0, pairs e.1)) all

-- the due moment of the monitor of an id and a call
abbrev pub due_of : Monitors → Due
due_of all id call = option_map (λ m. m.due) (find (λ m. m.recur.call == call) (monitors_at all id))

-- the due moments of the recurring monitors, as a map from resource id and call
abbrev pub dues : StateValue → Due
dues s = due_of s.monitors

-- the monitors of a state, all due at a moment
abbrev pub monitors_due_at : ℕ → State → Monitors
monitors_due_at at s = map (λ e. (e.0, all_due_at at e.1.recurring)) s.resources

-- the running action of a resource after its pick has begun at a moment under this run
abbrev pub run_of_pick : ℕ → ℕ → Resource → Option ℕ → Option Running
run_of_pick at run r pick = option_and_then (λ call. (stepped at (step.Begin call run) r).history.running) pick

-- the action that the resource of an entry begins at a moment, as it will run under this run, or `None`
abbrev pub Chooses : Due → ℕ → ℕ → List ℕ × Resource → Option Running → Type 0
Chooses due at run e chosen = (call : Option ℕ) × IsPick e.1 (due e.0) at call × (chosen ≡ run_of_pick at run e.1 call)

-- the pick of the resource of an id at a moment; nothing if there is no resource
abbrev pub IsChoice : StateValue → List ℕ → ℕ → Option ℕ → Type 0
IsChoice s id now pick = MatchOption (resource_at s.state id) (pick ≡ None) (λ r. IsPick r (dues s id) now pick)
