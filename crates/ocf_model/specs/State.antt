-- The state, and the state after an event: this executor's own. A layout determines how many results are kept; a name without
-- one is that of the second.
use Rattle.std.specs.Prelude.{ℕ, ◌+◌, List, [], ◌∷◌, ◌++◌, map, filter, fold, not, if◌then◌else◌, Option, Some, None, ⊤}
use Rattle.std.specs.Map.{lookup}
use Rattle.std.specs.Str.{bytes_eq}
use Rattle.ocf_types.specs.Kinds.{Registration, Step, Change, Event}
use Rattle.ocf_model.specs.Resource.{History, Resource, no_history, accepted, begun, ended_in, booted_in, forgotten, history_in, of_call, withdrawn_in}
use Rattle.ocf_model.specs.Resource.{without_interval}
use Rattle.ocf_types.specs.declared.layout.Layout.{Layout}
use Rattle.ocf_types.specs.declared.layout.Layout.TheVariants.{First}
use Rattle.ocf_types.specs.declared.operation.Recur.{Recur}
use Rattle.ocf_types.specs.declared.outcome.Outcome.TheVariants.{Run}
use Rattle.ocf_types.specs.declared.event.Step.TheVariants as step
use Rattle.ocf_types.specs.declared.event.Change.TheVariants as change
use Rattle.ocf_types.specs.Layouts.{current}

-- the resources with their ids, in order of registration
abbrev pub Registry : Type 0
Registry = List (List ℕ × Resource)

-- the next call id, the next run number, the moment of the last event, and the resources
pub record State : Type 0 where
  pub next_call : ℕ
  pub next_run : ℕ
  pub clock : ℕ
  pub resources : Registry

-- the state of these numbers and this registry
abbrev pub state_of : ℕ → ℕ → ℕ → Registry → State
state_of next_call next_run clock resources =
    record { next_call = next_call; next_run = next_run; clock = clock; resources = resources }

-- the state of a new journal
abbrev pub empty : State
empty = record { next_call = 1; next_run = 1; clock = 0; resources = [] }

-- the resource of an id
abbrev pub resource_at : State → List ℕ → Option Resource
resource_at s id = lookup (bytes_eq id) s.resources

-- the resources except that of an id
abbrev pub others : List ℕ → Registry → Registry
others id rs = filter (λ e. not (bytes_eq id e.0)) rs

-- the entries, with f applied to the value of an id
abbrev pub at_id : {A : Type 0} → List ℕ → (A → A) → List (List ℕ × A) → List (List ℕ × A)
at_id id f entries = map (λ e. (e.0, if bytes_eq id e.0 then f e.1 else e.1)) entries

-- a resource with f applied to its history; and, the second one, with f applied to its recurring monitors
abbrev pub on_history : (History → History) → Resource → Resource
on_history f r = record r { history = f r.history }

abbrev pub on_recurring : (List Recur → List Recur) → Resource → Resource
on_recurring f r = record r { recurring = f r.recurring }

-- a resource after a step, at its moment
abbrev pub stepped_in : Layout → ℕ → Step → Resource → Resource
stepped_in layout at (step.SetParams ps) r = record r { params = ps }
stepped_in layout at (step.Exec o) r = on_history (accepted o) r
stepped_in layout at (step.Recur m) r = on_recurring (λ ms. ms ++ m ∷ []) r
stepped_in layout at (step.Cancel interval) r = on_recurring (without_interval interval) r
stepped_in layout at step.Forget r = on_history forgotten r
stepped_in layout at (step.Begin call run) r = on_history (begun (of_call call r.recurring) run at) r
stepped_in layout at (step.Result run end) r = on_history (ended_in layout (Run end) at) r
stepped_in layout at (step.Withdraw call) r = on_history (withdrawn_in layout call at) r

abbrev pub stepped : ℕ → Step → Resource → Resource
stepped at what r = stepped_in current at what r

-- the id and the resource of a registration, with its history and its recurring monitors
abbrev pub resource_of : Registration → History → List Recur → List ℕ × Resource
resource_of r history recurring =
    (r.id, record { provider = r.provider; agent = r.agent; params = r.params; history = history; recurring = recurring })

-- a newly registered resource: it has its parameters, and no operations and no results yet
abbrev pub registered : Registration → List ℕ × Resource
registered r = resource_of r no_history []

-- the resources after a change
abbrev pub changed_in : Layout → ℕ → Change → Registry → Registry
changed_in layout at (change.Register r) rs = rs ++ registered r ∷ []
changed_in layout at (change.Unregister id) rs = others id rs
changed_in layout at (change.Step id s) rs = at_id id (stepped_in layout at s) rs
changed_in layout at change.Boot rs = map (λ e. (e.0, on_history (booted_in layout at) e.1)) rs

abbrev pub changed : ℕ → Change → Registry → Registry
changed at c rs = changed_in current at c rs

-- the number of call ids that a change draws, and that of run numbers
abbrev pub calls_drawn : Change → ℕ
calls_drawn (change.Step id (step.Exec o)) = 1
calls_drawn (change.Step id (step.Recur m)) = 1
calls_drawn _ = 0

abbrev pub runs_drawn : Change → ℕ
runs_drawn (change.Step id (step.Begin call run)) = 1
runs_drawn _ = 0

-- the state after an event, in a layout
abbrev pub after_in : Layout → State → Event → State
after_in layout s e = record {
  next_call = s.next_call + calls_drawn e.change;
  next_run = s.next_run + runs_drawn e.change;
  clock = e.at;
  resources = changed_in layout e.at e.change s.resources;
}

-- the state after an event
abbrev pub after : State → Event → State
after s e = after_in current s e

-- the state after a list of events, in a layout
abbrev pub after_all_in : Layout → State → List Event → State
after_all_in layout s es = fold (after_in layout) s es

-- the state after a list of events
abbrev pub after_all : State → List Event → State
after_all s es = fold after s es

-- the state as the first layout keeps it: without the last failures, and with fewer results of each resource
abbrev pub in_first : State → State
in_first s = record s { resources = map (λ e. (e.0, on_history (history_in First) e.1)) s.resources }

-- the id of the resource that a change names; a boot names none
abbrev pub named : Change → Option (List ℕ)
named (change.Register r) = Some r.id
named (change.Unregister id) = Some id
named (change.Step id what) = Some id
named change.Boot = None

-- the change is a registration
abbrev pub IsRegistration : Change → Type 0
IsRegistration (change.Register r) = ⊤
IsRegistration _ = ⊥
