-- When an event applies in a state.
use Rattle.std.specs.Prelude.{◌≡◌, ℕ, ◌<◌, ◌≤◌, List, [], ◌∷◌, length, None, IsSome, IsSomeAnd, IsTrue, ⊤, false}
use Rattle.ocf_types.specs.Limits.{num_max, resources_limit, queue_limit, recurring_limit}
use Rattle.ocf_types.specs.Kinds.{Step, Change, Event}
use Rattle.ocf_types.specs.Lawful.{HasEncodingIn}
use Rattle.ocf_model.specs.Resource.{Resource, is_busy, of_call, of_interval, queued_of}
use Rattle.ocf_model.specs.State.{State, resource_at}
use Rattle.ocf_model.specs.Boot.{any_busy}
use Rattle.ocf_types.specs.declared.layout.Layout.{Layout}
use Rattle.ocf_types.specs.declared.operation.Op.{Op}
use Rattle.ocf_types.specs.declared.operation.Recur.{Recur}
use Rattle.ocf_types.specs.declared.event.Step.TheVariants as step
use Rattle.ocf_types.specs.declared.event.Change.TheVariants as change
use Rattle.ocf_types.specs.Layouts.{current}

-- the number is the next one, and is not spent
abbrev pub IsNext : ℕ → ℕ → Type 0
IsNext n next = (n ≡ next) × (n < num_max)

-- the call can begin: it is the first queued one or, if the queue is empty, that of a recurring monitor
abbrev pub IsReady : List Op → List Recur → ℕ → Type 0
IsReady [] monitors call = IsSome (of_call call monitors)
IsReady (o ∷ os) monitors call = call ≡ o.call

-- when a step applies to a resource, in a state with these next numbers
abbrev pub StepApplies : ℕ → ℕ → Step → Resource → Type 0
StepApplies next_call next_run (step.SetParams ps) r = ⊤
StepApplies next_call next_run (step.Exec o) r = (length r.history.queue < queue_limit) × IsNext o.call next_call
StepApplies next_call next_run (step.Recur m) r =
    (length r.recurring < recurring_limit) × (of_interval m.interval r.recurring ≡ None) × IsNext m.call next_call
StepApplies next_call next_run (step.Cancel interval) r = IsSome (of_interval interval r.recurring)
StepApplies next_call next_run step.Forget r = ⊤
StepApplies next_call next_run (step.Begin call run) r =
    (r.history.running ≡ None) × IsReady r.history.queue r.recurring call × IsNext run next_run
StepApplies next_call next_run (step.Result run end) r = IsSomeAnd r.history.running (λ x. x.run ≡ run)
StepApplies next_call next_run (step.Withdraw call) r = IsSome (queued_of call r.history.queue)

-- when a change applies
abbrev pub ChangeApplies : State → Change → Type 0
ChangeApplies s (change.Register r) = (resource_at s r.id ≡ None) × (length s.resources < resources_limit)
ChangeApplies s (change.Unregister id) = IsSomeAnd (resource_at s id) (λ r. is_busy r.history ≡ false)
ChangeApplies s (change.Step id what) = IsSomeAnd (resource_at s id) (StepApplies s.next_call s.next_run what)
ChangeApplies s change.Boot = IsTrue (any_busy s)

-- when an event applies: it has an encoding in the layout, its moment is not before the clock, and its change applies
pub record AppliesIn (layout : Layout) (s : State) (e : Event) : Type 0 where
  pub encoded : HasEncodingIn layout e
  pub later : s.clock ≤ e.at
  pub change : ChangeApplies s e.change

-- an event applies in a state, in the layout that is written
abbrev pub Applies : State → Event → Type 0
Applies s e = AppliesIn current s e
