-- The order in a list of events that a history left: runs, calls, results and boots.
use Rattle.std.specs.Prelude.{◌≡◌, ◌⊎◌, ℕ, ◌≤◌, ◌==◌, ◌&&◌, Bool, true, false, not, List, [], ◌∷◌, ◌++◌, map, filter, nat_eq, if◌then◌else◌, ⊤}
use Rattle.std.specs.List.{AllByRecursion, flat_map, list_any}
use Rattle.std.specs.Option.{option_map_or}
use Rattle.std.specs.Str.{bytes_eq}
use Rattle.ocf_model.specs.Applies.{ChangeApplies}
use Rattle.ocf_types.specs.Kinds.{Change, Event}
use Rattle.ocf_types.specs.Numbers.{IsAscending}
use Rattle.ocf_model.specs.State.{State, after, resource_at}
use Rattle.ocf_types.specs.declared.event.Change.TheVariants as change
use Rattle.ocf_types.specs.declared.event.Step.TheVariants as step
use Rattle.ocf_types.specs.declared.operation.Running.{Running}
use Rattle.ocf_types.specs.declared.notice.Notice.{Notice}
use Rattle.executor.specs.Interruptions.{interrupted, interruption}

-- each change applies after those before it
abbrev pub Follow : State → List Event → Type 0
Follow s [] = ⊤
Follow s (e ∷ es) = ChangeApplies s e.change × Follow (after s e) es

-- the runs that events begin, in order
abbrev pub run_of : Change → List ℕ
run_of (change.Step id (step.Begin call run)) = run ∷ []
run_of _ = []

abbrev pub runs_begun : List Event → List ℕ
runs_begun es = flat_map (λ e. run_of e.change) es

-- no run number is begun twice: each is above all that began before it, and none is below the run number that is next in the
-- first state
abbrev pub RunsAscend : State → List Event → Type 0
RunsAscend s es = AllByRecursion (λ run. s.next_run ≤ run) (runs_begun es) × IsAscending (runs_begun es)

-- a resource's run ends: by its result, or a boot
abbrev pub ends_run : List ℕ → ℕ → Change → Bool
ends_run id run (change.Step other (step.Result which end)) = bytes_eq id other && (which == run)
ends_run id run change.Boot = true
ends_run id run _ = false

abbrev pub has_end : List ℕ → ℕ → List Event → Bool
has_end id run es = list_any (λ e. ends_run id run e.change) es

-- between two begins of a resource the first one's run ends
abbrev pub EndsBetween : List Event → Type 0
EndsBetween es = (before between later : List Event) (first second : Event) (id : List ℕ) (call run next_call next_run : ℕ)
    → es ≡ before ++ first ∷ (between ++ second ∷ later) → first.change ≡ change.Step id (step.Begin call run)
    → second.change ≡ change.Step id (step.Begin next_call next_run) → has_end id run between ≡ true

-- the interruptions that a change reports, and those that events report: a boot reports what runs in the state before it
abbrev pub written_by : State → ℕ → Change → List Notice
written_by s at change.Boot = interrupted s at
written_by s at _ = []

abbrev pub interruptions : State → List Event → List Notice
interruptions s [] = []
interruptions s (e ∷ es) = written_by s e.at e.change ++ interruptions (after s e) es

-- a notice of this run of a resource
abbrev pub is_of : List ℕ → ℕ → Notice → Bool
is_of id run n = bytes_eq id n.id && (n.result.run == run)

-- a run without an end before a boot is reported as interrupted by that boot, and by no other
abbrev pub InterruptedOnce : State → List Event → Type 0
InterruptedOnce s es = (before between later : List Event) (begin boot : Event) (id : List ℕ) (call run : ℕ)
    → es ≡ before ++ begin ∷ (between ++ boot ∷ later) → begin.change ≡ change.Step id (step.Begin call run)
    → boot.change ≡ change.Boot → has_end id run between ≡ false
    → (x : Running) × (x.call ≡ call) × (x.run ≡ run) × (filter (is_of id run) (interruptions s es) ≡ interruption id boot.at x ∷ [])

-- the calls of a resource that an event begins
abbrev pub call_begun : List ℕ → Change → List ℕ
call_begun id (change.Step other (step.Begin call run)) = if bytes_eq id other then call ∷ [] else []
call_begun id _ = []

-- the calls of a resource that an event queues
abbrev pub call_queued : List ℕ → Change → List ℕ
call_queued id (change.Step other (step.Exec o)) = if bytes_eq id other then o.call ∷ [] else []
call_queued id _ = []

-- the calls of a resource that an event gives to a monitor
abbrev pub call_monitored : List ℕ → Change → List ℕ
call_monitored id (change.Step other (step.Recur m)) = if bytes_eq id other then m.call ∷ [] else []
call_monitored id _ = []

-- the calls in its queue, and those of its monitors
abbrev pub queue_at : State → List ℕ → List ℕ
queue_at s id = option_map_or (λ r. map (λ o. o.call) r.history.queue) (resource_at s id) []

abbrev pub monitors_at : State → List ℕ → List ℕ
monitors_at s id = option_map_or (λ r. map (λ m. m.call) r.recurring) (resource_at s id) []

-- the calls of its monitors, at the start or later
abbrev pub monitored : State → List ℕ → List Event → List ℕ
monitored s id es = monitors_at s id ++ flat_map (λ e. call_monitored id e.change) es

-- the first list is the second with some elements left out
abbrev pub IsWithin : {A : Type 0} → List A → List A → Type 0
IsWithin [] ys = ⊤
IsWithin (x ∷ xs) [] = ⊥
IsWithin (x ∷ xs) (y ∷ ys) = ((x ≡ y) × IsWithin xs ys) ⊎ IsWithin (x ∷ xs) ys

-- the actions that a resource begins, monitors aside, are among those that were queued, in the order of their calls
abbrev pub BeginInOrder : State → List ℕ → List Event → Type 0
BeginInOrder s id es =
    IsWithin (filter (λ call. not (list_any (nat_eq call) (monitored s id es))) (flat_map (λ e. call_begun id e.change) es))
    (queue_at s id ++ flat_map (λ e. call_queued id e.change) es)

-- All of it: events are in order.
pub record IsInOrder (s : State) (es : List Event) : Type 0 where
  pub runs : RunsAscend s es
  pub ends : EndsBetween es
  pub reported : InterruptedOnce s es
  pub calls : (id : List ℕ) → BeginInOrder s id es
