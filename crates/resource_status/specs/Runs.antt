-- The runs that ended over a list of events, and whether each has failed. A run ends by its result, or by a boot, which interrupts it.
use Rattle.std.specs.Prelude.{◌≡◌, ◌<◌, ◌≤◌, ◌⊎◌, ℕ, Bool, false, List, [], ◌∷◌, ◌++◌, filter, length, not, if◌then◌else◌}
use Rattle.std.specs.Prelude.{Option, Some, None, option_and_then, option_map, option_to_list}
use Rattle.std.specs.List.{flat_map}
use Rattle.std.specs.Str.{bytes_eq}
use Rattle.ocf_types.specs.Expected.{has_failed}
use Rattle.ocf_model.specs.Indexes.{id_at}
use Rattle.ocf_types.specs.Kinds.{Change, Event}
use Rattle.ocf_model.specs.Resource.{Resource}
use Rattle.ocf_model.specs.State.{State, after}
use Rattle.ocf_types.specs.declared.event.Change.TheVariants as change
use Rattle.ocf_types.specs.declared.event.Step.TheVariants as step
use Rattle.ocf_types.specs.declared.operation.Running.{Running}
use Rattle.ocf_types.specs.declared.outcome.Outcome.{Outcome}
use Rattle.ocf_types.specs.declared.outcome.Outcome.TheVariants.{Run, Interrupted}

-- a run that ended: the id of its resource, and whether it has failed
pub record Ran : Type 0 where
  pub id : List ℕ
  pub failed : Bool

-- the run of an id that has failed or not
abbrev pub ran_as : List ℕ → Bool → Ran
ran_as id failed = record { id = id; failed = failed }

-- the outcome by which a change ends the running action of an id: a result ends that of its own resource, a boot that of each
abbrev pub end_of : Change → List ℕ → Option Outcome
end_of (change.Step of (step.Result run end)) id = if bytes_eq of id then Some (Run end) else None
end_of change.Boot id = Some Interrupted
end_of _ id = None

-- no other resource than those from one index on and below another has this id
abbrev pub IsAlone : State → List ℕ → ℕ → ℕ → Type 0
IsAlone s id from to = (k : ℕ) → k < length s.resources → (k < from) ⊎ (to ≤ k) → bytes_eq id (id_at s k) ≡ false

-- the change ends the running action of no resource but those from one index on and below another
abbrev pub EndsWithin : State → Change → ℕ → ℕ → Type 0
EndsWithin s c from to = (k : ℕ) → k < length s.resources → (k < from) ⊎ (to ≤ k) → end_of c (id_at s k) ≡ None

-- the running action as a run that ended with this outcome: it has failed or not by the expectation of its task
abbrev pub ran : List ℕ → Outcome → Running → Ran
ran id outcome x = ran_as id (has_failed x.task.action x.task.check.expect outcome)

-- the run of a resource that a change ends, if any, from the running action before it
abbrev pub ended_by : Change → List ℕ × Resource → List Ran
ended_by c e = option_to_list (option_and_then (λ outcome. option_map (ran e.0 outcome) e.1.history.running) (end_of c e.0))

-- the runs of all other resources
abbrev pub without : List ℕ → List Ran → List Ran
without id runs = filter (λ r. not (bytes_eq id r.id)) runs

-- the earlier runs that a change leaves: unregistering a resource removes its runs
abbrev pub left_by : Change → List Ran → List Ran
left_by (change.Unregister id) runs = without id runs
left_by _ runs = runs

-- the runs after an event, by the state before it
abbrev pub ran_after : State → List Ran → Event → List Ran
ran_after s runs e = left_by e.change runs ++ flat_map (ended_by e.change) s.resources

-- the runs after events, from these runs and this state
abbrev pub runs_since : State → List Ran → List Event → List Ran
runs_since s runs [] = runs
runs_since s runs (e ∷ es) = runs_since (after s e) (ran_after s runs e) es
