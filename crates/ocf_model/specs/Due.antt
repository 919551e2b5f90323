-- The due moments of recurring monitors, and the pick: the action that a resource begins now. Pacemaker Explained, recurring
-- monitor operations, interval; the order among operations is this executor's own.
use Rattle.std.specs.Prelude.{◌≡◌, ℕ, ◌+◌, ◌<◌, ◌≤◌, ◌⊎◌, ◌==◌, ◌&&◌, nat_lt, Bool, false, List, [], ◌∷◌, Option, Some, None, is_some}
use Rattle.std.specs.Prelude.{if◌then◌else◌, MatchOption, All, Contains, option_and_then, option_map}
use Rattle.std.specs.List.{filter_map}
use Rattle.std.specs.Option.{option_map_or}
use Rattle.std.specs.Str.{bytes_eq}
use Rattle.ocf_types.specs.Kinds.{Step, Change, Event}
use Rattle.ocf_model.specs.Resource.{Resource, of_call}
use Rattle.ocf_model.specs.State.{State, resource_at, after}
use Rattle.ocf_types.specs.declared.operation.Op.{Op}
use Rattle.ocf_types.specs.declared.operation.Recur.{Recur}
use Rattle.ocf_types.specs.declared.operation.Running.{Running}
use Rattle.ocf_types.specs.declared.event.Step.TheVariants as step
use Rattle.ocf_types.specs.declared.event.Change.TheVariants as change

-- the due moments of monitors, by the id of the resource and the call
abbrev pub Due : Type 0
Due = List ℕ → ℕ → Option ℕ

-- a resource has a monitor of this call
abbrev pub is_monitor : State → List ℕ → ℕ → Bool
is_monitor s id call = option_map_or (λ r. is_some (of_call call r.recurring)) (resource_at s id) false

-- the running action is a run of the recurring monitor of this call
abbrev pub is_run_of : ℕ → Running → Bool
is_run_of call x = x.call == call && nat_lt 0 x.interval

-- the due moment that a step at a moment sets for a call: this moment for a new monitor; after a run of the monitor, its
-- interval later
abbrev pub step_sets : Resource → ℕ → Step → ℕ → Option ℕ
step_sets r at (step.Recur m) call = if m.call == call then Some at else None
step_sets r at (step.Result run end) call =
    option_and_then (λ x. if is_run_of call x then option_map (λ m. at + m.interval) (of_call call r.recurring) else None) r.history.running
step_sets r at _ call = None

-- the due moment that an event sets for a monitor
abbrev pub sets : State → Event → List ℕ → ℕ → Option ℕ
sets s e id call = sets_by e.change
  where
    sets_by : Change → Option ℕ
    sets_by (change.Step other what) =
        if bytes_eq other id then option_and_then (λ r. step_sets r e.at what call) (resource_at s id) else None
    sets_by _ = None

-- the first of two options unless it is `None`, else the second
abbrev pub or_else : Option ℕ → Option ℕ → Option ℕ
or_else None o = o
or_else (Some n) o = Some n

-- the due moments after an event: for each monitor of the new state the one that the event sets, else the one before
abbrev pub due_after : State → Due → Event → Due
due_after s due e id call = if is_monitor (after s e) id call then or_else (sets s e id call) (due id call) else None

-- the due moments after an opening: the same moment for all monitors
abbrev pub due_at : State → ℕ → Due
due_at s at id call = if is_monitor s id call then Some at else None

-- a monitor comes before another if it is due earlier, or at the same moment and its call is no higher. A pair is (due moment,
-- call)
abbrev pub IsBefore : ℕ × ℕ → ℕ × ℕ → Type 0
IsBefore x y = (x.0 < y.0) ⊎ ((x.0 ≡ y.0) × (x.1 ≤ y.1))

-- the pick is the call of the first pair that is due, or `None` if no pair is due
abbrev pub IsLeastDue : List (ℕ × ℕ) → ℕ → Option ℕ → Type 0
IsLeastDue pairs now pick = MatchOption pick
    (All (λ p. now < p.0) pairs)
    (λ call. (due : ℕ) × Contains pairs (due, call) × (due ≤ now) × All (λ p. p.0 ≤ now → IsBefore (due, call) p) pairs)

-- the pick is nothing while an action runs; else the first queued call; else the first monitor that is due
abbrev pub IsPickOf : Option Running → List Op → List (ℕ × ℕ) → ℕ → Option ℕ → Type 0
IsPickOf (Some x) queue pairs now pick = pick ≡ None
IsPickOf None (o ∷ os) pairs now pick = pick ≡ Some o.call
IsPickOf None [] pairs now pick = IsLeastDue pairs now pick

-- the pairs of due moment and call of the monitors
abbrev pub due_pairs : List Recur → (ℕ → Option ℕ) → List (ℕ × ℕ)
due_pairs monitors due = filter_map (λ m. option_map (λ at. (at, m.call)) (due m.call)) monitors

-- the pick of a resource with these due moments at a moment
abbrev pub IsPick : Resource → (ℕ → Option ℕ) → ℕ → Option ℕ → Type 0
IsPick r due now pick = IsPickOf r.history.running r.history.queue (due_pairs r.recurring due) now pick
