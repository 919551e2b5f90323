-- The second batch of a turn: the action that each resource begins, and its run number.
use Rattle.std.specs.Prelude.{◌≡◌, ℕ, ◌+◌, ◌<◌, ◌≤◌, List, [], ◌∷◌, ◌++◌, map, length, Option, Some, None}
use Rattle.ocf_model.specs.Due.{Due, IsPick}
use Rattle.ocf_types.specs.Kinds.{Event}
use Rattle.ocf_types.specs.Limits.{num_max}
use Rattle.ocf_model.specs.Resource.{Resource}
use Rattle.ocf_model.specs.State.{Registry, State, stepped}
use Rattle.ocf_types.specs.declared.event.Change.TheVariants as change
use Rattle.ocf_types.specs.declared.event.Step.TheVariants as step
use Rattle.ocf_model.specs.declared.reply.TurnEnd.{TurnEnd}
use Rattle.ocf_model.specs.declared.reply.TurnEnd.TheVariants as turn_end
use Rattle.store_model.specs.Batches.{IsTooLong}
use Rattle.child_model.specs.Children.{is_held}
use Rattle.exec_ledger.specs.Actives.{Active, active_in}
use Rattle.exec_ledger.specs.LedgerView.{While}

-- the running action of a resource after it has begun this call under this run
abbrev pub begun_in : ℕ → ℕ → List ℕ × Resource → Option ℕ → List Active
begun_in at run e None = []
begun_in at run e (Some call) = active_in (e.0, stepped at (step.Begin call run) e.1)

-- the call that a resource begins at a moment, if any: none while it is held, else the one that it picks
abbrev pub IsNext : List (List ℕ) → Due → ℕ → List ℕ × Resource → Option ℕ → Type 0
IsNext held due at e call = While (is_held held e.0) (call ≡ None) (IsPick e.1 (due e.0) at call)

-- The actions that these resources begin at a moment under these due moments, while some of them are held, in order of
-- registration: each the call that it begins, if any, under the next run number.
abbrev pub ArePicks : List (List ℕ) → Due → ℕ → ℕ → Registry → List Active → Type 0
ArePicks held due at run [] begun = begun ≡ []
ArePicks held due at run (e ∷ es) begun = (call : Option ℕ) × (rest : List Active) × IsNext held due at e call
    × ArePicks held due at (run + length (begun_in at run e call)) es rest × (begun ≡ begun_in at run e call ++ rest)

-- the begin of an action, as an event
abbrev pub begin_of : ℕ → Active → Event
begin_of at a = record { at = at; change = change.Step a.id (step.Begin a.running.call a.running.run) }

-- the batch of begins
abbrev pub begins : ℕ → List Active → List Event
begins at begun = map (begin_of at) begun

-- In this state there is a run number for each of these actions; and their begins, if there are any, leave the reserve free when
-- they are appended at offset `tail`.
pub record MayBegin (s : State) (tail at : ℕ) (begun : List Active) : Type 0 where
  pub runs : s.next_run + length begun ≤ num_max
  pub reserve : 0 < length begun → IsTooLong tail (begins at begun) → ⊥

-- The picks ended before `next`, for a reason that holds of the actions begun together with `next`.
pub record Cut (held : List (List ℕ)) (s : State) (due : Due) (at : ℕ) (begun : List Active) (Why : List Active → Type 0) : Type 0 where
  pub next : Active
  pub later : List Active
  pub picks : ArePicks held due at s.next_run s.resources (begun ++ next ∷ later)
  pub why : Why (begun ++ next ∷ [])

-- the actions begun, by what ended the picks: the first of these reasons that holds at a pick ends them before it
abbrev pub PickedAs : List (List ℕ) → TurnEnd → State → Due → ℕ → ℕ → List Active → Type 0
PickedAs held turn_end.Done s due tail at begun = ArePicks held due at s.next_run s.resources begun
PickedAs held turn_end.RunsSpent s due tail at begun = Cut held s due at begun (λ more. num_max < s.next_run + length more)
PickedAs held turn_end.Full s due tail at begun =
    Cut held s due at begun (λ more. (s.next_run + length more ≤ num_max) × IsTooLong tail (begins at more))
PickedAs held turn_end.Memory s due tail at begun = Cut held s due at begun (MayBegin s tail at)
PickedAs held turn_end.Closed s due tail at begun = ⊥
PickedAs held turn_end.BookFull s due tail at begun = ⊥
PickedAs held turn_end.Disk s due tail at begun = ⊥

-- the same, and the begins may be recorded
abbrev pub Picked : List (List ℕ) → TurnEnd → State → Due → ℕ → ℕ → List Active → Type 0
Picked held end s due tail at begun = PickedAs held end s due tail at begun × MayBegin s tail at begun
