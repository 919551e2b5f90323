-- The boot: the event by which an opening ends what an earlier incarnation left queued or running.
use Rattle.std.specs.Prelude.{◌≡◌, ℕ, Bool, List, [], ◌∷◌, ◌++◌, Option, Some, None, if◌then◌else◌}
use Rattle.std.specs.List.{list_any}
use Rattle.ocf_types.specs.Kinds.{Event}
use Rattle.ocf_model.specs.Resource.{is_busy}
use Rattle.ocf_model.specs.State.{State, after}
use Rattle.ocf_types.specs.declared.operation.Ended.{Ended}
use Rattle.ocf_types.specs.declared.event.Change.TheVariants as change

-- some resource has an action queued or running
abbrev pub any_busy : State → Bool
any_busy s = list_any (λ e. is_busy e.1.history) s.resources

-- the boot at a moment, as an event
abbrev pub boot_at : ℕ → Event
boot_at at = record { at = at; change = change.Boot }

-- the boot, if one is needed
abbrev pub boot_event : State → ℕ → Option Event
boot_event s at = if any_busy s then Some (boot_at at) else None

-- the state after the boot; unchanged if none is needed
abbrev pub boot : State → ℕ → State
boot s at = if any_busy s then after s (boot_at at) else s

-- the result is the last of these
abbrev pub IsLast : Ended → List Ended → Type 0
IsLast e results = (before : List Ended) × (results ≡ before ++ e ∷ [])
