-- The invariant of the state machine.
use Rattle.std.specs.Prelude.{◌≡◌, ℕ, List, map}
use Rattle.ocf_model.specs.State.{State, Registry}
use Rattle.ocf_model.specs.LawfulState.{IsLawfulState}
use Rattle.ocf_types.specs.declared.operation.Recur.{Recur}
use Rattle.recurring.specs.Monitors.{recurs}
use Rattle.exec_state.specs.StateValue.{StateValue, Monitors}

-- the recurring monitors by id, without their due moments
abbrev pub recurs_by_id : Monitors → List (List ℕ × List Recur)
recurs_by_id all = map (λ e. (e.0, recurs e.1)) all

-- the recurring monitors of the resources by id
abbrev pub recurring_by_id : Registry → List (List ℕ × List Recur)
recurring_by_id rs = map (λ e. (e.0, e.1.recurring)) rs

-- the monitors are those of the state's resources
abbrev pub AreMonitorsOf : State → Monitors → Type 0
AreMonitorsOf s all = recurs_by_id all ≡ recurring_by_id s.resources

-- the state is lawful, and the due moments are of its monitors
pub record IsLawfulValue (s : StateValue) : Type 0 where
  pub lawful : IsLawfulState s.state
  pub monitors : AreMonitorsOf s.state s.monitors
