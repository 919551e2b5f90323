-- Moments at which no resource begins an action.
use Rattle.std.specs.Prelude.{ℕ, ◌<◌, List, None, MatchOption, ⊤}
use Rattle.std.specs.Map.{lookup}
use Rattle.std.specs.Str.{bytes_eq}
use Rattle.ocf_model.specs.Due.{IsPickOf}
use Rattle.ocf_model.specs.State.{Registry}
use Rattle.recurring.specs.Monitors.{pairs}
use Rattle.exec_state.specs.StateValue.{StateValue, Monitors, IsChoice, monitors_at}

-- no resource begins anything at a moment
abbrev pub Rests : StateValue → ℕ → Type 0
Rests s now = (id : List ℕ) → IsChoice s id now None

-- the same for resources, and their monitors with due moments
abbrev pub AllRest : Registry → Monitors → ℕ → Type 0
AllRest resources monitors now = (id : List ℕ)
    → MatchOption (lookup (bytes_eq id) resources) ⊤
    (λ r. IsPickOf r.history.running r.history.queue (pairs (monitors_at monitors id)) now None)

-- no resource begins anything at a moment before this one
abbrev pub RestBefore : Registry → Monitors → ℕ → Type 0
RestBefore resources monitors until = (now : ℕ) → now < until → AllRest resources monitors now
