-- Sessions as calls, and machines of one resource that agree.
use Rattle.std.specs.Prelude.{◌≡◌, ℕ, ◌≤◌, true, List, [], ◌∷◌}
use Rattle.ocf_model.specs.Answer.{Reply}
use Rattle.executor.specs.Exchanges.{Exchange, Took}
use Rattle.executor.specs.Sessions.{Input}
use Rattle.executor_laws.specs.Isolated.{Isolated, has_monitor}

-- inputs with their replies, as calls
abbrev pub as_calls : List Input → List Reply → List Exchange
as_calls (i ∷ is) (r ∷ rs) = Took i r ∷ as_calls is rs
as_calls _ _ = []

-- The machine x agrees with y: they have the same resource and the same due moments of its monitors, and the next numbers of x
-- are not above those of y.
pub record SameIsolated (x y : Isolated) : Type 0 where
  pub resource : x.resource ≡ y.resource
  pub due : (call : ℕ) → has_monitor y.resource call ≡ true → x.due call ≡ y.due call
  pub calls : x.next_call ≤ y.next_call
  pub runs : x.next_run ≤ y.next_run
