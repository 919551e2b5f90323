-- A turn that begins nothing, as a call: no input of a session.
use Rattle.std.specs.Prelude.{◌≡◌, ℕ, Bool}
use Rattle.ocf_model.specs.declared.reply.TurnEnd.{TurnEnd}
use Rattle.ocf_model.specs.declared.reply.TurnEnd.TheVariants.{Closed}
use Rattle.exec_ledger.specs.LedgerView.{While}
use Rattle.exec_ledger.specs.Pieces.{Effects, no_effects}
use Rattle.executor.specs.ExecutorView.{ExecutorView}
use Rattle.executor.specs.TurnCalls.{FinishesTurn}
use Rattle.store_model.specs.StoreView.{StoreView}

-- what it does with these effects, while the executor is open or closed: a closed one does nothing
abbrev pub FinishedWhile : Bool → {S : Type 0} → (S → StoreView) → ℕ → ExecutorView S → ExecutorView S → TurnEnd → Effects → Type 0
FinishedWhile is_open view now old new end did =
    While is_open ((takes : FinishesTurn view now old new end) × (did ≡ takes.turns.effects))
    ((end ≡ Closed) × (new ≡ old) × (did ≡ no_effects))
