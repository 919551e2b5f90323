-- A batch of commands: they arrived together, and their events are one record.
use Rattle.std.specs.Prelude.{◌≡◌, ℕ, List}
use Rattle.ocf_types.specs.Kinds.{Command}
use Rattle.ocf_model.specs.Answer.{Reply}
use Rattle.exec_ledger.specs.Pieces.{Effects}
pub use Rattle.exec_ledger.specs.Pieces.{batch_effects}
use Rattle.exec_ledger.specs.Together.{TakesBatch as LedgerTakesBatch}
use Rattle.executor.specs.ExecutorView.{OnlyLedgerChanges, ExecutorView, ledger_of}
use Rattle.store_model.specs.StoreView.{StoreView}

-- An open executor takes a batch of commands at this moment: from one view of it to another.
pub record TakesBatch {S : Type 0} (view : S → StoreView) (now : ℕ) (commands : List Command) (old new : ExecutorView S) (replies : List Reply)
    (effects : Effects) : Type 0 where
  pub takes : LedgerTakesBatch view now commands (ledger_of old) (ledger_of new) replies
  pub beside : OnlyLedgerChanges old new
  pub does : effects ≡ batch_effects new.is_open takes.events
