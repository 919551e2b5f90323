-- Group commit: commands that arrived together.
use Rattle.std.specs.Prelude.{ℕ, List}
use Rattle.ocf_types.specs.Kinds.{Command}
use Rattle.ocf_model.specs.Answer.{Reply}
use Rattle.exec_ledger.specs.CommitGroups.{TakesCommands as LedgerTakesCommands}
use Rattle.executor.specs.ExecutorView.{OnlyLedgerChanges, ExecutorView, ledger_of}
use Rattle.store_model.specs.StoreView.{StoreView}

-- An executor takes commands one after the other at this moment, none left out, each with one reply: those of a batch have one
-- record.
abbrev pub TakesCommands : {S : Type 0} → (S → StoreView) → ℕ → List Command → ExecutorView S → ExecutorView S → List Reply → Type 0
TakesCommands view now commands old new given = LedgerTakesCommands view now commands (ledger_of old) (ledger_of new) given × OnlyLedgerChanges old new
