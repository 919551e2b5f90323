-- Tidies of an executor.
use Rattle.std.specs.Prelude.{◌≡◌, Bool}
use Rattle.ocf_model.specs.declared.reply.TidyEnd.{TidyEnd}
use Rattle.ocf_model.specs.declared.reply.TidyEnd.TheVariants.{Closed}
use Rattle.exec_ledger.specs.LedgerView.{While}
use Rattle.exec_ledger.specs.Tidying.{Tidies as LedgerTidies}
use Rattle.executor.specs.ExecutorView.{OnlyLedgerChanges, ExecutorView, ledger_of}
use Rattle.store_model.specs.StoreView.{StoreView}

-- what a tidy of an open executor does: from one view of it to another
abbrev pub Tidies : {S : Type 0} → (S → StoreView) → ExecutorView S → ExecutorView S → TidyEnd → Type 0
Tidies view old new end = LedgerTidies view (ledger_of old) (ledger_of new) end × OnlyLedgerChanges old new

-- the same while it is open or closed: a closed one does nothing
abbrev pub TidiesWhile : Bool → {S : Type 0} → (S → StoreView) → ExecutorView S → ExecutorView S → TidyEnd → Type 0
TidiesWhile is_open view old new end = While is_open (Tidies view old new end) ((end ≡ Closed) × (new ≡ old))
