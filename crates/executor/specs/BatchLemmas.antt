-- Lemmas: commands of a ledger are commands of its executor, for proofs here and in the crates above.
use Rattle.std.specs.Prelude.{◌≡◌, ℕ, Bool, true, false}
use Rattle.std.proofs.Common.{refl}
use Rattle.ocf_types.specs.Kinds.{Command}
use Rattle.ocf_model.specs.Answer.{Reply}
use Rattle.ocf_types.specs.declared.command.RequestOf.TheVariants as asked
use Rattle.exec_ledger.specs.Commands.{TakesCommand}
use Rattle.exec_ledger.specs.LedgerView.{LedgerView}
use Rattle.exec_ledger.specs.Lemmas.{of_closed, of_open, while_closed, while_open}
use Rattle.executor.specs.CallLemmas.{same_view}
use Rattle.executor.specs.Commands.{Serves}
use Rattle.executor.specs.ExecutorView.{OnlyLedgerChanges, ExecutorView, ledger_of, executor_view}
use Rattle.store_model.specs.StoreView.{StoreView}

-- an executor with another ledger, all beside it as it was
abbrev pub with_ledger : {S : Type 0} → ExecutorView S → LedgerView S → ExecutorView S
with_ledger x h = executor_view h x.children x.site x.reported x.opening_report

pub still_beside : {S : Type 0} (x : ExecutorView S) (h : LedgerView S) → OnlyLedgerChanges x (with_ledger x h)
still_beside x h = record { children = refl; site = refl; reported = refl; opening_report = refl }

module _ {S : Type 0} (view : S → StoreView) (now : ℕ) where
  pub command_served : (b : Bool) (c : Command) (r : Reply) (x : ExecutorView S) (h : LedgerView S) → x.is_open ≡ b
      → TakesCommand view now c (ledger_of x) h r → Serves view now (asked.Command c) x (with_ledger x h) r
  command_served true c r x h was does = while_open _ was ((of_open _ _ was does).0, still_beside x h)
  command_served false c r x h was does =
      let rests = of_closed _ _ was does in
      while_closed _ was (rests.0, same_view x (with_ledger x h) rests.1 (still_beside x h))
