-- Requests to an executor.
use Rattle.std.specs.Prelude.{◌≡◌, ℕ, Bool}
use Rattle.ocf_model.specs.Answer.{event_of, reply_to}
use Rattle.ocf_model.specs.Answer.{Reply}
use Rattle.ocf_types.specs.Kinds.{Request}
use Rattle.ocf_types.specs.declared.command.RequestOf.TheVariants as asked
use Rattle.ocf_model.specs.declared.refusal.Refusal.TheVariants.{Closed}
use Rattle.ocf_model.specs.declared.reply.ReplyOf.TheVariants.{Refused}
use Rattle.exec_state.specs.Answers.{IsReplyOrMemory}
use Rattle.exec_ledger.specs.Commands.{Obeys}
use Rattle.exec_ledger.specs.LedgerView.{While}
use Rattle.exec_ledger.specs.Replies.{MemoryOnlyIf}
use Rattle.executor.specs.ExecutorView.{OnlyLedgerChanges, ExecutorView, ledger_of}
use Rattle.store_model.specs.StoreView.{StoreView}

-- what an open executor does with a request at this moment: it answers a question from its state, or for lack of memory, which it
-- meets only where the allocator refuses growths; it obeys a command
abbrev pub ServesOpen : {S : Type 0} → (S → StoreView) → ℕ → Request → ExecutorView S → ExecutorView S → Reply → Type 0
ServesOpen view now (asked.Question question) old new reply =
    IsReplyOrMemory (reply_to old.state question) reply × (new ≡ old) × MemoryOnlyIf old.refuses reply
ServesOpen view now (asked.Command command) old new reply =
    Obeys view (event_of old.state now command) (ledger_of old) (ledger_of new) reply × OnlyLedgerChanges old new

-- the same while it is open or closed: a closed one refuses everything
abbrev pub ServesWhile : Bool → {S : Type 0} → (S → StoreView) → ℕ → Request → ExecutorView S → ExecutorView S → Reply → Type 0
ServesWhile is_open view now request old new reply =
    While is_open (ServesOpen view now request old new reply) ((reply ≡ Refused Closed) × (new ≡ old))

-- what an executor does with a request at this moment
abbrev pub Serves : {S : Type 0} → (S → StoreView) → ℕ → Request → ExecutorView S → ExecutorView S → Reply → Type 0
Serves view now request old new reply =
    While old.is_open (ServesOpen view now request old new reply) ((reply ≡ Refused Closed) × (new ≡ old))
