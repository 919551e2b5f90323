-- Group commit: commands that arrived together, as batches and as single commands.
use Rattle.std.specs.Prelude.{◌≡◌, ℕ, List, [], ◌∷◌}
use Rattle.std.specs.List.{flat_map}
use Rattle.ocf_types.specs.Kinds.{Command}
use Rattle.ocf_model.specs.Answer.{Reply}
use Rattle.store_model.specs.StoreView.{StoreView}
use Rattle.exec_ledger.specs.Commands.{TakesCommand}
use Rattle.exec_ledger.specs.LedgerView.{LedgerView}
use Rattle.exec_ledger.specs.Together.{TakesBatch}

-- one part of them: a command by itself with its reply, or a batch with its replies
pub data CommitGroup : Type 0 where
  Single : Command → Reply → CommitGroup
  Batch : List Command → List Reply → CommitGroup

-- its commands, and its replies
abbrev pub commands_of : CommitGroup → List Command
commands_of (Single c r) = c ∷ []
commands_of (Batch cs rs) = cs

abbrev pub replies_of : CommitGroup → List Reply
replies_of (Single c r) = r ∷ []
replies_of (Batch cs rs) = rs

-- what a ledger does with one at this moment
abbrev pub TakesGroup : {S : Type 0} → (S → StoreView) → ℕ → CommitGroup → LedgerView S → LedgerView S → Type 0
TakesGroup view now (Single c r) old new = TakesCommand view now c old new r
TakesGroup view now (Batch cs rs) old new = TakesBatch view now cs old new rs

-- one after the other
abbrev pub TakesGroups : {S : Type 0} → (S → StoreView) → ℕ → List CommitGroup → LedgerView S → LedgerView S → Type 0
TakesGroups view now [] old new = new ≡ old
TakesGroups {S} view now (s ∷ ss) old new = (mid : LedgerView S) × TakesGroup view now s old mid × TakesGroups view now ss mid new

-- A ledger takes commands one after the other at this moment, none left out, each with one reply: those of a batch have one
-- record.
pub record TakesCommands {S : Type 0} (view : S → StoreView) (now : ℕ) (commands : List Command) (old new : LedgerView S)
    (given : List Reply) : Type 0 where
  pub groups : List CommitGroup
  pub takes : TakesGroups view now groups old new
  pub asked : flat_map commands_of groups ≡ commands
  pub answered : flat_map replies_of groups ≡ given
