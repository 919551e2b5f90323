-- Commands that arrived together, as calls.
use Rattle.std.specs.Prelude.{◌≡◌, ℕ, List, [], ◌∷◌}
use Rattle.std.specs.List.{AllByRecursion, flat_map}
use Rattle.ocf_types.specs.Kinds.{Command}
use Rattle.ocf_model.specs.Answer.{Reply}
use Rattle.ocf_types.specs.declared.command.RequestOf.TheVariants as asked
use Rattle.exec_ledger.specs.Pieces.{Effects}
use Rattle.executor.specs.ExecutorView.{ExecutorView}
use Rattle.executor.specs.declared.session.InputOf.TheVariants as input
use Rattle.executor.specs.Exchanges.{Calls, Exchange, Batch, Took}
use Rattle.store_model.specs.StoreView.{StoreView}

-- the commands of a call, and the replies to them
abbrev pub commands_of : Exchange → List Command
commands_of (Took (input.Request now (asked.Command c)) reply) = c ∷ []
commands_of (Batch now commands replies) = commands
commands_of _ = []

abbrev pub replies_of : Exchange → List Reply
replies_of (Took i reply) = reply ∷ []
replies_of (Batch now commands replies) = replies
replies_of _ = []

-- the call is a command, or a batch of commands, at this moment
abbrev pub IsAt : ℕ → Exchange → Type 0
IsAt now (Took (input.Request at (asked.Command c)) reply) = at ≡ now
IsAt now (Batch at commands replies) = at ≡ now
IsAt now _ = ⊥

-- Commands that an executor takes (`TakesCommands`), as calls, one after the other: each a command by itself, or a batch.
pub record CallsCommands {S : Type 0} (view : S → StoreView) (now : ℕ) (commands : List Command) (old new : ExecutorView S) (given : List Reply) : Type 0 where
  pub exchanges : List Exchange
  pub effects : Effects
  pub calls : Calls view old exchanges new effects
  pub asked : flat_map commands_of exchanges ≡ commands
  pub answered : flat_map replies_of exchanges ≡ given
  pub at_once : AllByRecursion (IsAt now) exchanges
