-- Examples: the definitions refuse messages that are sent too often, too early or not at all.
use Rattle.std.proofs.Common.{ℕ, true≢false, List, [], ◌∷◌, ◌++◌, ap, length, length-append, arith}
use Rattle.ocf_types.specs.Kinds.{Event, Request}
use Rattle.ocf_model.specs.Answer.{Reply}
use Rattle.ocf_model.specs.declared.reply.ReplyOf.TheVariants.{Done}
use Rattle.store_model.specs.StoreView.{StoreView}
use Rattle.executor.specs.Exchanges.{Took}
use Rattle.executor.specs.Sessions.{Effects}
use Rattle.executor.specs.ExecutorView.{ExecutorView}
use Rattle.executor.specs.declared.session.InputOf.TheVariants as input
use Rattle.exec_client.specs.BackedBy.{BackedBy, states_else, sends, unsent}
use Rattle.exec_client.specs.SentItem.{SentItem, answered}
use Rattle.exec_client.specs.Sends.{SendsCalls}

-- the line that acknowledges a command
abbrev ok : SentItem
ok = answered Done

-- no recorded event backs it
too_early : (ss : List SentItem) → BackedBy (ok ∷ ss) [] → ⊥
too_early ss (states_else _ _ _ none backed) = true≢false none

-- one event backs two of them
twice : (e : Event) → BackedBy (ok ∷ ok ∷ []) (e ∷ []) → ⊥
twice e (unsent _ _ _ backed) = too_early (ok ∷ []) backed
twice e (sends _ _ _ _ is backed) = too_early [] backed
twice e (states_else _ _ _ none backed) = true≢false none

module _ {S : Type 0} (view : S → StoreView) (x y : ExecutorView S) (d : Effects) where
  -- no call was made
  of_no_call : SendsCalls view x [] y d (ok ∷ []) → ⊥
  of_no_call (same, none, nothing) = true≢false nothing.0

  -- the reply to a command is left out
  left_out : (now : ℕ) (request : Request) (reply : Reply) → SendsCalls view x (Took (input.Request now request) reply ∷ []) y d [] → ⊥
  left_out now request reply (aside, mine, later, mid, first, rest, quiet, does, says, others, both, reported) =
      let all = ap length reported in
      let one = ap length says in
      omega (arith, all, one, length-append aside (mine ++ later), length-append mine later)
