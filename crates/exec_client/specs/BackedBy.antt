-- The events that back what is sent: each acknowledgement and each notice of a result has an event of its own.
use Rattle.std.specs.Prelude.{◌≡◌, Bool, true, false, List, [], ◌∷◌}
use Rattle.ocf_types.specs.Kinds.{Event}
use Rattle.ocf_model.specs.declared.reply.ReplyOf.TheVariants.{Accepted, Done}
use Rattle.exec_ledger.specs.Replies.{KeepsRunning, acknowledged}
use Rattle.executor.specs.Reports.{IsOfResult}
use Rattle.exec_replies.specs.declared.reply.LineReply.TheVariants.{Request}
use Rattle.exec_client.specs.SentItem.{SentItem, Answered, Noticed}

-- a message claims that something is recorded: it acknowledges a command, or is the notice of a result
abbrev pub claims : SentItem → Bool
claims (Answered (Request Done)) = true
claims (Answered (Request (Accepted call key))) = true
claims (Noticed notice signal) = true
claims _ = false

-- a message claims that this event is recorded: the event of the command that it acknowledges, or its result
abbrev pub IsMessageOf : SentItem → Event → Type 0
IsMessageOf (Answered (Request reply)) e = KeepsRunning e.change × (reply ≡ acknowledged e.change)
IsMessageOf (Noticed notice signal) e = IsOfResult notice e
IsMessageOf _ e = ⊥

-- These messages are backed by these events: each message that claims something has an event of its own, in the same order.
pub data BackedBy : List SentItem → List Event → Type 0 where
  nothing : BackedBy [] []
  unsent : (e : Event) (ss : List SentItem) (es : List Event) → BackedBy ss es → BackedBy ss (e ∷ es)
  sends : (s : SentItem) (e : Event) (ss : List SentItem) (es : List Event) → IsMessageOf s e → BackedBy ss es → BackedBy (s ∷ ss) (e ∷ es)
  states_else : (s : SentItem) (ss : List SentItem) (es : List Event) → claims s ≡ false → BackedBy ss es → BackedBy (s ∷ ss) es
