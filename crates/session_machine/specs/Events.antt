-- What happens in a session, one event after the other.
use Rattle.std.specs.Prelude.{ℕ, Bool, List, Option, Result}
use Rattle.std.specs.Global.{Vec}
use Rattle.ocf_model.specs.Answer.{Reply}
use Rattle.ocf_types.specs.declared.outcome.MetaFault.{MetaFault}
use Rattle.ocf_model.specs.declared.refusal.Refusal.{Refusal}
use Rattle.ocf_model.specs.declared.reply.TidyEnd.{TidyEnd}
use Rattle.ocf_model.specs.declared.reply.TurnEnd.{TurnEnd}
use Rattle.executor.specs.ExecutorView.{ExecutorView}
use Rattle.exec_commands.specs.declared.line.Line.{Line}
use Rattle.exec_lines.specs.declared.line.Piece.{Piece}
use Rattle.exec_client.specs.ClientView.{ClientView}
use Rattle.exec_client.specs.MessageView.{MessageView}
use Rattle.exec_client.specs.Tags.{LineTag}

-- The input was polled for at most this many milliseconds: whether a read would not block. What was read already holds a whole line or not. A read: these
-- bytes, up to a newline, and how they end; or it failed. A line was read as this, or is refused, and has this tag. The source was asked for the
-- metadata of the agent of a provider and a type that may take this many milliseconds, or as long as it needs: what it gave, or that it has no
-- answer yet. A clock reading, in milliseconds since 1970. A pause of this many microseconds. A message was
-- sent: whether all of it was, and what the client then has. Whether anybody may still read the output. And what the executor did, with its
-- view after that: it served a request; it served commands together; it tidied, as a line asked; it made a turn; it failed in the tidy before
-- one; it made a turn that begins nothing.
pub data Event (S : Type 0) : Type 0 where
  Polled : ℕ → Bool → Event S
  Peeked : Bool → Event S
  Took : List ℕ → Piece → Event S
  ReadFailed : Event S
  Noted : Result Line Refusal → LineTag → Event S
  GaveMetadata : List ℕ → List ℕ → Option ℕ → Option (Result (Vec ℕ) MetaFault) → Event S
  Shown : ℕ → Event S
  Rested : ℕ → Event S
  Sent : MessageView → Bool → ClientView S → Event S
  HasReader : Bool → Event S
  Served : Reply → ExecutorView S → Event S
  Together : List Reply → ExecutorView S → Event S
  Tidied : TidyEnd → ExecutorView S → Event S
  Turned : TurnEnd → ExecutorView S → Event S
  Faulted : ExecutorView S → Event S
  Finishes : TurnEnd → ExecutorView S → Event S
