-- What a client has received, and what it was asked.
use Rattle.std.specs.Prelude.{◌≡◌, ℕ, Bool, true, false, List, [], ◌∷◌, ◌++◌, Option}
use Rattle.std.specs.Io.KnownBytes.{Appends}
use Rattle.executor.specs.ExecutorView.{ExecutorView}
use Rattle.exec_lines.specs.Prefixes.{AppendsPrefix}
use Rattle.exec_replies.specs.declared.notice.NoticeForm.{NoticeForm}
use Rattle.exec_client.specs.MessageTags.{after_sent, sent_tags}
use Rattle.exec_client.specs.MessageView.{MessageView}
use Rattle.exec_client.specs.SentItem.{SentItem, lines_of, sent_in}
use Rattle.exec_client.specs.Tags.{LineTag, TagsView, with_line}
use Rattle.exec_client.specs.declared.client_event.ClientEvent.{ClientEvent}
use Rattle.exec_client.specs.declared.client_event.ClientEvent.TheVariants.{Sent}
use Rattle.resource_status.specs.declared.reasons.RunReason.{RunReason}

-- The executor as it was opened; the messages that were sent since, in order; the bytes that the writer holds, if they are known; the tags of
-- the lines that wait for a reply, and of calls; whether the writer was flushed after its last write, and whether a write or a flush has
-- failed; and what the client was asked, with the answers, oldest first.
pub record ClientView (S : Type 0) : Type 0 where
  pub opened : ExecutorView S
  pub reported : List SentItem
  pub written : Option (List ℕ)
  pub tags : TagsView
  pub flushed : Bool
  pub broke : Bool
  pub asked : List ClientEvent

-- one more line was noted, with this tag or with none
abbrev pub noting_tag : {S : Type 0} → ClientView S → LineTag → ClientView S
noting_tag v tag = record v { tags = with_line tag v.tags }

-- the client was asked once more
abbrev pub noting : {S : Type 0} → ClientView S → ClientEvent → ClientView S
noting v event = record v { asked = v.asked ++ event ∷ [] }

-- these messages were sent after all others
abbrev pub IsSent : {S : Type 0} → ClientView S → ClientView S → List SentItem → Type 0
IsSent old new more = (new.opened ≡ old.opened) × (new.reported ≡ old.reported ++ more)

-- The message was sent: exactly its lines were written and flushed, each with the tag that belongs to it, and notices with some reason or
-- none.
pub record Receives {S : Type 0} (form : NoticeForm) (old new : ClientView S) (what : MessageView) : Type 0 where
  pub reported : IsSent old new (sent_in what)
  pub reasons : List RunReason
  pub written : Appends old.written new.written (lines_of form reasons (sent_tags old.tags what) (sent_in what))
  pub tags : new.tags ≡ after_sent what old.tags
  pub flushed : new.flushed ≡ true
  pub asked : new.asked ≡ old.asked ++ Sent true ∷ []

-- The message was sent in part: a prefix of its lines was written, and maybe a prefix of the next line. Of the tags nothing is known then.
pub record ReceivesPart {S : Type 0} (form : NoticeForm) (old new : ClientView S) (what : MessageView) : Type 0 where
  pub reported : IsSent old new (sent_in what)
  pub reasons : List RunReason
  pub written : AppendsPrefix old.written new.written (lines_of form reasons (sent_tags old.tags what) (sent_in what))
  pub asked : new.asked ≡ old.asked ++ Sent false ∷ []
