-- Messages as contracts see them.
use Rattle.std.specs.Prelude.{List}
use Rattle.ocf_model.specs.Answer as answer
use Rattle.ocf_types.specs.declared.notice.Notice.{Notice}
use Rattle.child_model.specs.declared.answer.Entry.{Entry}
use Rattle.exec_replies.specs.declared.reply.LineReply.{LineReply}
use Rattle.exec_client.specs.declared.message.Message.{Message}
use Rattle.exec_client.specs.declared.message.Message.TheVariants as message

-- The reply to a line; the replies to commands that arrived together; the notices of a turn, after what the agent processes had answered by
-- its end; a line that answers no line; or the report of the opening, or a part of it.
pub data MessageView : Type 0 where
  Reply : LineReply → MessageView
  Replies : List answer.Reply → MessageView
  Turn : List Entry → List Notice → MessageView
  News : LineReply → MessageView
  Report : List Notice → MessageView

-- a message by its contents
abbrev pub message_view : Message → MessageView
message_view (message.Reply reply) = Reply reply.now
message_view (message.Replies replies) = Replies replies.now
message_view (message.Notices turn) = Turn turn.book.now turn.notices.now
message_view (message.News reply) = News reply.now
message_view (message.Report notices) = Report notices.now
