-- What a client is sent.
use Rattle.std.specs.Prelude.{ℕ, List, [], ◌∷◌, ◌++◌, drop, map, Option, None}
use Rattle.ocf_model.specs.Answer.{Reply}
use Rattle.ocf_types.specs.declared.notice.Notice.{Notice}
use Rattle.exec_replies.specs.Replies.{notice_line, reply_line}
use Rattle.exec_replies.specs.declared.notice.NoticeForm.{NoticeForm}
use Rattle.exec_replies.specs.declared.notice.Origin.TheVariants.{Opening, Turn}
use Rattle.exec_replies.specs.declared.reply.LineReply.{LineReply}
use Rattle.exec_replies.specs.declared.reply.LineReply.TheVariants.{Request}
use Rattle.child_model.specs.declared.answer.Entry.{Entry}
use Rattle.resource_status.specs.Reasons.{reason_of}
use Rattle.exec_client.specs.MessageView as message
use Rattle.exec_client.specs.MessageView.{MessageView}
use Rattle.exec_client.specs.Signals.{signal_of}
use Rattle.exec_client.specs.Tags.{LineTag, first_tag}
use Rattle.resource_status.specs.declared.reasons.RunReason.{RunReason}

-- a reply to a line or other news; a notice of a turn, with the signal that ended its run, if one did; or a line of the opening's report
pub data SentItem : Type 0 where
  Answered : LineReply → SentItem
  Noticed : Notice → Option ℕ → SentItem
  Reported : Notice → SentItem

-- a reply to a request, as it is sent
abbrev pub answered : Reply → SentItem
answered reply = Answered (Request reply)

-- a notice of a turn, with the signal that ended its run according to this book of answers
abbrev pub noticed_by : List Entry → Notice → SentItem
noticed_by book notice = Noticed notice (signal_of book notice.result.run)

-- the lines of a message, in order
abbrev pub sent_in : MessageView → List SentItem
sent_in (message.Reply reply) = Answered reply ∷ []
sent_in (message.News reply) = Answered reply ∷ []
sent_in (message.Replies replies) = map answered replies
sent_in (message.Turn book notices) = map (noticed_by book) notices
sent_in (message.Report notices) = map Reported notices

-- the bytes of a line in a session whose notices have this form, with this tag; a notice has the reason of its run among these, if any
abbrev pub line_of : NoticeForm → List RunReason → LineTag → SentItem → List ℕ
line_of form reasons tag (Answered reply) = reply_line form tag reply
line_of form reasons tag (Noticed notice signal) = notice_line form (reason_of reasons notice.result.run) tag (Turn signal) notice
line_of form reasons tag (Reported notice) = notice_line form None tag Opening notice

-- the bytes of lines, the first with the first of these tags and so on; if there are fewer tags, the other lines have none
abbrev pub lines_of : NoticeForm → List RunReason → List LineTag → List SentItem → List ℕ
lines_of form reasons tags [] = []
lines_of form reasons tags (s ∷ ss) = line_of form reasons (first_tag tags) s ++ lines_of form reasons (drop 1 tags) ss
