-- Which tag each line of a message has.
use Rattle.std.specs.Prelude.{List, [], ◌∷◌}
use Rattle.ocf_model.specs.Answer.{Reply}
use Rattle.ocf_types.specs.declared.notice.Notice.{Notice}
use Rattle.exec_client.specs.MessageView as message
use Rattle.exec_client.specs.MessageView.{MessageView}
use Rattle.exec_client.specs.Tags.{LineTag, TagsView, after_line_reply, after_notice, after_reply, next_line, tag_of_call}

-- the tags of notices: each has that of its call
abbrev pub notice_tags : TagsView → List Notice → List LineTag
notice_tags v [] = []
notice_tags v (n ∷ ns) = tag_of_call n.result.call v.calls ∷ notice_tags (after_notice n v) ns

-- the tags of a message: replies have those of the lines that wait, oldest first; news and a report have none
abbrev pub sent_tags : TagsView → MessageView → List LineTag
sent_tags v (message.Reply reply) = v.lines
sent_tags v (message.Replies replies) = v.lines
sent_tags v (message.Turn book notices) = notice_tags v notices
sent_tags v (message.News reply) = []
sent_tags v (message.Report notices) = []

-- these replies were sent, each to the oldest line that waited
abbrev pub after_replies : List Reply → TagsView → TagsView
after_replies [] v = v
after_replies (r ∷ rs) v = after_replies rs (after_reply r (next_line v))

-- these notices were sent
abbrev pub after_notices : List Notice → TagsView → TagsView
after_notices [] v = v
after_notices (n ∷ ns) v = after_notices ns (after_notice n v)

-- a message was sent
abbrev pub after_sent : MessageView → TagsView → TagsView
after_sent (message.Reply reply) v = after_line_reply reply (next_line v)
after_sent (message.Replies replies) v = after_replies replies v
after_sent (message.Turn book notices) v = after_notices notices v
after_sent (message.News reply) v = v
after_sent (message.Report notices) v = v
