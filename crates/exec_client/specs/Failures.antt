-- Which messages say that a line was not done or that an action failed.
use Rattle.std.specs.Prelude.{Bool, true, false, List, Err}
use Rattle.std.specs.List.{list_any}
use Rattle.ocf_types.specs.Expected.{is_failure}
use Rattle.ocf_model.specs.Answer.{Reply}
use Rattle.ocf_model.specs.declared.reply.ReplyOf.TheVariants as reply
use Rattle.ocf_model.specs.declared.reply.TidyEnd.TheVariants as tidy
use Rattle.exec_replies.specs.declared.ends.DrainEnd.TheVariants as drain
use Rattle.exec_replies.specs.declared.reply.LineReply.{LineReply}
use Rattle.exec_replies.specs.declared.reply.LineReply.TheVariants as line
use Rattle.exec_client.specs.SentItem.{Answered, Noticed, Reported, SentItem}

-- a request was refused
abbrev pub is_refused : Reply → Bool
is_refused (reply.Refused refusal) = true
is_refused _ = false

-- The line of this reply was refused, or not done: an agent gave no metadata, a drain or a watch ended neither idle nor by its limit, or a
-- tidy did not happen. `run` refuses the lines that only `serve` knows.
abbrev pub is_undone : LineReply → Bool
is_undone (line.Request given) = is_refused given
is_undone (line.Drain drain.Idle) = false
is_undone (line.Drain drain.Limit) = false
is_undone (line.Drain end) = true
is_undone (line.Tidy tidy.Done) = false
is_undone (line.Tidy end) = true
is_undone (line.Meta (Err fault)) = true
is_undone (line.Refused refusal) = true
is_undone line.Version = true
is_undone (line.Status statuses) = true
is_undone _ = false

-- a message says that a line was not done, or that an action failed, by what was expected of it
abbrev pub tells_failure : SentItem → Bool
tells_failure (Answered given) = is_undone given
tells_failure (Noticed notice signal) = is_failure notice
tells_failure (Reported notice) = is_failure notice

-- one of these messages does
abbrev pub tell_failure : List SentItem → Bool
tell_failure items = list_any tells_failure items
