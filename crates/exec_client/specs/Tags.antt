-- The tags of lines that wait for a reply, and of the calls that lines were given.
use Rattle.std.specs.Prelude.{ℕ, ◌-◌, ◌^◌, ◌==◌, nat_lt, not, List, [], ◌∷◌, ◌++◌, length, drop, filter, if◌then◌else◌, Option, Some, None, option_map}
use Rattle.std.specs.List.{find}
use Rattle.ocf_model.specs.Answer.{Reply}
use Rattle.ocf_types.specs.declared.notice.Notice.{Notice}
use Rattle.ocf_model.specs.declared.reply.ReplyOf.TheVariants as reply
use Rattle.exec_replies.specs.declared.reply.LineReply.{LineReply}
use Rattle.exec_replies.specs.declared.reply.LineReply.TheVariants.{Request}

-- the tag of a line, if it has one
abbrev pub LineTag : Type 0
LineTag = Option (List ℕ)

-- a call, and the tag of the line that it was given to
abbrev pub CallTag : Type 0
CallTag = ℕ × List ℕ

-- The tags of the lines that wait for a reply, oldest first; the tag of the line that is being answered; and calls with their tags, oldest
-- first.
pub record TagsView : Type 0 where
  pub lines : List LineTag
  pub given : LineTag
  pub calls : List CallTag

-- no line was read
abbrev pub no_tags : TagsView
no_tags = record { lines = []; given = None; calls = [] }

-- the greatest number of lines that wait: more are not noted
abbrev pub waiting_limit : ℕ
waiting_limit = 2 ^ 64 - 1

-- one more line was read
abbrev pub with_line : LineTag → TagsView → TagsView
with_line tag v = if nat_lt (length v.lines) waiting_limit then record v { lines = v.lines ++ tag ∷ [] } else v

-- the tag of the oldest line, or `None` if no line waits
abbrev pub first_tag : List LineTag → LineTag
first_tag [] = None
first_tag (tag ∷ tags) = tag

-- the oldest line is being answered
abbrev pub next_line : TagsView → TagsView
next_line v = record { lines = drop 1 v.lines; given = first_tag v.lines; calls = v.calls }

-- the greatest number of calls whose tags are kept
abbrev pub call_limit : ℕ
call_limit = 16384

-- the newest of these calls
abbrev pub newest : List CallTag → List CallTag
newest calls = drop (length calls - call_limit) calls

-- these calls and one that was given to a line with this tag; the same calls if the line has none
abbrev pub with_call : ℕ → LineTag → List CallTag → List CallTag
with_call call None calls = calls
with_call call (Some tag) calls = newest (calls ++ (call, tag) ∷ [])

-- the line that is being answered was given this call
abbrev pub kept : ℕ → TagsView → TagsView
kept call v = record { lines = v.lines; given = None; calls = with_call call v.given v.calls }

-- a request has this reply
abbrev pub after_reply : Reply → TagsView → TagsView
after_reply (reply.Accepted call key) v = kept call v
after_reply _ v = v

-- a line has this reply
abbrev pub after_line_reply : LineReply → TagsView → TagsView
after_line_reply (Request reply) v = after_reply reply v
after_line_reply _ v = v

-- the tag of a call, if one is kept
abbrev pub tag_of_call : ℕ → List CallTag → LineTag
tag_of_call call calls = option_map (λ c. c.1) (find (λ c. c.0 == call) calls)

-- this call is forgotten
abbrev pub forgotten : ℕ → TagsView → TagsView
forgotten call v = record { lines = v.lines; given = v.given; calls = filter (λ c. not (c.0 == call)) v.calls }

-- a notice was sent: the notice of a one-time action is the last of its call
abbrev pub after_notice : Notice → TagsView → TagsView
after_notice n v = if n.result.interval == 0 then forgotten n.result.call v else v
