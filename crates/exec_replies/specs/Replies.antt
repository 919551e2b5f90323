-- The JSON values of replies and notices, and their lines.
use Rattle.std.specs.Prelude.{ℕ, List, [], ◌∷◌, ◌++◌, length, true, ◌==◌, Option, Some, None, option_map, Result, Ok, Err, map, codes}
use Rattle.std.specs.Global.{Vec}
use Rattle.std.specs.List.{find}
use Rattle.serde_json.specs.Data.{Data, null, boolean, string, object}
use Rattle.serde_json.specs.View.{view}
use Rattle.serde_json.specs.Written.{compact_text}
use Rattle.ocf_types.specs.Actions.{action_word, level_number}
use Rattle.ocf_types.specs.Expected.{expect_code}
use Rattle.ocf_types.specs.Expected.{is_failure}
use Rattle.ocf_types.specs.Outcomes.{outcome_code, outcome_word}
use Rattle.ocf_model.specs.Refusals.{refusal_row}
use Rattle.ocf_model.specs.Answer.{Info, Reply}
use Rattle.ocf_types.specs.declared.operation.Recur.{Recur}
use Rattle.ocf_types.specs.declared.operation.Running.{Running}
use Rattle.ocf_types.specs.declared.operation.Ended.{Ended}
use Rattle.ocf_types.specs.declared.outcome.StartFault.{StartFault}
use Rattle.ocf_types.specs.declared.outcome.StartFault.TheVariants as start
use Rattle.ocf_model.specs.declared.refusal.Refusal.{Refusal}
use Rattle.ocf_model.specs.declared.refusal.Refusal.TheVariants.{UnknownOp}
use Rattle.ocf_types.specs.declared.notice.Notice.{Notice}
use Rattle.ocf_model.specs.declared.reply.ReplyOf.TheVariants as reply
use Rattle.ocf_model.specs.declared.reply.TidyEnd.{TidyEnd}
use Rattle.ocf_model.specs.declared.reply.TidyEnd.TheVariants as tidy
use Rattle.ocf_model.specs.declared.reply.TurnEnd.{TurnEnd}
use Rattle.ocf_model.specs.declared.reply.TurnEnd.TheVariants as turn
use Rattle.ocf_codes.specs.ExitCodes.{name_read}
use Rattle.ocf_env.specs.Keys.{key_text}
use Rattle.exec_commands.specs.Messages.{about_key, message_of}
use Rattle.exec_commands.specs.declared.refused.About.TheVariants.{Whole}
use Rattle.exec_commands.specs.declared.refused.LineRefusal.{LineRefusal}
use Rattle.exec_replies.specs.Objects.{object_from, natural_data, array_from, param_members}
use Rattle.exec_replies.specs.Service.{metadata_data, ready_data, statuses_data, text_or_null, version_data}
use Rattle.json.specs.Token.{Token}
use Rattle.exec_replies.specs.Tags.{kind_in, marked, tag_in, written_reason, written_tag}
use Rattle.exec_replies.specs.Tokens.{value_tokens}
use Rattle.exec_replies.specs.declared.tagged.Tagged.{Tagged}
use Rattle.exec_replies.specs.declared.ends.DrainEnd.{DrainEnd}
use Rattle.exec_replies.specs.declared.ends.DrainEnd.TheVariants as drain
use Rattle.ocf_types.specs.declared.outcome.MetaFault.{MetaFault}
use Rattle.ocf_types.specs.declared.outcome.MetaFault.TheVariants as fault
use Rattle.exec_replies.specs.declared.kind.LineKind.{LineKind}
use Rattle.exec_replies.specs.declared.kind.LineKind.TheVariants as kind
use Rattle.ocf_types.specs.declared.orphan.Orphan.{Orphan}
use Rattle.exec_replies.specs.declared.notice.NoticeForm.{NoticeForm}
use Rattle.exec_replies.specs.declared.notice.NoticeForm.TheVariants as notice_form
use Rattle.exec_replies.specs.declared.notice.Origin.{Origin}
use Rattle.exec_replies.specs.declared.notice.Origin.TheVariants as origin
use Rattle.exec_replies.specs.declared.service.Service.{Service}
use Rattle.exec_replies.specs.declared.statuses.Statuses.{Statuses}
use Rattle.exec_replies.specs.declared.reply.LineReply.{LineReply}
use Rattle.exec_replies.specs.declared.reply.LineReply.TheVariants as line

-- the words for how a turn, a drain, a tidy and a start ended
abbrev pub turn_word : TurnEnd → List ℕ
turn_word turn.Done = codes "done"
turn_word turn.Closed = codes "closed"
turn_word turn.BookFull = codes "book-full"
turn_word turn.RunsSpent = codes "runs-spent"
turn_word turn.Full = codes "full"
turn_word turn.Memory = codes "memory"
turn_word turn.Disk = codes "disk"

abbrev pub drain_word : DrainEnd → List ℕ
drain_word drain.Idle = codes "idle"
drain_word drain.Limit = codes "limit"
drain_word drain.Turns = codes "turns"
drain_word (drain.Turn end) = turn_word end

abbrev pub tidy_word : TidyEnd → List ℕ
tidy_word tidy.Done = codes "done"
tidy_word tidy.Closed = codes "closed"
tidy_word tidy.EpochSpent = codes "epoch-spent"
tidy_word tidy.Disk = codes "disk"

abbrev pub start_word : StartFault → List ℕ
start_word start.Missing = codes "missing"
start_word start.Denied = codes "denied"
start_word start.Other = codes "other"

-- the value of an end with this word
abbrev pub end_data : List ℕ → Data
end_data word = object_from ((codes "end", string word) ∷ [])

-- why there are no metadata
abbrev pub fault_data : MetaFault → Data
fault_data (fault.NotStarted why) = end_data (start_word why)
fault_data fault.Read = end_data (codes "read")
fault_data (fault.Failed code) = object_from ((codes "code", natural_data code) ∷ (codes "end", string (codes "failed")) ∷ [])
fault_data fault.TooLong = end_data (codes "too-long")
fault_data fault.Limit = end_data (codes "limit")
fault_data fault.Memory = end_data (codes "memory")

-- how many bytes of metadata follow
abbrev pub length_data : List ℕ → Data
length_data metadata = object_from ((codes "meta", natural_data (length metadata)) ∷ [])

-- a refusal: its word and its number
abbrev pub refusal_data : Refusal → Data
refusal_data refusal =
    object_from ((codes "error", string (refusal_row refusal).1) ∷ (codes "number", natural_data (refusal_row refusal).0) ∷ [])

-- the member for the key that a refusal is about, if any
abbrev pub key_member : Option (List ℕ) → List (List ℕ × Data)
key_member None = []
key_member (Some key) = (codes "key", string key) ∷ []

-- a refusal with a message, and a key, if any
abbrev pub keyed_data : List ℕ → Option (List ℕ) → List ℕ → ℕ → Data
keyed_data word key message number = object_from (
    (codes "error", string word)
    ∷ (key_member key ++ ((codes "message", string message) ∷ (codes "number", natural_data number) ∷ [])))

-- a refusal in a `serve` session, which also has the key that it is about, if any, and a message
abbrev pub refused_data : LineRefusal → Data
refused_data r =
    keyed_data (refusal_row r.why).1 (about_key r.why r.about) (message_of r.why r.about) (refusal_row r.why).0

-- the reply to a command that is given no call
abbrev pub done_data : Data
done_data = object_from ((codes "ok", boolean true) ∷ [])

-- the reply to a command that is given a call, with the key of its operation
abbrev pub accepted_data : ℕ → List ℕ → Data
accepted_data call key = object_from ((codes "call", natural_data call) ∷ (codes "key", string key) ∷ (codes "ok", boolean true) ∷ [])

-- the reply to `list`
abbrev pub list_data : List (List ℕ) → Data
list_data ids = object_from ((codes "ok", boolean true) ∷ (codes "resources", array_from string ids) ∷ [])

-- a recurring monitor
abbrev pub recur_data : Recur → Data
recur_data m = object_from (
    (codes "call", natural_data m.call) ∷ (codes "expect", natural_data (expect_code m.check.expect))
    ∷ (codes "interval", natural_data m.interval) ∷ (codes "level", natural_data (level_number m.check.level))
    ∷ (codes "timeout", natural_data m.timeout) ∷ [])

-- the running action of the resource with this id, with the key of its operation
abbrev pub running_data : List ℕ → Option Running → Data
running_data id None = null
running_data id (Some x) = object_from (
    (codes "call", natural_data x.call) ∷ (codes "key", string (key_text id x.task.action x.interval))
    ∷ (codes "run", natural_data x.run) ∷ [])

-- a result in a history; its code and name are those of its outcome
abbrev pub ended_data : Ended → Data
ended_data e = object_from (
    (codes "action", string (action_word e.action)) ∷ (codes "at", natural_data e.at) ∷ (codes "call", natural_data e.call)
    ∷ (codes "code", natural_data (outcome_code e.outcome)) ∷ (codes "interval", natural_data e.interval)
    ∷ (codes "name", string (name_read (outcome_code e.outcome))) ∷ (codes "outcome", string (outcome_word e.outcome))
    ∷ (codes "run", natural_data e.run) ∷ (codes "since", natural_data e.since) ∷ [])

-- the last failed result, or null
abbrev pub failed_data : Option Ended → Data
failed_data None = null
failed_data (Some e) = ended_data e

-- the reply to `info`
abbrev pub info_data : Info → Data
info_data i = object_from (
    (codes "failed", failed_data i.failed) ∷ (codes "id", string i.id) ∷ (codes "ok", boolean true)
    ∷ (codes "params", object (param_members i.params)) ∷ (codes "provider", string i.provider)
    ∷ (codes "queued", array_from natural_data i.queued.items) ∷ (codes "recurring", array_from recur_data i.recurring.items)
    ∷ (codes "running", running_data i.id i.running) ∷ (codes "type", string i.agent) ∷ [])

-- the reply to `history`
abbrev pub history_data : List Ended → Data
history_data results = object_from ((codes "ok", boolean true) ∷ (codes "results", array_from ended_data results) ∷ [])

-- a notice in its short form
abbrev pub short_data : Notice → Data
short_data n = object_from (
    (codes "action", string (action_word n.result.action)) ∷ (codes "call", natural_data n.result.call)
    ∷ (codes "code", natural_data (outcome_code n.result.outcome)) ∷ (codes "id", string n.id)
    ∷ (codes "interval", natural_data n.result.interval) ∷ (codes "name", string (name_read (outcome_code n.result.outcome)))
    ∷ (codes "outcome", string (outcome_word n.result.outcome)) ∷ (codes "run", natural_data n.result.run) ∷ [])

-- the first of these processes that belongs to the run, if any
abbrev pub lives_of : List Orphan → ℕ → Option ℕ
lives_of left run = option_map (λ p. p.pid) (find (λ p. p.run == run) left)

-- the member for a process that is still alive, if any
abbrev pub lives_member : Option ℕ → List (List ℕ × Data)
lives_member None = []
lives_member (Some pid) = (codes "lives", natural_data pid) ∷ []

-- the member for the signal that ended an agent, if any
abbrev pub signal_member : Option ℕ → List (List ℕ × Data)
signal_member None = []
signal_member (Some signal) = (codes "signal", natural_data signal) ∷ []

-- the same with when the action began and ended, the key of its operation, the expected exit code, whether it has failed, its process
-- that is still alive, if any, the reason that its agent gave, or null, and the signal that ended it, if any
abbrev pub timed_data : Option ℕ → Option (List ℕ) → Option ℕ → Notice → Data
timed_data lives reason signal n = object_from (
    (codes "action", string (action_word n.result.action)) ∷ (codes "at", natural_data n.result.at)
    ∷ (codes "call", natural_data n.result.call) ∷ (codes "code", natural_data (outcome_code n.result.outcome))
    ∷ (codes "expect", natural_data (expect_code n.expect)) ∷ (codes "failed", boolean (is_failure n))
    ∷ (codes "id", string n.id) ∷ (codes "interval", natural_data n.result.interval)
    ∷ (codes "key", string (key_text n.id n.result.action n.result.interval))
    ∷ (lives_member lives ++ ((codes "name", string (name_read (outcome_code n.result.outcome)))
    ∷ (codes "outcome", string (outcome_word n.result.outcome)) ∷ (codes "reason", text_or_null reason)
    ∷ (codes "run", natural_data n.result.run)
    ∷ (signal_member signal ++ ((codes "since", natural_data n.result.since) ∷ [])))))

-- A notice in this form, for which the agent gave this reason, if any. The signal that ended a run of a turn, if any: POSIX, <signal.h>.
-- Only interrupted runs, which an opening reports, have processes that are still alive, and no reason.
abbrev pub notice_data : NoticeForm → Option (List ℕ) → Origin → Notice → Data
notice_data notice_form.Short reason of n = short_data n
notice_data (notice_form.Timed service) reason origin.Opening n = timed_data (lives_of service.left.now n.result.run) None None n
notice_data (notice_form.Timed service) reason (origin.Turn signal) n = timed_data None reason signal n

-- the kind of the line of a notice
abbrev pub kind_of_origin : Origin → LineKind
kind_of_origin origin.Opening = kind.Report
kind_of_origin (origin.Turn signal) = kind.Notice

-- the line of a notice in this form with this reason, of a call that has this tag
abbrev pub notice_line : NoticeForm → Option (List ℕ) → Option (List ℕ) → Origin → Notice → List ℕ
notice_line form reason tag of n =
    compact_text (marked (kind_in form (kind_of_origin of)) (tag_in form tag) (notice_data form reason of n)) ++ 10 ∷ []

-- the tokens of a notice
abbrev pub notice_tokens : Tagged → Origin → Notice → List Token
notice_tokens t of n =
    value_tokens (marked (kind_in t.form (kind_of_origin of)) (tag_in t.form (written_tag t)) (notice_data t.form (written_reason t) of n))

-- the reply to a request in a `run` session
abbrev pub request_data : Reply → Data
request_data (reply.Refused refusal) = refusal_data refusal
request_data reply.Done = done_data
request_data (reply.Accepted call key) = accepted_data call key
request_data (reply.List ids) = list_data ids
request_data (reply.Info info) = info_data info
request_data (reply.History results) = history_data results
request_data (reply.Turn end) = end_data (turn_word end)

-- the reply to a line of a `run` session, where the operations of `serve` sessions alone are refused
abbrev pub run_data : LineReply → Data
run_data (line.Request r) = request_data r
run_data (line.Drain end) = end_data (drain_word end)
run_data (line.Trouble end) = end_data (turn_word end)
run_data (line.Tidy end) = end_data (tidy_word end)
run_data line.Left = end_data (codes "left")
run_data (line.Meta (Ok metadata)) = length_data metadata.items
run_data (line.Meta (Err why)) = fault_data why
run_data (line.Refused refusal) = refused_data refusal
run_data line.Version = refusal_data UnknownOp
run_data (line.Status statuses) = refusal_data UnknownOp
run_data (line.Ready counts) = refusal_data UnknownOp

-- the reply to a request in a `serve` session, where each refusal says what it is about
abbrev pub served_request_data : Reply → Data
served_request_data (reply.Refused why) = refused_data (record { why = why; about = Whole })
served_request_data r = request_data r

-- metadata in a `serve` session, or why there are none
abbrev pub served_meta_data : Result (Vec ℕ) MetaFault → Data
served_meta_data (Ok metadata) = metadata_data metadata.items
served_meta_data (Err why) = fault_data why

-- the status of each resource as JSON
abbrev pub statuses_in : Statuses → List Data
statuses_in statuses = map view statuses.values.items

-- the reply to a line of a `serve` session
abbrev pub serve_data : Service → LineReply → Data
serve_data service (line.Request r) = served_request_data r
serve_data service (line.Meta found) = served_meta_data found
serve_data service line.Version = version_data service
serve_data service (line.Status statuses) = statuses_data (statuses_in statuses)
serve_data service (line.Ready counts) = ready_data service counts
serve_data service r = run_data r

-- the reply to a line in a session of this form
abbrev pub reply_data : NoticeForm → LineReply → Data
reply_data notice_form.Short r = run_data r
reply_data (notice_form.Timed service) r = serve_data service r

-- the kind of a reply's line; a line that answers none has a kind of its own
abbrev pub kind_of : LineReply → LineKind
kind_of (line.Ready counts) = kind.Ready
kind_of (line.Trouble end) = kind.Trouble
kind_of _ = kind.Reply

-- what follows the line of a reply: in a `run` session metadata and a newline
abbrev pub following : NoticeForm → LineReply → List ℕ
following notice_form.Short (line.Meta (Ok metadata)) = metadata.items ++ 10 ∷ []
following _ _ = []

-- the bytes of a reply in a session of this form to a line that has this tag: the compact text of its value, a newline, and what follows
abbrev pub reply_line : NoticeForm → Option (List ℕ) → LineReply → List ℕ
reply_line form tag r = compact_text (marked (kind_in form (kind_of r)) (tag_in form tag) (reply_data form r)) ++ 10 ∷ following form r

-- the tokens of that line
abbrev pub reply_tokens : Tagged → LineReply → List Token
reply_tokens t r = value_tokens (marked (kind_in t.form (kind_of r)) (tag_in t.form (written_tag t)) (reply_data t.form r))

-- the line with the status of all resources, of a `serve` session
abbrev pub status_line : Option (List ℕ) → Statuses → List ℕ
status_line tag statuses = compact_text (marked (Some kind.Reply) tag (statuses_data (statuses_in statuses))) ++ 10 ∷ []
