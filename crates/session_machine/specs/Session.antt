-- A session between two events: what it has read and not answered, its executor, its client, its last own turn, and what it does next.
use Rattle.std.specs.Prelude.{ℕ, Bool, true, false, List, [], ◌∷◌, map, length, Option, Some, None, Result, Ok}
use Rattle.ocf_types.specs.Kinds.{Command}
use Rattle.ocf_types.specs.declared.command.RequestOf.TheVariants as asked
use Rattle.ocf_model.specs.declared.refusal.Refusal.{Refusal}
use Rattle.ocf_model.specs.declared.reply.TurnEnd.{TurnEnd}
use Rattle.ocf_model.specs.declared.reply.TurnEnd.TheVariants.{Done}
use Rattle.executor.specs.ExecutorView.{ExecutorView}
use Rattle.exec_commands.specs.declared.line.Line.{Line}
use Rattle.exec_commands.specs.declared.line.Line.TheVariants as line
use Rattle.exec_replies.specs.declared.reply.LineReply.TheVariants.{Ready, Trouble}
use Rattle.exec_replies.specs.declared.service.Counts.{Counts}
use Rattle.exec_client.specs.ClientView.{ClientView}
use Rattle.exec_client.specs.MessageView.{MessageView, News, Report}
use Rattle.exec_client.specs.Tags.{LineTag}
use Rattle.session_machine.specs.Starts.{Start}
use Rattle.session_machine.specs.declared.rules.Mode.{Mode}
use Rattle.session_machine.specs.declared.rules.Mode.TheVariants.{Run, Serve}
use Rattle.session_machine.specs.declared.rules.Rules.{Rules}
use Rattle.session_machine.specs.declared.terms.Terms.{Terms}

-- a line that was read, as this or refused, and its tag
pub record ReadLine : Type 0 where
  pub line : Result Line Refusal
  pub tag : LineTag

-- lines that were read, as this or refused, and are not answered yet
abbrev pub Lines : Type 0
Lines = List (Result Line Refusal)

-- a command as a line
abbrev pub of_command : Command → Result Line Refusal
of_command command = Ok (line.Request (asked.Command command))

-- How a session ends: at the end of its input; in order, since a line asked for it; in `serve` because a disk fault closed its executor; or
-- since a read or a send failed, or nobody reads its output any more.
pub data End : Type 0 where
  Finished : End
  Left : End
  Closed : End
  Broken : End

-- The pause after a turn at `now` of a drain that began at `since`, or of an orderly end (0): whether it was made.
pub record Pause : Type 0 where
  pub since : ℕ
  pub now : ℕ
  pub made : Bool

-- a drain or a watch: its terms, when it began, the number of its turns, and how the last one ended
pub record Drain : Type 0 where
  pub terms : Terms
  pub start : ℕ
  pub turns : ℕ
  pub end : TurnEnd

-- What follows what is sent: the session reads on; it pauses, before the next turn of a drain or of an orderly end; or it is over.
pub data Then : Type 0 where
  ReadsOn : Then
  Rests : Pause → Option Drain → Then
  Ends : End → Then

-- What a session does next. It reads and answers lines, and in `serve` makes turns between them; it sends these messages, one after the other; it
-- pauses and asks whether anybody reads its output; it makes the next turn of a drain, or sends how that ended; or it is over.
pub data At : Type 0 where
  Reading : At
  Sending : List MessageView → Then → At
  Resting : Pause → Option Drain → At
  Draining : Drain → At
  Over : End → At

-- where it goes on
abbrev pub at_then : Then → At
at_then ReadsOn = Reading
at_then (Rests pause drain) = Resting pause drain
at_then (Ends end) = Over end

-- after a pause
abbrev pub rested : Option Drain → At
rested None = Reading
rested (Some drain) = Draining drain

-- The last turn that a session made by itself: its time; the time since which no action has ended or begun; how it ended. And what was done since:
-- the number of reads, of polls that do not wait, and of waits; whether it looked for what is to be answered, that is, a poll found no input, or
-- it made all reads, or it asked the source of a held line's metadata; and whether a further turn has a cause: it has waited, or read, or
-- answered, or something ended or began in the last turn.
pub record OwnTurn : Type 0 where
  pub now : ℕ
  pub since : ℕ
  pub end : TurnEnd
  pub reads : ℕ
  pub polls : ℕ
  pub waits : ℕ
  pub looked : Bool
  pub woken : Bool

-- before the first one
abbrev pub no_turn : OwnTurn
no_turn = record { now = 0; since = 0; end = Done; reads = 0; polls = 0; waits = 0; looked = false; woken = true }

-- A session: its rules; what it found as it began; what it does next; its executor; what its client has received; of the line that is being read, the bytes so far; a whole
-- line that is not noted yet; the lines that were noted and are not answered, oldest first; whether the input has ended; whether input was
-- found since the last read; the clock reading since the last read or message, if there was one; and its last own turn.
pub record SessionState (S : Type 0) : Type 0 where
  pub rules : Rules
  pub start : Start
  pub at : At
  pub executor : ExecutorView S
  pub client : ClientView S
  pub part : List ℕ
  pub found : Option (List ℕ)
  pub lines : List ReadLine
  pub ended : Bool
  pub there : Bool
  pub shown : Option ℕ
  pub own : OwnTurn

-- its lines without their tags
abbrev pub lines_in : {S : Type 0} → SessionState S → Lines
lines_in s = map (λ l. l.line) s.lines

-- the line that says how a turn ended, which answers no line
abbrev pub ended_by : TurnEnd → MessageView
ended_by end = News (Trouble end)

-- the number of registered resources, and of lines of the opening's report: of interrupted and of dropped actions; and the next call
abbrev pub counts_of : {S : Type 0} → ExecutorView S → Counts
counts_of x = record {
  resources = length x.state.resources;
  interrupted = length x.opening_report.interrupted;
  dropped = length x.opening_report.dropped;
  next_call = x.state.next_call;
}

-- in `serve` the line that the session is ready
abbrev pub readied : {S : Type 0} → Mode → ExecutorView S → List MessageView
readied Run x = []
readied Serve x = News (Ready (counts_of x)) ∷ []

-- A session that begins: it sends the report of its opening, the interrupted actions and then the dropped ones, and in `serve` that it is ready.
abbrev pub begun : {S : Type 0} → Rules → Start → ExecutorView S → ClientView S → SessionState S
begun rules start x client = record {
  rules = rules;
  start = start;
  at = Sending (Report x.opening_report.interrupted ∷ Report x.opening_report.dropped ∷ readied rules.mode x) ReadsOn;
  executor = x;
  client = client;
  part = [];
  found = None;
  lines = [];
  ended = false;
  there = false;
  shown = None;
  own = no_turn;
}
