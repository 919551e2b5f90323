-- Where a session is after an event.
use Rattle.std.specs.Prelude.{◌==◌, ◌&&◌, ◌||◌, ℕ, ◌+◌, Bool, true, false, not, nat_lt, List, [], ◌∷◌, ◌++◌, length, drop, Option, Some, None, Result, Ok, if◌then◌else◌}
use Rattle.ocf_model.specs.declared.refusal.Refusal.{Refusal}
use Rattle.ocf_model.specs.declared.reply.TurnEnd.{TurnEnd}
use Rattle.ocf_model.specs.declared.reply.TurnEnd.TheVariants.{BookFull, Closed as ClosedEnd, Disk, Done, Full, Memory, RunsSpent}
use Rattle.executor.specs.ExecutorView.{ExecutorView}
use Rattle.exec_commands.specs.declared.line.Line.{Line}
use Rattle.exec_commands.specs.declared.line.Line.TheVariants as line
use Rattle.exec_replies.specs.declared.reply.LineReply.TheVariants as answer
use Rattle.exec_client.specs.ClientView.{ClientView, noting, noting_tag}
use Rattle.exec_client.specs.declared.client_event.ClientEvent.TheVariants as asked
use Rattle.exec_client.specs.MessageView.{MessageView, Replies, Reply as ReplyTo, Turn}
use Rattle.exec_client.specs.Tags.{LineTag}
use Rattle.exec_lines.specs.declared.line.Piece.{Piece}
use Rattle.exec_lines.specs.declared.line.Piece.TheVariants.{Last, Nothing, Part}
use Rattle.session_machine.specs.Events.{Event}
use Rattle.session_machine.specs.Events as event
use Rattle.session_machine.specs.Limits.{reads_a_turn}
use Rattle.session_machine.specs.Pausing.{is_quiet}
use Rattle.session_machine.specs.Session.{At, Drain, Lines, OwnTurn, ReadLine, SessionState, Then, Broken, Closed, Draining, Ends, Finished, Left, Over, Reading, ReadsOn, Resting, Rests, Sending, at_then, ended_by, lines_in, rested}
use Rattle.session_machine.specs.declared.rules.Mode.{Mode}
use Rattle.session_machine.specs.declared.rules.Mode.TheVariants.{Run, Serve}
use Rattle.session_machine.specs.declared.terms.Terms.{Terms}

abbrev pub is_serve : Mode → Bool
is_serve Run = false
is_serve Serve = true

abbrev pub is_empty : {T : Type 0} → List T → Bool
is_empty [] = true
is_empty (x ∷ xs) = false

-- A session that would read on: in `serve` a disk fault ends it, with the line of that fault; and it is over once the input has ended and each line
-- is answered.
abbrev pub reading : {S : Type 0} → SessionState S → At
reading s =
    if is_serve s.rules.mode && not s.executor.is_open then Sending (ended_by Disk ∷ []) (Ends Closed) else
    (if s.ended && is_empty s.lines then Over Finished else Reading)

-- where it goes on
abbrev pub settled_at : {S : Type 0} → SessionState S → At → At
settled_at s Reading = reading s
settled_at s next = next

-- the session goes on there
abbrev pub going_on : {S : Type 0} → SessionState S → At → SessionState S
going_on s next = record s { at = settled_at s next }

-- one more poll, for at most this many milliseconds
abbrev pub polled : OwnTurn → ℕ → Bool → OwnTurn
polled own millis ready = record own {
  polls = if nat_lt 0 millis then own.polls else own.polls + 1;
  waits = if nat_lt 0 millis then own.waits + 1 else own.waits;
  looked = not ready || own.looked;
  woken = nat_lt 0 millis || own.woken;
}

-- one more read
abbrev pub with_read : OwnTurn → OwnTurn
with_read own = record own { reads = own.reads + 1; looked = (own.reads + 1 == reads_a_turn) || own.looked; woken = true }

abbrev pub after_read : {S : Type 0} → SessionState S → SessionState S
after_read s = record s { there = false; shown = None; own = with_read s.own }

-- a whole line of these bytes was read; one of no bytes is passed over
abbrev pub with_line_read : {S : Type 0} → SessionState S → List ℕ → SessionState S
with_line_read s [] = record s { part = [] }
with_line_read s (byte ∷ bytes) = record s { part = []; found = Some (byte ∷ bytes) }

-- the input ended after these bytes of a line
abbrev pub with_end_read : {S : Type 0} → SessionState S → List ℕ → SessionState S
with_end_read s [] = going_on (record s { part = []; ended = true }) Reading
with_end_read s (byte ∷ bytes) = record s { part = []; found = Some (byte ∷ bytes) }

abbrev pub took : {S : Type 0} → SessionState S → List ℕ → Piece → SessionState S
took s bytes Part = record s { part = s.part ++ bytes }
took s bytes Last = with_line_read s (s.part ++ bytes)
took s bytes Nothing = with_end_read s (s.part ++ bytes)

-- in `serve` a line that asks for metadata is held until its source has answered
abbrev pub is_held : Mode → Result Line Refusal → Bool
is_held Serve (Ok (line.Meta provider agent limit)) = true
is_held mode found = false

abbrev pub noted : {S : Type 0} → SessionState S → Result Line Refusal → LineTag → SessionState S
noted s found tag = record s {
  found = None;
  lines = s.lines ++ record { line = found; tag = tag } ∷ [];
  client = noting_tag s.client tag;
  own = record s.own { looked = is_held s.rules.mode found || s.own.looked };
}

-- a pause where it is
abbrev pub rested_at : At → At
rested_at (Resting pause drain) = Resting (record pause { made = true }) drain
rested_at at = at

abbrev pub rested_own : At → OwnTurn → OwnTurn
rested_own Reading own = record own { waits = own.waits + 1; woken = true }
rested_own at own = own

-- somebody reads the output
abbrev pub read_at : At → At
read_at (Resting pause drain) = rested drain
read_at at = at

abbrev pub asked_at : At → Bool → At
asked_at at true = read_at at
asked_at at false = Over Broken

-- after this message was sent
abbrev pub sent_at : At → MessageView → At
sent_at (Sending (m ∷ []) next) what = at_then next
sent_at (Sending (m ∷ other ∷ ms) next) what = Sending (other ∷ ms) next
sent_at at (ReplyTo answer.Left) = Over Left
sent_at at what = Reading

-- the lines that are not answered after this message
abbrev pub unanswered : MessageView → List ReadLine → List ReadLine
unanswered (ReplyTo reply) lines = drop 1 lines
unanswered (Replies replies) lines = drop (length replies) lines
unanswered what lines = lines

-- a message that answers a line is a cause for a further turn
abbrev pub woken_by : MessageView → OwnTurn → OwnTurn
woken_by (ReplyTo reply) own = record own { woken = true }
woken_by (Replies replies) own = record own { woken = true }
woken_by what own = own

abbrev pub sent : {S : Type 0} → SessionState S → MessageView → ClientView S → SessionState S
sent s what client =
    going_on (record s {
      client = client;
      lines = unanswered what s.lines;
      shown = None;
      own = woken_by what s.own;
    }) (sent_at s.at what)

-- the last clock reading
abbrev pub time_of : Option ℕ → ℕ
time_of None = 0
time_of (Some now) = now

-- the notices of the executor's last turn
abbrev pub notices_of : {S : Type 0} → ExecutorView S → MessageView
notices_of x = Turn x.children.book x.reported

-- The end of an own turn is news, after the end of the own turn before it (`Done` for the first one): they differ, and the new
-- one is neither `Done` nor `Disk`. A disk fault is sent when the session ends, and not as news.
abbrev pub news_of : TurnEnd → TurnEnd → List MessageView
news_of before Done = []
news_of before Disk = []
news_of Full Full = []
news_of BookFull BookFull = []
news_of ClosedEnd ClosedEnd = []
news_of RunsSpent RunsSpent = []
news_of Memory Memory = []
news_of before end = ended_by end ∷ []

-- the own turn that was made at this time, with this book
abbrev pub own_turn : {S : Type 0} → OwnTurn → ℕ → TurnEnd → ExecutorView S → OwnTurn
own_turn own now end x = record {
  now = now;
  since = if is_quiet x.children.book then own.since else now;
  end = end;
  reads = 0;
  polls = 0;
  waits = 0;
  looked = false;
  woken = not (is_quiet x.children.book);
}

-- the terms of a drain that begins now, for at most this many milliseconds and turns
abbrev pub terms : Bool → ℕ → ℕ → ℕ → Terms
terms ends_idle now limit most = record { ends_idle = ends_idle; until = now + limit; most = most }

-- a drain before its first turn
abbrev pub drain_from : Bool → ℕ → ℕ → ℕ → Drain
drain_from ends_idle now limit most = record { terms = terms ends_idle now limit most; start = now; turns = 0; end = Done }

-- the drain whose turn is made at this time, if it is one of a drain
abbrev pub drain_of : At → Lines → ℕ → ℕ → Option Drain
drain_of (Draining d) lines now most = Some d
drain_of at (Ok (line.Drain limit) ∷ lines) now most = Some (drain_from true now limit most)
drain_of at (Ok (line.Watch limit) ∷ lines) now most = Some (drain_from false now limit most)
drain_of at lines now most = None

-- what follows one more turn of a drain at this time, which ended like this
abbrev pub after_drain_turn : Drain → ℕ → TurnEnd → Then
after_drain_turn d now end =
    Rests (record { since = d.start; now = now; made = false }) (Some (record d { turns = d.turns + 1; end = end }))

-- a turn was made at this time, of this drain or by itself
abbrev pub turned : {S : Type 0} → SessionState S → Option Drain → ℕ → TurnEnd → ExecutorView S → SessionState S
turned s (Some d) now end x = record s { executor = x; at = Sending (notices_of x ∷ []) (after_drain_turn d now end) }
turned s None now end x = record s {
  executor = x;
  at = Sending (notices_of x ∷ news_of s.own.end end) ReadsOn;
  own = own_turn s.own now end x;
}

-- a disk fault closed the executor in the tidy before it
abbrev pub faulted : {S : Type 0} → SessionState S → Option Drain → ℕ → ExecutorView S → SessionState S
faulted s (Some d) now x = record s { executor = x; shown = None; at = at_then (after_drain_turn d now Disk) }
faulted s None now x = going_on (record s { executor = x; shown = None }) Reading

-- the drain of the next turn, at the last clock reading
abbrev pub drain_now : {S : Type 0} → SessionState S → Option Drain
drain_now s = drain_of s.at (lines_in s) (time_of s.shown) s.rules.most_turns

-- a pause after a turn of an orderly end, unless a disk fault closed the executor
abbrev pub after_finish : {S : Type 0} → ExecutorView S → ℕ → Then
after_finish x now = if x.is_open then Rests (record { since = 0; now = now; made = false }) None else ReadsOn

-- the session after an event
abbrev pub after : {S : Type 0} → SessionState S → Event S → SessionState S
after s (event.Polled millis ready) = record s { there = ready; own = polled s.own millis ready }
after s (event.Peeked has_line) = record s { there = has_line || s.there }
after s (event.Took bytes piece) = took (after_read s) bytes piece
after s event.ReadFailed = record s { at = Over Broken }
after s (event.Noted found tag) = noted s found tag
after s (event.GaveMetadata provider agent limit None) = record s { own = record s.own { looked = true } }
after s (event.GaveMetadata provider agent limit (Some given)) =
    record s { at = Sending (ReplyTo (answer.Meta given) ∷ []) ReadsOn; own = record s.own { looked = true } }
after s (event.Shown now) = record s { shown = Some now }
after s (event.Rested micros) = record s { at = rested_at s.at; own = rested_own s.at s.own }
after s (event.Sent what true client) = sent s what client
after s (event.Sent what false client) = record s { at = Over Broken; client = client }
after s (event.HasReader still_reads) = record s {
  at = asked_at s.at still_reads;
  client = noting s.client (asked.HasReader still_reads);
}
after s (event.Served reply x) = record s { executor = x; at = Sending (ReplyTo (answer.Request reply) ∷ []) ReadsOn }
after s (event.Together replies x) = record s { executor = x; at = Sending (Replies replies ∷ []) ReadsOn }
after s (event.Tidied end x) = record s { executor = x; at = Sending (ReplyTo (answer.Tidy end) ∷ []) ReadsOn }
after s (event.Turned end x) = turned s (drain_now s) (time_of s.shown) end x
after s (event.Faulted x) = faulted s (drain_now s) (time_of s.shown) x
after s (event.Finishes end x) = record s { executor = x; at = Sending (notices_of x ∷ []) (after_finish x (time_of s.shown)) }
