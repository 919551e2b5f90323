-- Steps of a session.
use Rattle.std.specs.Prelude.{◌≡◌, ◌∷◌, ℕ, ◌≤◌, ◌+◌, Bool, true, false, [], length, Option, Some, None, Ok}
use Rattle.ocf_model.specs.declared.reply.TurnEnd.{TurnEnd}
use Rattle.ocf_model.specs.declared.reply.TurnEnd.TheVariants.{Disk, Done}
use Rattle.executor.specs.Reports.{report_of}
use Rattle.executor.specs.ExecutorView.{ExecutorView}
use Rattle.executor.specs.declared.report.Report.{Report}
use Rattle.exec_replies.specs.declared.ends.DrainEnd.{DrainEnd}
use Rattle.exec_commands.specs.declared.line.Line.{Line}
use Rattle.exec_commands.specs.declared.line.Line.TheVariants as line
use Rattle.session_machine.specs.After.{drain_of}
use Rattle.session_machine.specs.Behaviours.{Trace, opening, then}
use Rattle.session_machine.specs.First.{IsNew}
use Rattle.session_machine.specs.Events.{Faulted, Turned}
use Rattle.session_machine.specs.May.{IsTurnDue, drain_end}
use Rattle.session_machine.specs.Pausing.{IsShort}
use Rattle.session_machine.specs.Session.{Drain, SessionState, Closed, Draining, Ends, Reading, Resting, Sending, begun, ended_by, lines_in, no_turn, rested}
use Rattle.session_machine.specs.Session as session
use Rattle.session_machine.specs.declared.rules.Mode.TheVariants.{Serve}
use Rattle.session_machine.specs.declared.terms.Terms.{Terms}
use Rattle.exec_session.specs.Standing.{Flows, KnowsTurn, Lasts, Standing, Stays}
use Rattle.exec_session.specs.declared.flow.Flow.TheVariants as flow
use Rattle.exec_session.specs.declared.pause.Pause.{Pause}

-- the report is that of the opening that gave this executor
abbrev pub IsReportOf : {S M : Type 0} → ExecutorView S → Report M → Type 0
IsReportOf x r = x.opening_report ≡ report_of r

-- A session that begins.
pub record IsOpening {S : Type 0} (t : Trace S) : Type 0 where
  pub state : t.state ≡ begun t.state.rules t.state.start t.state.executor t.state.client
  pub is_open : t.state.executor.is_open ≡ true

-- The report was sent, and in `serve` that the session is ready: nothing was read, and no turn was made.
pub record HasBegun {S : Type 0} (old new : Trace S) : Type 0 where
  pub lasts : Lasts old new
  pub at : new.state.at ≡ Reading
  pub executor : new.state.executor ≡ old.state.executor
  pub part : new.state.part ≡ []
  pub found : new.state.found ≡ None
  pub lines : new.state.lines ≡ []
  pub ended : new.state.ended ≡ false
  pub own : new.state.own ≡ no_turn

-- Its executor made a turn, or failed in the tidy before it.
abbrev pub HasTurned : {S : Type 0} → Trace S → Trace S → Option TurnEnd → Type 0
HasTurned old new (Some end) = new ≡ then old (Turned end new.state.executor)
HasTurned old new None = new ≡ then old (Faulted new.state.executor)

-- A drain that began at `start` is to make its next turn now, at the last clock reading: this many were made.
pub record IsDraining {S : Type 0} (s : SessionState S) (d : Drain) (now : ℕ) : Type 0 where
  pub shown : s.shown ≡ Some now
  pub due : IsTurnDue s s.at now
  pub is : drain_of s.at (lines_in s) now s.rules.most_turns ≡ Some d
  pub is_open : s.executor.is_open ≡ true

-- A session made a turn by itself, and knows it: it has not read, polled or waited since; the same lines are unanswered.
pub record MakesOwnTurn {S : Type 0} (old new : Standing S) : Type 0 where
  pub pending : new.pending ≡ old.pending
  pub goes_on : Flows flow.GoesOn new.trace.state
  pub knows : KnowsTurn new
  pub longer : length old.trace.events + 1 ≤ length new.trace.events
  pub lines : lines_in new.trace.state ≡ lines_in old.trace.state
  pub part : new.trace.state.part ≡ old.trace.state.part
  pub found : new.trace.state.found ≡ None
  pub reads : new.trace.state.own.reads ≡ 0
  pub polls : new.trace.state.own.polls ≡ 0
  pub waits : new.trace.state.own.waits ≡ 0

-- Only messages were sent, none of which answers a line.
pub record OnlySends {S : Type 0} (old new : Trace S) : Type 0 where
  pub lasts : Lasts old new
  pub executor : new.state.executor ≡ old.state.executor
  pub lines : new.state.lines ≡ old.state.lines
  pub part : new.state.part ≡ old.state.part
  pub found : new.state.found ≡ old.state.found
  pub ended : new.state.ended ≡ old.state.ended
  pub own : new.state.own ≡ old.state.own

-- a drain with these terms that begins now
abbrev pub drain_at : Terms → ℕ → Drain
drain_at terms now = record { terms = terms; start = now; turns = 0; end = Done }

-- the line that asks for a drain, or for a watch, of at most this many milliseconds
abbrev pub drain_line : Bool → ℕ → Line
drain_line true limit = line.Drain limit
drain_line false limit = line.Watch limit

-- a drain has come to this end, at the last clock reading
pub record IsDrained {S : Type 0} (s : SessionState S) (end : DrainEnd) : Type 0 where
  pub drain : Drain
  pub at : s.at ≡ Draining drain
  pub now : ℕ
  pub shown : s.shown ≡ Some now
  pub ended : drain_end drain now s.executor ≡ Some end

-- it may pause this long between two turns
abbrev pub MayPauseNow : {S : Type 0} → SessionState S → ℕ → Type 0
MayPauseNow s micros =
    (pause : session.Pause) × (drain : Option Drain) × (s.at ≡ Resting pause drain) × (pause.made ≡ false) × IsShort pause.since pause.now micros

-- it paused between two turns, and somebody reads its output
pub record HasPaused {S : Type 0} (old new : Trace S) : Type 0 where
  pub stays : Stays old new
  pub lines : lines_in new.state ≡ lines_in old.state
  pub executor : new.state.executor ≡ old.state.executor
  pub at : (pause : session.Pause) (drain : Option Drain) → old.state.at ≡ Resting pause drain → new.state.at ≡ rested drain

-- The only line that is not answered asks for the end of the session, in `serve`, with an open executor.
pub record IsLeaving {S : Type 0} (s : SessionState S) : Type 0 where
  pub serves : s.rules.mode ≡ Serve
  pub goes_on : Flows flow.GoesOn s
  pub is : lines_in s ≡ Ok line.Leave ∷ []

-- A turn of an orderly end was made: the session pauses after it, or sends the line of the disk fault that closed its executor.
pub record HasFinished {S : Type 0} (s : SessionState S) (pause : Pause) : Type 0 where
  pub serves : s.rules.mode ≡ Serve
  pub goes_on : s.ended ≡ false
  pub is : lines_in s ≡ Ok line.Leave ∷ []
  pub rests : s.executor.is_open ≡ true → s.at ≡ Resting (record { since = 0; now = pause.moment; made = false }) None
  pub closed : s.executor.is_open ≡ false → s.at ≡ Sending (ended_by Disk ∷ []) (Ends Closed)

-- a session that begins with this executor, which was just opened
abbrev pub IsOpeningOf : {S : Type 0} → Trace S → ExecutorView S → Type 0
IsOpeningOf t x = (t ≡ opening t.state.rules t.state.start t.state.executor t.state.client) × (t.state.executor ≡ x) × IsNew t.state.client x
