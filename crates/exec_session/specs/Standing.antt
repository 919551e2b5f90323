-- A session as its functions see it: what has happened, the input that it has in hand, its pause, and how its last own turn ended.
use Rattle.std.specs.Prelude.{◌≡◌, ◌≢◌, ◌≤◌, ◌<◌, ⊤, Bool, true, false, List, [], ◌++◌, map, length, take, None, Result, OnErr}
use Rattle.ocf_types.specs.Kinds.{Command}
use Rattle.ocf_model.specs.declared.reply.TurnEnd.{TurnEnd}
use Rattle.exec_client.specs.ClientView.{ClientView}
use Rattle.exec_client.specs.MessageView.{MessageView}
use Rattle.exec_lines.specs.Buffer.{line_bytes}
use Rattle.exec_lines.specs.Lines.{line_room}
use Rattle.session_machine.specs.After.{reading}
use Rattle.session_machine.specs.Behaviours.{HasBroken, Trace, then}
use Rattle.session_machine.specs.Events.{Sent}
use Rattle.session_machine.specs.Limits.{most_together}
use Rattle.session_machine.specs.Session.{At, Lines, OwnTurn, SessionState, Closed, Finished, Left, Over, Reading, lines_in, of_command}
use Rattle.session_machine.specs.declared.rules.Mode.TheVariants.{Run, Serve}
use Rattle.exec_session.specs.Gathered.{waiting}
use Rattle.exec_session.specs.Held.{held_lines}
use Rattle.exec_session.specs.declared.pause.Pause.{Pause}
use Rattle.exec_session.specs.declared.pending.Pending.{Pending}
use Rattle.exec_session.specs.declared.flow.Flow.{Flow}
use Rattle.exec_session.specs.declared.flow.Flow.TheVariants as flow

pub record Standing (S : Type 0) : Type 0 where
  pub trace : Trace S
  pub pending : Pending
  pub pause : Pause
  pub own_end : TurnEnd

-- It knows its last own turn: its time, how it ended, a time since which nothing has ended or begun, and whether something did in it.
pub record KnowsTurn {S : Type 0} (s : Standing S) : Type 0 where
  pub now : s.pause.moment ≡ s.trace.state.own.now
  pub since : s.trace.state.own.since ≤ s.pause.since
  pub end : s.own_end ≡ s.trace.state.own.end
  pub stirred : s.pause.is_stirred ≡ true → s.trace.state.own.woken ≡ true

-- The rest stays: the input in hand, the pause, and how the last own turn ended.
pub record SameRest {S : Type 0} (old new : Standing S) : Type 0 where
  pub pending : new.pending ≡ old.pending
  pub pause : new.pause ≡ old.pause
  pub own_end : new.own_end ≡ old.own_end

-- the input that was read and is not answered is in hand: the commands that wait, then a line that is held; and the part of the next line
pub record IsInHand {S : Type 0} (s : SessionState S) (p : Pending) : Type 0 where
  pub lines : lines_in s ≡ map of_command (waiting p.gathered) ++ held_lines p.held
  pub kept : line_bytes p.buffer ≡ take line_room s.part

-- it is over: at the end of its input, in order, or because a disk fault closed its executor
abbrev pub IsOver : At → Type 0
IsOver (Over Finished) = ⊤
IsOver (Over Left) = ⊤
IsOver (Over Closed) = ⊤
IsOver _ = ⊥

-- it reads on, in `serve` with an open executor; or it is over
abbrev pub Flows : {S : Type 0} → Flow → SessionState S → Type 0
Flows flow.GoesOn s = (s.at ≡ Reading) × (s.ended ≡ false) × (s.rules.mode ≡ Serve → s.executor.is_open ≡ true)
Flows flow.Over s = IsOver s.at

-- it reads, with an open executor
abbrev pub ReadsOpen : {S : Type 0} → SessionState S → Type 0
ReadsOpen s = (s.at ≡ Reading) × (s.executor.is_open ≡ true)

-- It may read on, or wait: what was read is in hand; there is capacity for one more command; none waits once the executor is closed, and while one
-- waits the next line is there; and a line is held in `serve` alone.
pub record IsBetween {S : Type 0} (s : SessionState S) (p : Pending) : Type 0 where
  pub goes_on : Flows flow.GoesOn s
  pub noted : s.found ≡ None
  pub in_hand : IsInHand s p
  pub few : length (waiting p.gathered) < most_together
  pub while_open : s.executor.is_open ≡ false → waiting p.gathered ≡ []
  pub there : waiting p.gathered ≢ [] → s.there ≡ true
  pub free : s.rules.mode ≡ Run → p.held ≡ None

-- the same own turn, with as many reads and polls since; what was looked for, and a cause for a further turn, stay
pub record KeepsTurn (old new : OwnTurn) : Type 0 where
  pub now : new.now ≡ old.now
  pub since : new.since ≡ old.since
  pub end : new.end ≡ old.end
  pub reads : new.reads ≡ old.reads
  pub polls : new.polls ≡ old.polls
  pub looked : old.looked ≡ true → new.looked ≡ true
  pub woken : old.woken ≡ true → new.woken ≡ true

-- the same rules and the same beginning, and no fewer events
pub record Lasts {S : Type 0} (old new : Trace S) : Type 0 where
  pub rules : new.state.rules ≡ old.state.rules
  pub first : new.first ≡ old.first
  pub grows : length old.events ≤ length new.events

-- the same where nothing is read
pub record Stays {S : Type 0} (old new : Trace S) : Type 0 where
  pub lasts : Lasts old new
  pub part : new.state.part ≡ old.state.part
  pub found : new.state.found ≡ old.state.found
  pub ended : new.state.ended ≡ old.state.ended
  pub own : KeepsTurn old.state.own new.state.own

-- It went on; where that failed, it broke off.
pub record Continues {S T E : Type 0} (old new : Trace S) (result : Result T E) : Type 0 where
  pub lasts : Lasts old new
  pub broke : OnErr result (HasBroken new)

-- A step of a session that keeps what it has in hand.
pub record Steps {S T E : Type 0} (old new : Standing S) (result : Result T E) : Type 0 where
  pub rest : SameRest old new
  pub continues : Continues old.trace new.trace result

-- the same lines are unanswered, and something happened
pub record StaysLonger {S : Type 0} (old new : Trace S) : Type 0 where
  pub stays : Stays old new
  pub lines : lines_in new.state ≡ lines_in old.state
  pub longer : length old.events < length new.events

-- the session would read on, with these lines unanswered
pub record Answers {S : Type 0} (old new : Trace S) (rest : Lines) : Type 0 where
  pub stays : Stays old new
  pub at : new.state.at ≡ reading new.state
  pub lines : lines_in new.state ≡ rest

-- Lines were answered, and these are left.
pub record HasAnswered {S : Type 0} (old new : Trace S) (rest : Lines) : Type 0 where
  pub answers : Answers old new rest
  pub woken : new.state.own.woken ≡ true

-- a message was sent
abbrev pub Sends : {S : Type 0} → Trace S → Trace S → MessageView → Type 0
Sends {S} old new what = (client : ClientView S) × (new ≡ then old (Sent what true client))

-- these lines are these commands, and then those
abbrev pub BeginsWith : Lines → List Command → Lines → Type 0
BeginsWith lines commands rest = lines ≡ map of_command commands ++ rest

-- The commands that wait may be answered, if any: they begin the lines, and are all of them if the input has ended.
pub record MayAnswerWaiting {S : Type 0} (s : Standing S) (has_ended : Bool) : Type 0 where
  pub is_open : waiting s.pending.gathered ≢ [] → s.trace.state.executor.is_open ≡ true
  pub at : s.trace.state.at ≡ reading s.trace.state
  pub ended : s.trace.state.ended ≡ has_ended
  pub begins : (rest : Lines) × BeginsWith (lines_in s.trace.state) (waiting s.pending.gathered) rest
  pub all : has_ended ≡ true → BeginsWith (lines_in s.trace.state) (waiting s.pending.gathered) []

-- No command waits any more; the rest stays.
pub record Emptied {S : Type 0} (old new : Standing S) : Type 0 where
  pub none : waiting new.pending.gathered ≡ []
  pub held : new.pending.held ≡ old.pending.held
  pub buffer : new.pending.buffer ≡ old.pending.buffer
  pub pause : new.pause ≡ old.pause
  pub own_end : new.own_end ≡ old.own_end

-- The rest stays, but for the buffer.
pub record SameButBuffer {S : Type 0} (old new : Standing S) : Type 0 where
  pub gathered : new.pending.gathered ≡ old.pending.gathered
  pub held : new.pending.held ≡ old.pending.held
  pub pause : new.pause ≡ old.pause
  pub own_end : new.own_end ≡ old.own_end
