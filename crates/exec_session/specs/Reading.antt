-- What a read of a session gives.
use Rattle.std.specs.Prelude.{◌≡◌, ◌≤◌, ℕ, ◌+◌, true, false, List, [], ◌∷◌, ◌++◌, length, take, Option, Some, None, Result}
use Rattle.exec_lines.specs.Lines.{line_answer, line_room}
use Rattle.exec_lines.specs.declared.line.Next.{Next}
use Rattle.exec_lines.specs.declared.line.Next.TheVariants as end
use Rattle.ocf_model.specs.declared.refusal.Refusal.{Refusal}
use Rattle.exec_commands.specs.declared.line.Line.{Line}
use Rattle.session_machine.specs.After.{is_held, reading}
use Rattle.session_machine.specs.Behaviours.{Trace}
use Rattle.session_machine.specs.Limits.{reads_a_turn}
use Rattle.session_machine.specs.Session.{OwnTurn, SessionState, Reading, lines_in}
use Rattle.exec_session.specs.Standing.{KeepsTurn, Lasts}
use Rattle.exec_session.specs.declared.reading.Got.{Got}
use Rattle.exec_session.specs.declared.reading.Got.TheVariants as got

-- one read more after the same own turn
pub record HasReadOnce (old new : OwnTurn) : Type 0 where
  pub now : new.now ≡ old.now
  pub since : new.since ≡ old.since
  pub end : new.end ≡ old.end
  pub reads : new.reads ≡ old.reads + 1
  pub polls : new.polls ≡ old.polls
  pub looked : old.looked ≡ true → new.looked ≡ true
  pub all : new.reads ≡ reads_a_turn → new.looked ≡ true
  pub woken : new.woken ≡ true

-- what a read gave, by the next line, if it is complete, and the bytes of it in the buffer
abbrev pub got_of : Option Next → List ℕ → Got
got_of None kept = got.Nothing
got_of (Some end.End) kept = got.End
got_of (Some end.Line) [] = got.Nothing
got_of (Some next) kept = got.Line next

-- What was read: a part of the next line, or a line of no bytes; the end of the input; or a whole line, which is in the buffer, as far as it fits.
abbrev pub IsGot : {S : Type 0} → SessionState S → List ℕ → Got → Type 0
IsGot s kept got.Nothing = (s.at ≡ Reading) × (s.ended ≡ false) × (s.found ≡ None) × (kept ≡ take line_room s.part)
IsGot s kept got.End = (s.at ≡ reading s) × (s.ended ≡ true) × (s.found ≡ None) × (kept ≡ []) × (s.part ≡ [])
IsGot s kept (got.Line next) =
    (s.at ≡ Reading) × (s.ended ≡ false) × (s.part ≡ [])
    × (bytes : List ℕ) × (s.found ≡ Some bytes) × (kept ≡ take line_room bytes) × (next ≡ line_answer bytes)

-- A read: the same lines are unanswered, with the same executor and client.
pub record ReadsOn {S : Type 0} (old new : Trace S) : Type 0 where
  pub lasts : Lasts old new
  pub longer : length old.events + 1 ≤ length new.events
  pub lines : lines_in new.state ≡ lines_in old.state
  pub executor : new.state.executor ≡ old.state.executor
  pub own : HasReadOnce old.state.own new.state.own

-- A line was noted as this: it is the last that is not answered.
pub record IsNoted {S : Type 0} (old new : Trace S) (found : Result Line Refusal) : Type 0 where
  pub lasts : Lasts old new
  pub at : new.state.at ≡ old.state.at
  pub executor : new.state.executor ≡ old.state.executor
  pub part : new.state.part ≡ old.state.part
  pub ended : new.state.ended ≡ old.state.ended
  pub found_none : new.state.found ≡ None
  pub lines : lines_in new.state ≡ lines_in old.state ++ found ∷ []
  pub own : KeepsTurn old.state.own new.state.own
  pub looked : is_held new.state.rules.mode found ≡ true → new.state.own.looked ≡ true
