-- Rounds of a session: in `run` a read, and in `serve` the lines that are there, a turn and a wait.
use Rattle.std.specs.Prelude.{◌≡◌, ◌≢◌, ◌<◌, ◌++◌, ◌∷◌, true, false, [], length, map, None, Result, Ok}
use Rattle.ocf_model.specs.declared.refusal.Refusal.{Refusal}
use Rattle.ocf_model.specs.declared.reply.TurnEnd.TheVariants.{Done}
use Rattle.exec_commands.specs.declared.line.Line.{Line}
use Rattle.exec_lines.specs.Buffer.{line_bytes}
use Rattle.session_machine.specs.Limits.{most_together}
use Rattle.session_machine.specs.May.{IsAtRest}
use Rattle.session_machine.specs.Session.{lines_in, of_command}
use Rattle.session_machine.specs.declared.rules.Mode.TheVariants.{Run, Serve}
use Rattle.exec_session.specs.Gathered.{waiting}
use Rattle.exec_session.specs.Pending.{IsClear}
use Rattle.exec_session.specs.Held.{IsHeldMeta, held_lines}
use Rattle.exec_session.specs.Reading.{HasReadOnce}
use Rattle.exec_session.specs.Standing.{Continues, Flows, IsBetween, IsOver, KeepsTurn, KnowsTurn, Standing}
use Rattle.exec_session.specs.declared.flow.Flow.{Flow}
use Rattle.exec_session.specs.declared.flow.Flow.TheVariants as flow

-- A line was found and noted: it comes after the commands that wait, of which there may be one more, and no other line is held.
pub record HasFound {S : Type 0} (s : Standing S) (found : Result Line Refusal) : Type 0 where
  pub goes_on : Flows flow.GoesOn s.trace.state
  pub noted : s.trace.state.found ≡ None
  pub lines : lines_in s.trace.state ≡ map of_command (waiting s.pending.gathered) ++ found ∷ []
  pub part : s.trace.state.part ≡ []
  pub empty : line_bytes s.pending.buffer ≡ []
  pub free : s.pending.held ≡ None
  pub few : length (waiting s.pending.gathered) < most_together
  pub while_open : s.trace.state.executor.is_open ≡ false → waiting s.pending.gathered ≡ []

-- A step that goes on like this, or comes to the session's end, or breaks off.
pub record Goes {S E : Type 0} (on : Standing S → Standing S → Type 0) (old new : Standing S) (result : Result Flow E) : Type 0 where
  pub continues : Continues old.trace new.trace result
  pub goes_on : result ≡ Ok flow.GoesOn → on old new
  pub over : result ≡ Ok flow.Over → IsOver new.trace.state.at

-- the session is between two lines, with the same pause; a line that asks for metadata is held only after input was looked for
pub record IsOn {S : Type 0} (old new : Standing S) : Type 0 where
  pub between : IsBetween new.trace.state new.pending
  pub looked : IsHeldMeta new.pending.held → new.trace.state.own.looked ≡ true
  pub pause : new.pause ≡ old.pause
  pub own_end : new.own_end ≡ old.own_end

-- what was found was taken
pub record TakesOn {S : Type 0} (old new : Standing S) : Type 0 where
  pub on : IsOn old new
  pub own : KeepsTurn old.trace.state.own new.trace.state.own

-- one read was made, and what it found was taken
pub record TakesOneOn {S : Type 0} (old new : Standing S) : Type 0 where
  pub on : IsOn old new
  pub longer : length old.trace.events < length new.trace.events
  pub own : HasReadOnce old.trace.state.own new.trace.state.own

-- In `serve` a round begins with no read and no poll since the last own turn; no command waits; and there is a cause for a further turn.
pub record IsServeRound {S : Type 0} (s : Standing S) : Type 0 where
  pub none : waiting s.pending.gathered ≡ []
  pub rests : IsAtRest (held_lines s.pending.held)
  pub reads : s.trace.state.own.reads ≡ 0
  pub polls : s.trace.state.own.polls ≡ 0
  pub woken : s.trace.state.own.woken ≡ true

-- a round may begin
pub record IsRound {S : Type 0} (s : Standing S) : Type 0 where
  pub between : IsBetween s.trace.state s.pending
  pub knows : KnowsTurn s
  pub serve : s.trace.state.rules.mode ≡ Serve → IsServeRound s
  pub run : s.trace.state.rules.mode ≡ Run → waiting s.pending.gathered ≢ [] → s.trace.state.there ≡ true

-- a round was made, and a further one may begin
pub record RoundsOn {S : Type 0} (old new : Standing S) : Type 0 where
  pub round : IsRound new
  pub longer : length old.trace.events < length new.trace.events

-- The lines that are there were answered, up to one that is held, or the source of its metadata was asked: a turn may come, unless a line asks
-- for the end of the session.
pub record AnswersRoundOn {S : Type 0} (old new : Standing S) : Type 0 where
  pub on : IsOn old new
  pub knows : KnowsTurn new
  pub none : waiting new.pending.gathered ≡ []
  pub looked : IsAtRest (held_lines new.pending.held) → new.trace.state.own.looked ≡ true
  pub woken : new.trace.state.own.woken ≡ true

-- a session in hand that begins: nothing was read, and no turn was made
pub record IsFresh {S : Type 0} (s : Standing S) : Type 0 where
  pub clear : IsClear s.pending
  pub own_end : s.own_end ≡ Done
  pub moment : s.pause.moment ≡ 0
  pub stirred : s.pause.is_stirred ≡ false
