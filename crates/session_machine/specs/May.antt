-- When a session may do what. Each of its calls of the edge requires one of these.
use Rattle.std.specs.Prelude.{◌≡◌, ◌⊎◌, ⊤, ℕ, ◌*◌, ◌<◌, ◌≤◌, true, false, not, List, [], ◌∷◌, ◌++◌, map, length, Option, Some, None, Result, Ok}
use Rattle.ocf_model.specs.Boot.{any_busy}
use Rattle.ocf_types.specs.Kinds.{Command, Request}
use Rattle.ocf_model.specs.Answer.{Reply}
use Rattle.ocf_model.specs.declared.refusal.Refusal.{Refusal}
use Rattle.ocf_model.specs.declared.reply.TidyEnd.{TidyEnd}
use Rattle.ocf_model.specs.declared.reply.TurnEnd.{TurnEnd}
use Rattle.store_model.specs.StoreView.{StoreView}
use Rattle.exec_turn.specs.Actives.{any_running}
use Rattle.executor.specs.ExecutorView.{ExecutorView}
use Rattle.executor.specs.TidyCalls.{Tidies}
use Rattle.executor.specs.TurnCalls.{FinishesTurn, with_empty_book}
use Rattle.exec_replies.specs.declared.ends.DrainEnd.{DrainEnd}
use Rattle.exec_commands.specs.declared.line.Line.{Line}
use Rattle.exec_commands.specs.declared.line.Line.TheVariants as line
use Rattle.exec_replies.specs.declared.reply.LineReply.{LineReply}
use Rattle.exec_replies.specs.declared.reply.LineReply.TheVariants as answer
use Rattle.exec_client.specs.MessageView.{MessageView, Reply as ReplyTo}
use Rattle.exec_client.specs.Tags.{LineTag}
use Rattle.session_machine.specs.Drains.{end_after}
use Rattle.session_machine.specs.Limits.{most_together, polls_a_turn, reads_a_turn}
use Rattle.session_machine.specs.Pausing.{IsShort, IsUntilDue}
use Rattle.session_machine.specs.Replies.{HasMemoryCause, HasTagOf, IsPlainReply, IsReadAs}
use Rattle.session_machine.specs.Room.{FailsNow, ServesNow, ServesTogether, TurnsNow}
use Rattle.session_machine.specs.Session.{At, Drain, Lines, SessionState, Draining, Reading, Resting, Sending, lines_in, of_command}
use Rattle.session_machine.specs.declared.rules.Mode.{Mode}
use Rattle.session_machine.specs.declared.rules.Mode.TheVariants.{Run, Serve}

-- It reads on: it is between lines, the input has not ended, what was read is noted, and only commands wait to be answered.
pub record Listens {S : Type 0} (s : SessionState S) : Type 0 where
  pub at : s.at ≡ Reading
  pub goes_on : s.ended ≡ false
  pub noted : s.found ≡ None
  pub commands : List Command
  pub waits : lines_in s ≡ map of_command commands

-- it is in `serve`, where it makes turns by itself
abbrev pub Serves : {S : Type 0} → SessionState S → Type 0
Serves s = s.rules.mode ≡ Serve

-- With these lines it may wait, and may make a turn: each line that was read is answered, except one that asks an agent for metadata.
abbrev pub IsAtRest : Lines → Type 0
IsAtRest [] = ⊤
IsAtRest (Ok (line.Meta provider agent limit) ∷ []) = ⊤
IsAtRest _ = ⊥

-- It may wait this many microseconds, once after each own turn: as long as a short pause, or until the first monitor is due.
pub record MayWait {S : Type 0} (s : SessionState S) (micros : ℕ) : Type 0 where
  pub serves : Serves s
  pub at : s.at ≡ Reading
  pub rests : IsAtRest (lines_in s)
  pub noted : s.found ≡ None
  pub once : s.own.waits ≡ 0
  pub brief : IsShort s.own.since s.own.now micros ⊎ IsUntilDue s.executor s.shown micros

-- It may poll the input for at most this many milliseconds: without a wait as often as may be between two own turns, and else as it may wait.
pub record MayPoll {S : Type 0} (s : SessionState S) (millis : ℕ) : Type 0 where
  pub serves : Serves s
  pub listens : Listens s
  pub brief : ((millis ≡ 0) × (s.own.polls < polls_a_turn)) ⊎ ((0 < millis) × MayWait s (1000 * millis))

-- In `serve` a read never blocks: input is there. In `run` it may block only while no line is unanswered.
abbrev pub MayReadIn : {S : Type 0} → Mode → SessionState S → Type 0
MayReadIn Run s = (s.lines ≡ []) ⊎ (s.there ≡ true)
MayReadIn Serve s = (s.there ≡ true) × (s.own.reads < reads_a_turn)

-- it may read
abbrev pub MayRead : {S : Type 0} → SessionState S → Type 0
MayRead s = Listens s × MayReadIn s.rules.mode s

-- it may note the line that it has read, as this or refused, with this tag; for lack of memory only where the allocator refuses growths
abbrev pub MayNote : {S : Type 0} → SessionState S → Result Line Refusal → LineTag → Type 0
MayNote s found tag =
    (bytes : List ℕ) × (s.found ≡ Some bytes) × IsReadAs s.rules.mode bytes found × HasTagOf s.rules.mode bytes found tag × HasMemoryCause found

-- It may ask the source for the metadata of this agent: the next line that it answers asks for them. In `run` it waits for the answer.
pub record MayAskSource {S : Type 0} (s : SessionState S) (provider agent : List ℕ) (limit : Option ℕ) : Type 0 where
  pub at : s.at ≡ Reading
  pub is : lines_in s ≡ Ok (line.Meta provider agent limit) ∷ []

-- it may read the clock
abbrev pub MayShow : At → Type 0
MayShow Reading = ⊤
MayShow (Draining d) = ⊤
MayShow _ = ⊥

-- it may pause for this many microseconds: as a wait, or between two turns
abbrev pub MayRest : {S : Type 0} → SessionState S → At → ℕ → Type 0
MayRest s Reading micros = MayWait s micros
MayRest s (Resting pause drain) micros = (pause.made ≡ false) × IsShort pause.since pause.now micros
MayRest s _ micros = ⊥

-- it may ask whether anybody still reads its output
abbrev pub MayAskReader : At → Type 0
MayAskReader Reading = ⊤
MayAskReader (Resting pause drain) = ⊤
MayAskReader _ = ⊥

-- the reply to the only line that is not answered, if no call of the executor answers it
abbrev pub IsNextReply : {S : Type 0} → SessionState S → LineReply → Type 0
IsNextReply s reply =
    (found : Result Line Refusal) × (lines_in s ≡ found ∷ []) × IsPlainReply s.rules.mode s.executor found reply

-- how a drain ends, or that it goes on, at this time after its last turn
abbrev pub drain_end : {S : Type 0} → Drain → ℕ → ExecutorView S → Option DrainEnd
drain_end d now x = end_after d.terms d.turns now d.end (not (any_busy x.state))

-- this message is the next one
abbrev pub IsDue : {S : Type 0} → SessionState S → At → MessageView → Type 0
IsDue s (Sending (m ∷ ms) next) what = what ≡ m
IsDue s Reading what = (reply : LineReply) × (what ≡ ReplyTo reply) × IsNextReply s reply
IsDue s (Draining d) what =
    (now : ℕ) × (end : DrainEnd) × (s.shown ≡ Some now) × (drain_end d now s.executor ≡ Some end) × (what ≡ ReplyTo (answer.Drain end))
IsDue s _ what = ⊥

-- its open executor served the request that is the next line, at the last clock reading, which was made after that line was read
pub record MayServe {S : Type 0} (view : S → StoreView) (s : SessionState S) (reply : Reply) (x : ExecutorView S) : Type 0 where
  pub at : s.at ≡ Reading
  pub is_open : s.executor.is_open ≡ true
  pub now : ℕ
  pub shown : s.shown ≡ Some now
  pub request : Request
  pub is : lines_in s ≡ Ok (line.Request request) ∷ []
  pub serves : ServesNow view s.rules now request s.executor x reply

-- the same of the commands that wait, as a group commit
pub record MayServeTogether {S : Type 0} (view : S → StoreView) (s : SessionState S) (replies : List Reply) (x : ExecutorView S) : Type 0 where
  pub at : s.at ≡ Reading
  pub is_open : s.executor.is_open ≡ true
  pub now : ℕ
  pub shown : s.shown ≡ Some now
  pub first : Command
  pub others : List Command
  pub rest : Lines
  pub are : lines_in s ≡ map of_command (first ∷ others) ++ rest
  pub few : length (first ∷ others) ≤ most_together
  pub serves : ServesTogether view s.rules now (first ∷ others) s.executor x replies

-- its open executor tidied, as the next line asks
pub record MayTidy {S : Type 0} (view : S → StoreView) (s : SessionState S) (end : TidyEnd) (x : ExecutorView S) : Type 0 where
  pub at : s.at ≡ Reading
  pub is_open : s.executor.is_open ≡ true
  pub is : lines_in s ≡ Ok line.Tidy ∷ []
  pub tidies : Tidies view s.executor x end

-- A turn that the session makes by itself: it serves, each line is answered, except one that asks for metadata, it has looked for what is to be
-- answered since the last own turn, and there is a cause for a further one.
pub record IsOwnTurn {S : Type 0} (s : SessionState S) : Type 0 where
  pub serves : Serves s
  pub rests : IsAtRest (lines_in s)
  pub noted : s.found ≡ None
  pub looked : s.own.looked ≡ true
  pub woken : s.own.woken ≡ true

-- the next line asks for a drain, or a watch
abbrev pub AsksDrain : Lines → Type 0
AsksDrain (Ok (line.Drain limit) ∷ []) = ⊤
AsksDrain (Ok (line.Watch limit) ∷ []) = ⊤
AsksDrain _ = ⊥

-- At this time it may make a turn: one of its own, the first one of a drain, or the next one of a drain that goes on.
abbrev pub IsTurnDue : {S : Type 0} → SessionState S → At → ℕ → Type 0
IsTurnDue s Reading now = IsOwnTurn s ⊎ AsksDrain (lines_in s)
IsTurnDue s (Draining d) now = drain_end d now s.executor ≡ None
IsTurnDue s _ now = ⊥

-- its open executor made a turn, at the last clock reading
pub record MayTurn {S : Type 0} (view : S → StoreView) (s : SessionState S) (end : TurnEnd) (x : ExecutorView S) : Type 0 where
  pub is_open : s.executor.is_open ≡ true
  pub now : ℕ
  pub shown : s.shown ≡ Some now
  pub due : IsTurnDue s s.at now
  pub turns : TurnsNow view s.rules now s.executor x end

-- the same up to a disk fault in the tidy before the turn
pub record MayFault {S : Type 0} (view : S → StoreView) (s : SessionState S) (x : ExecutorView S) : Type 0 where
  pub is_open : s.executor.is_open ≡ true
  pub now : ℕ
  pub shown : s.shown ≡ Some now
  pub due : IsTurnDue s s.at now
  pub fails : FailsNow view s.rules now s.executor x

-- A turn of an orderly end, which begins nothing: the next line asks for that end, and an action runs.
pub record MayFinish {S : Type 0} (view : S → StoreView) (s : SessionState S) (end : TurnEnd) (x : ExecutorView S) : Type 0 where
  pub serves : Serves s
  pub at : s.at ≡ Reading
  pub is_open : s.executor.is_open ≡ true
  pub is : lines_in s ≡ Ok line.Leave ∷ []
  pub runs : any_running s.executor.state ≡ true
  pub now : ℕ
  pub shown : s.shown ≡ Some now
  pub takes : FinishesTurn view now (with_empty_book s.executor) x end
