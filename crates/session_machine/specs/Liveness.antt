-- How a session goes on: what it did since its last own turn, how often it reads, polls and waits, and what it may still do at its end.
use Rattle.std.specs.Prelude.{◌≡◌, ◌+◌, ◌*◌, ◌==◌, ◌&&◌, ◌||◌, ⊤, ℕ, Bool, true, false, not, nat_lt, is_none, List, if◌then◌else◌}
use Rattle.store_model.specs.StoreView.{StoreView}
use Rattle.exec_turn.specs.Actives.{any_running}
use Rattle.exec_replies.specs.declared.reply.LineReply.TheVariants.{Left}
use Rattle.exec_client.specs.MessageView.{MessageView, Replies, Reply}
use Rattle.session_machine.specs.After.{drain_now, is_held}
use Rattle.session_machine.specs.Behaviours.{Behaves, begins, goes_on}
use Rattle.session_machine.specs.Events.{Event}
use Rattle.session_machine.specs.Events as event
use Rattle.session_machine.specs.Limits.{reads_a_turn}
use Rattle.session_machine.specs.Pausing.{is_quiet}
use Rattle.session_machine.specs.Session.{At, SessionState, Reading}

-- a property of an event in the state before it
abbrev pub EventTest : Type 0 → Type 0
EventTest S = SessionState S → Event S → Bool

-- a turn that the session made by itself
abbrev pub is_own : {S : Type 0} → EventTest S
is_own s (event.Turned end x) = is_none (drain_now s)
is_own s _ = false

abbrev pub is_reading : At → Bool
is_reading Reading = true
is_reading _ = false

-- a wait after a turn: a poll that may take a millisecond or more, or a pause that is none of a drain or an orderly end
abbrev pub is_wait : {S : Type 0} → EventTest S
is_wait s (event.Polled millis ready) = nat_lt 0 millis
is_wait s (event.Rested micros) = is_reading s.at
is_wait s _ = false

-- a poll that does not wait
abbrev pub is_poll : {S : Type 0} → EventTest S
is_poll s (event.Polled millis ready) = not (nat_lt 0 millis)
is_poll s _ = false

-- a read
abbrev pub is_read : {S : Type 0} → EventTest S
is_read s (event.Took bytes piece) = true
is_read s _ = false

-- what can be read was read, as far as it has to be: no input is there, all reads are made, or the source of metadata was asked, or is
-- asked next for those of a line that was just noted
abbrev pub looks : {S : Type 0} → EventTest S
looks s (event.Polled millis ready) = not ready
looks s (event.Took bytes piece) = s.own.reads + 1 == reads_a_turn
looks s (event.Noted found tag) = is_held s.rules.mode found
looks s (event.GaveMetadata provider agent limit given) = true
looks s _ = false

-- a message answers a line, or several
abbrev pub is_answer : MessageView → Bool
is_answer (Reply reply) = true
is_answer (Replies replies) = true
is_answer _ = false

-- a cause for a further turn: a wait, a read or an answer
abbrev pub wakes : {S : Type 0} → EventTest S
wakes s (event.Polled millis ready) = nat_lt 0 millis
wakes s (event.Rested micros) = is_reading s.at
wakes s (event.Took bytes piece) = true
wakes s (event.Sent what all client) = all && is_answer what
wakes s _ = false

-- an action ended or began in this turn
abbrev pub stirs : {S : Type 0} → Event S → Bool
stirs (event.Turned end x) = not (is_quiet x.children.book)
stirs _ = false

abbrev pub one_if : Bool → ℕ
one_if holds = if holds then 1 else 0

-- The number of such events in a behaviour; the number since the last own turn; whether there is one since then; and whether there is one, or the
-- last own turn ended or began an action, or there was no own turn yet.
module _ {S : Type 0} {view : S → StoreView} {first : SessionState S} where
  abbrev pub count : EventTest S → {events : List (Event S)} → {s : SessionState S} → Behaves view first events s → ℕ
  count test begins = 0
  count test (goes_on events s e way may) = count test way + one_if (test s e)

  abbrev pub count_since : EventTest S → {events : List (Event S)} → {s : SessionState S} → Behaves view first events s → ℕ
  count_since test begins = 0
  count_since test (goes_on events s e way may) = if is_own s e then 0 else (count_since test way + one_if (test s e))

  abbrev pub any_since : EventTest S → {events : List (Event S)} → {s : SessionState S} → Behaves view first events s → Bool
  any_since test begins = false
  any_since test (goes_on events s e way may) = if is_own s e then false else (test s e || any_since test way)

  abbrev pub has_cause : {events : List (Event S)} → {s : SessionState S} → Behaves view first events s → Bool
  has_cause begins = true
  has_cause (goes_on events s e way may) = if is_own s e then stirs e else (wakes s e || has_cause way)

-- the length of a poll or a pause, in microseconds
abbrev pub micros_of : {S : Type 0} → Event S → ℕ
micros_of (event.Polled millis ready) = 1000 * millis
micros_of (event.Rested micros) = micros
micros_of _ = 0

-- the lines that were read are answered: the executor serves them, or something is sent; the clock and the reader may be asked
abbrev pub only_answers : {S : Type 0} → Event S → Bool
only_answers (event.Peeked has_line) = true
only_answers (event.Shown now) = true
only_answers (event.Sent what all client) = true
only_answers (event.HasReader still_reads) = true
only_answers (event.Served reply x) = true
only_answers (event.Together replies x) = true
only_answers _ = false

-- An orderly end: while an action runs, turns that begin nothing; once nothing runs, the reply. The clock and the reader may be asked.
abbrev pub IsLeaving : {S : Type 0} → SessionState S → Event S → Type 0
IsLeaving s (event.Finishes end x) = any_running s.executor.state ≡ true
IsLeaving s (event.Sent what all client) = (any_running s.executor.state ≡ false) × (what ≡ Reply Left)
IsLeaving s (event.Peeked has_line) = ⊤
IsLeaving s (event.Shown now) = ⊤
IsLeaving s (event.HasReader still_reads) = ⊤
IsLeaving s _ = ⊥
