-- The behaviours of a session: its events, each of which it may do where it then is.
use Rattle.std.specs.Prelude.{◌≡◌, ◌⊎◌, ◌≤◌, Bool, true, false, List, [], ◌∷◌, ◌++◌, length}
use Rattle.ocf_types.specs.Limits.{num_max}
use Rattle.ocf_types.specs.Numbers.{IsMoment}
use Rattle.store_model.specs.StoreView.{StoreView}
use Rattle.executor.specs.ExecutorView.{ExecutorView}
use Rattle.exec_replies.specs.declared.notice.NoticeForm.{NoticeForm}
use Rattle.exec_client.specs.ClientView.{ClientView, Receives, ReceivesPart}
use Rattle.exec_client.specs.MessageView.{MessageView}
use Rattle.session_machine.specs.After.{after}
use Rattle.session_machine.specs.Backed.{owed}
use Rattle.session_machine.specs.Events.{Event}
use Rattle.session_machine.specs.Events as event
use Rattle.session_machine.specs.May.{IsDue, MayAskReader, MayAskSource, MayFault, MayFinish, MayNote, MayPoll, MayRead, MayRest, MayServe, MayServeTogether, MayShow, MayTidy, MayTurn}
use Rattle.session_machine.specs.Session.{SessionState, Broken, Over, Reading, begun}
use Rattle.session_machine.specs.Starts.{Start}
use Rattle.session_machine.specs.declared.rules.Rules.{Rules}

-- a client receives all of a message, or a part
abbrev pub ReceivesAs : {S : Type 0} → Bool → NoticeForm → ClientView S → ClientView S → MessageView → Type 0
ReceivesAs true form old new what = Receives form old new what
ReceivesAs false form old new what = ReceivesPart form old new what

-- a session that is here may do this
abbrev pub May : {S : Type 0} → (S → StoreView) → SessionState S → Event S → Type 0
May view s (event.Polled millis ready) = MayPoll s millis
May view s (event.Peeked has_line) = s.at ≡ Reading
May view s (event.Took bytes piece) = MayRead s
May view s event.ReadFailed = MayRead s
May view s (event.Noted found tag) = MayNote s found tag
May view s (event.GaveMetadata provider agent limit given) = MayAskSource s provider agent limit
May view s (event.Shown now) = MayShow s.at × IsMoment now
May view s (event.Rested micros) = MayRest s s.at micros
May view s (event.Sent what all client) = IsDue s s.at what × ReceivesAs all s.rules.form s.client client what
May view s (event.HasReader still_reads) = MayAskReader s.at
May view s (event.Served reply x) = MayServe view s reply x
May view s (event.Together replies x) = MayServeTogether view s replies x
May view s (event.Tidied end x) = MayTidy view s end x
May view s (event.Turned end x) = MayTurn view s end x
May view s (event.Faulted x) = MayFault view s x
May view s (event.Finishes end x) = MayFinish view s end x

-- These events lead a session from one state to another.
pub data Behaves {S : Type 0} (view : S → StoreView) (first : SessionState S) : List (Event S) → SessionState S → Type 0 where
  begins : Behaves view first [] first
  goes_on : (events : List (Event S)) (s : SessionState S) (e : Event S) → Behaves view first events s → May view s e
      → Behaves view first (events ++ e ∷ []) (after s e)

-- a session that began in some state: its events since, and its state
pub record Trace (S : Type 0) : Type 0 where
  pub first : SessionState S
  pub events : List (Event S)
  pub state : SessionState S

-- the same after one more event
abbrev pub then : {S : Type 0} → Trace S → Event S → Trace S
then t e = record { first = t.first; events = t.events ++ e ∷ []; state = after t.state e }

-- a session that begins with this executor and this client
abbrev pub opening : {S : Type 0} → Rules → Start → ExecutorView S → ClientView S → Trace S
opening rules start x client = record { first = begun rules start x client; events = []; state = begun rules start x client }

-- its events lead from its first state to its state
abbrev pub IsBehaviour : {S : Type 0} → (S → StoreView) → Trace S → Type 0
IsBehaviour view t = Behaves view t.first t.events t.state

-- It broke off: the last question failed; or it owes no message and has 2^53 - 1 events or more, so that a loop over `0..NUM_MAX` may have
-- come to its end.
abbrev pub HasBroken : {S : Type 0} → Trace S → Type 0
HasBroken t = (t.state.at ≡ Over Broken) ⊎ ((owed t.state.at ≡ []) × (num_max ≤ length t.events))
