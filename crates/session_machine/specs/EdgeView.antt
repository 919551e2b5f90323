-- A session's edge as a value, and what it asked of its input, its clock and its source of metadata.
use Rattle.std.specs.Prelude.{◌≡◌, ⊤, ℕ, List, [], ◌∷◌, ◌++◌, IfSome, flat_map}
use Rattle.std.specs.Io.KnownBytes.{Consumes}
use Rattle.std.specs.List.{AllByRecursion}
use Rattle.store_model.specs.StoreView.{StoreView}
use Rattle.exec_lines.specs.Inputs.{InputEvent, InputView}
use Rattle.exec_lines.specs.Inputs as input
use Rattle.exec_lines.specs.Tickers.{TickerEvent}
use Rattle.exec_lines.specs.Tickers as ticker
use Rattle.exec_lines.specs.declared.line.Piece.{Piece}
use Rattle.exec_lines.specs.declared.line.Piece.TheVariants.{Last, Nothing, Part}
use Rattle.exec_client.specs.ClientView.{ClientView}
use Rattle.session_machine.specs.Behaviours.{IsBehaviour, Trace}
use Rattle.session_machine.specs.Events.{Event}
use Rattle.session_machine.specs.Events as event
use Rattle.session_machine.specs.First.{IsFirst}
use Rattle.session_machine.specs.Starts.{Gives, SourceView}
use Rattle.session_machine.specs.declared.rules.Rules.{Rules}

-- What has happened in the session; its input as it is; and what its clock was asked by now.
pub record EdgeView (S : Type 0) : Type 0 where
  pub trace : Trace S
  pub input : InputView
  pub ticks : List TickerEvent

-- what an event asks of the input
abbrev pub input_of : {S : Type 0} → Event S → List InputEvent
input_of (event.Polled millis ready) = input.Polled millis ready ∷ []
input_of (event.Peeked has_line) = input.Peeked has_line ∷ []
input_of (event.Took bytes piece) = input.Took bytes piece ∷ []
input_of event.ReadFailed = input.Failed ∷ []
input_of _ = []

-- what these events ask of it
abbrev pub inputs_of : {S : Type 0} → List (Event S) → List InputEvent
inputs_of events = flat_map input_of events

-- what an event asks of the clock
abbrev pub tick_of : {S : Type 0} → Event S → List TickerEvent
tick_of (event.Shown now) = ticker.Shown now ∷ []
tick_of (event.Rested micros) = ticker.Rested micros ∷ []
tick_of _ = []

-- what these events ask of it
abbrev pub ticks_of : {S : Type 0} → List (Event S) → List TickerEvent
ticks_of events = flat_map tick_of events

-- the bytes of a piece, with the newline that ends it
abbrev pub bytes_in : List ℕ → Piece → List ℕ
bytes_in bytes Part = bytes
bytes_in bytes Last = bytes ++ 10 ∷ []
bytes_in bytes Nothing = bytes

-- what an event takes of the input
abbrev pub taken_by : {S : Type 0} → Event S → List ℕ
taken_by (event.Took bytes piece) = bytes_in bytes piece
taken_by _ = []

-- the bytes that these events take of the input, in order
abbrev pub bytes_of : {S : Type 0} → List (Event S) → List ℕ
bytes_of events = flat_map taken_by events

-- what was given in this event, if anything was, is a possible answer for the agent that was asked
abbrev pub IsGivenIn : {S : Type 0} → Gives → Event S → Type 0
IsGivenIn gives (event.GaveMetadata provider agent limit given) = IfSome given (λ metadata. gives provider agent limit metadata)
IsGivenIn gives _ = ⊤

-- in each of these events
abbrev pub IsGiven : {S : Type 0} → Gives → List (Event S) → Type 0
IsGiven gives events = AllByRecursion (IsGivenIn gives) events

-- What happened is a behaviour of the machine from the begin of a session. And it is what input, clock and source were asked, and what they answered:
-- the input and the clock were asked these questions, in this order, and no others; the bytes of the events were read, and no others; and
-- the metadata are those of the source.
pub record IsFaithful {S : Type 0} (view : S → StoreView) (gives : SourceView → Gives) (v : EdgeView S) : Type 0 where
  pub first : IsFirst v.trace.first
  pub behaves : IsBehaviour view v.trace
  pub asked : v.input.asked ≡ v.trace.first.start.input.asked ++ inputs_of v.trace.events
  pub read : Consumes v.trace.first.start.input.left v.input.left (bytes_of v.trace.events)
  pub ticks : v.ticks ≡ v.trace.first.start.ticks ++ ticks_of v.trace.events
  pub given : IsGiven (gives v.trace.first.start.source) v.trace.events

-- so it is, and these are the rules of the session, its source and what its client has received
pub record IsKept {S : Type 0} (view : S → StoreView) (gives : SourceView → Gives) (rules : Rules) (source : SourceView) (client : ClientView S)
    (v : EdgeView S) : Type 0 where
  pub is : IsFaithful view gives v
  pub same_rules : v.trace.state.rules ≡ rules
  pub same_source : v.trace.first.start.source ≡ source
  pub same_client : v.trace.state.client ≡ client
