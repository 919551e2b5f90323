-- Sessions: an executor takes inputs, one after the other.
use Rattle.std.specs.Prelude.{◌≡◌, ◌↔◌, ℕ, Bool, true, false, List, [], ◌∷◌, ◌++◌, Result, Ok, Err}
use Rattle.ocf_model.specs.Answer.{event_of}
use Rattle.ocf_types.specs.Kinds.{Event, Request}
use Rattle.ocf_model.specs.Answer.{Reply}
use Rattle.ocf_types.specs.Params.{ParamList}
use Rattle.ocf_model.specs.State.{State}
use Rattle.ocf_types.specs.declared.command.RequestOf.TheVariants as asked
use Rattle.ocf_model.specs.declared.refusal.Refusal.{Refusal}
use Rattle.ocf_model.specs.declared.refusal.Refusal.TheVariants.{Closed, Disk}
use Rattle.ocf_model.specs.declared.reply.ReplyOf.TheVariants.{Refused, Turn}
use Rattle.ocf_model.specs.declared.reply.TurnEnd.{TurnEnd}
use Rattle.ocf_model.specs.declared.reply.TurnEnd.TheVariants as turn_end
use Rattle.exec_ledger.specs.LedgerView.{While}
use Rattle.exec_ledger.specs.Pieces.{CrashCondition}
pub use Rattle.exec_ledger.specs.Pieces.{Effects, followed_by, no_effects}
use Rattle.exec_ledger.specs.BatchStarts.{due_after_all}
use Rattle.executor.specs.Commands.{ServesOpen}
use Rattle.exec_ledger.specs.Replies.{event_effects}
use Rattle.executor.specs.ExecutorView.{ExecutorView, due_in}
use Rattle.executor.specs.TurnCalls.{TakesTurn}
use Rattle.executor.specs.declared.session.InputOf.{InputOf}
use Rattle.executor.specs.declared.session.InputOf.TheVariants as input
use Rattle.store_model.specs.StoreView.{StoreView}

-- an input
abbrev pub Input : Type 0
Input = InputOf ParamList

-- the effects of a command: one that is an event records it, or a disk fault leaves it pending
abbrev pub command_effects : Result Event Refusal → Reply → Effects
command_effects (Err refusal) reply = no_effects
command_effects (Ok e) reply = event_effects e reply

abbrev pub request_effects : State → ℕ → Request → Reply → Effects
request_effects s now (asked.Question question) reply = no_effects
request_effects s now (asked.Command command) reply = command_effects (event_of s now command) reply

-- an open executor takes a request: from one view of it to another, with these effects
pub record TakesRequest {S : Type 0} (view : S → StoreView) (now : ℕ) (request : Request) (old new : ExecutorView S) (reply : Reply)
    (effects : Effects) : Type 0 where
  pub serves : ServesOpen view now request old new reply
  pub closes : (new.is_open ≡ false) ↔ (reply ≡ Refused Disk)
  pub does : effects ≡ request_effects old.state now request reply

-- an open executor makes a turn, and replies how it ended
pub record TakesATurn {S : Type 0} (view : S → StoreView) (now : ℕ) (old new : ExecutorView S) (reply : Reply) (effects : Effects) : Type 0 where
  pub end : TurnEnd
  pub takes : TakesTurn view now old new end
  pub replies : reply ≡ Turn end
  pub does : effects ≡ takes.turns.effects

-- an open executor takes an input
abbrev pub TakesOpen : {S : Type 0} → (S → StoreView) → Input → ExecutorView S → ExecutorView S → Reply → Effects → Type 0
TakesOpen view (input.Request now request) old new reply effects = TakesRequest view now request old new reply effects
TakesOpen view (input.Turn now) old new reply effects = TakesATurn view now old new reply effects

-- the reply of a closed executor
abbrev pub closed_reply : Input → Reply
closed_reply (input.Request now request) = Refused Closed
closed_reply (input.Turn now) = Turn turn_end.Closed

-- an executor takes an input, while it is open or closed: a closed one does nothing
abbrev pub TakesWhile : Bool → {S : Type 0} → (S → StoreView) → Input → ExecutorView S → ExecutorView S → Reply → Effects → Type 0
TakesWhile is_open view i old new reply effects =
    While is_open (TakesOpen view i old new reply effects) ((reply ≡ closed_reply i) × (new ≡ old) × (effects ≡ no_effects))

-- one input after the other, none left out, each with one reply: from one view of the executor to another
abbrev pub Session : {S : Type 0} → (S → StoreView) → ExecutorView S → List Input → List Reply → ExecutorView S → Effects → Type 0
Session view old [] [] new effects = (new ≡ old) × (effects ≡ no_effects)
Session {S} view old (i ∷ is) (r ∷ rs) new effects =
    (mid : ExecutorView S) × (first : Effects) × (later : Effects) × TakesWhile old.is_open view i old mid r first × Session view mid is rs new later
    × (effects ≡ followed_by first later)
Session view old [] (r ∷ rs) new effects = ⊥
Session view old (i ∷ is) [] new effects = ⊥

-- Calls of an open executor with these effects: from one view of it to another.
pub record Leads {S : Type 0} (view : S → StoreView) (old new : ExecutorView S) (effects : Effects) : Type 0 where
  -- the state, the crash condition, and that no agent was spawned without its synced begin
  pub crash : CrashCondition view old.store new.store old.state new.state effects
  pub book : new.children.book ≡ old.children.book ++ effects.entries
  -- the log, which has all answers and is never emptied, grew by the same entries
  pub log : new.children.log ≡ old.children.log ++ effects.entries
  -- the site and the report of the opening stay
  pub site : new.site ≡ old.site
  pub opening_report : new.opening_report ≡ old.opening_report
  pub due : due_in new ≡ due_after_all old.state (due_in old) effects.events
  -- nothing is pending but after a disk fault, which closed the executor
  pub whole : new.is_open ≡ true → effects.pending ≡ []

-- Each input was taken, with these replies; and where the executor was open, the effects of all of them.
pub record TakesInputs {S : Type 0} (view : S → StoreView) (inputs : List Input) (old new : ExecutorView S) (replies : List Reply) : Type 0 where
  pub effects : Effects
  pub each : Session view old inputs replies new effects
  pub leads : old.is_open ≡ true → Leads view old new effects
