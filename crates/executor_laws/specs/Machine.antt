-- The machine of an executor, a labelled transition system: each call is a step, whose label has the call with its answer, the answers
-- of agent processes in it, and the notices of a turn. It knows no store. `Behaves` adds crashes and openings.
use Rattle.std.specs.Prelude.{◌≡◌, ◌≢◌, ◌⊎◌, ◌↔◌, ◌+◌, ◌-◌, ◌*◌, ◌<◌, ℕ, Bool, true, false, List, [], ◌∷◌, length, Ok, Contains, IsTrue, ⊤}
use Rattle.ocf_model.specs.Answer.{event_of, moment, reply_to}
use Rattle.ocf_model.specs.Due.{Due}
use Rattle.ocf_types.specs.Kinds.{Command, Event}
use Rattle.ocf_model.specs.Answer.{Reply}
use Rattle.ocf_model.specs.State.{State, after_all}
use Rattle.ocf_types.specs.declared.command.RequestOf.TheVariants as asked
use Rattle.ocf_model.specs.declared.refusal.Refusal.TheVariants.{JournalFull, Memory}
use Rattle.ocf_types.specs.declared.notice.Notice.{Notice}
use Rattle.ocf_model.specs.declared.reply.ReplyOf.TheVariants.{Refused, Turn}
use Rattle.ocf_model.specs.declared.reply.TidyEnd.{TidyEnd}
use Rattle.ocf_model.specs.declared.reply.TidyEnd.TheVariants as tidy
use Rattle.ocf_model.specs.declared.reply.TurnEnd.{TurnEnd}
use Rattle.ocf_model.specs.declared.reply.TurnEnd.TheVariants as turn_end
use Rattle.child_model.specs.declared.answer.Entry.{Entry}
use Rattle.exec_state.specs.Answers.{IsReplyOrMemory}
use Rattle.exec_ledger.specs.LedgerView.{While}
use Rattle.exec_ledger.specs.Pieces.{Effects, followed_by, no_effects, batch_effects}
use Rattle.exec_ledger.specs.BatchStarts.{due_after_all, batch_start}
use Rattle.exec_ledger.specs.Together.{Answered, failed}
use Rattle.exec_turn.specs.Turn.{IsFinish, IsTurn, TurnKind}
use Rattle.executor.specs.Exchanges.{Abandoned, Cleared, Exchange, Finished, Batch, Tidied, Took}
use Rattle.executor.specs.Sessions.{closed_reply}
use Rattle.executor.specs.declared.session.InputOf.TheVariants as input
use Rattle.store_model.specs.Batches.{IsTooLong}
use Rattle.store_model.specs.StoreView.{Increased}

-- whether it takes requests, its state, when each recurring monitor is due, whether its allocator refuses growths, and how many more
-- answers its book of agent processes has room for, and how many are in it
pub record Machine : Type 0 where
  pub is_open : Bool
  pub state : State
  pub due : Due
  pub refuses : Bool
  pub room : ℕ
  pub booked : ℕ

-- The label of a step: the call with its answer; the starts, polls and kills of agent processes in it, each with its answer; the
-- notices of a turn; and what the machine does not keep itself: the ids of the resources that are held after the step, as they were
-- when a turn picked its actions; the offset of the store's next record before the step and its epoch then, and how many calls the device
-- had failed before the step and after it.
pub record Label : Type 0 where
  pub exchange : Exchange
  pub answers : List Entry
  pub notices : List Notice
  pub held : List (List ℕ)
  pub tail : ℕ
  pub epoch : ℕ
  pub faults : ℕ × ℕ

-- The choices that the machine leaves open, each with the condition under which a call may make it.
--
-- Memory. A question or a registration may be refused for memory (`IsReplyOrMemory`; `Adds` of `exec_ledger`). A turn that ends for
-- memory begins the actions before the one that found no memory, if any, and no more (`PickedAt`). A call that does either reports
-- lack of memory:
abbrev pub LacksMemory : Exchange → Type 0
LacksMemory (Took (input.Request now request) reply) = reply ≡ Refused Memory
LacksMemory (Took (input.Turn now) reply) = reply ≡ Turn turn_end.Memory
LacksMemory (Batch now commands replies) = Contains replies (Refused Memory)
LacksMemory _ = ⊥

-- a call reports it only where the allocator refuses growths
abbrev pub LacksOnlyIf : Exchange → Machine → Type 0
LacksOnlyIf e m = LacksMemory e → IsTrue m.refuses

-- The journal's capacity. A command by itself may be refused for it only where its event does not fit.
abbrev pub LacksSpace : Label → Event → Type 0
LacksSpace l e = IsTooLong l.tail (e ∷ [])

-- The book's capacity. A turn does nothing exactly where the book has room for fewer answers than this many for each resource.
abbrev pub LacksBook : ℕ → Machine → Type 0
LacksBook each m = m.room < each * length m.state.resources

-- The device. Where the device failed a call the machine may close, with these events pending: a crash leaves all or none.
abbrev pub Closes : List Event → Machine → Effects → Type 0
Closes es n did = (n.is_open ≡ false) × (did ≡ batch_effects false es)

abbrev pub HasFailed : Label → Type 0
HasFailed l = Increased l.faults.0 l.faults.1

abbrev pub Fails : Label → List Event → Machine → Effects → Type 0
Fails l es n did = HasFailed l × Closes es n did

-- the machine after recorded events
abbrev pub after_events : Machine → List Event → Machine
after_events m es = record m { state = after_all m.state es; due = due_after_all m.state m.due es }

-- the machine after answers that were written in its book, and after its book was emptied
abbrev pub with_answers : Machine → List Entry → Machine
with_answers m entries = record m { room = m.room - length entries; booked = m.booked + length entries }

abbrev pub cleared : Machine → Machine
cleared m = record m { room = m.room + m.booked; booked = 0 }

-- it goes on by these events, which are recorded
abbrev pub GoesOn : List Event → Machine → Machine → Effects → Type 0
GoesOn es m n did = (n ≡ after_events m es) × (did ≡ batch_effects true es)

-- commands at one moment: each is answered by the state after the events of those before it; all events are recorded, or the disk fails
abbrev pub TakesAll : Label → ℕ → List Command → List Reply → Machine → Machine → Effects → Type 0
TakesAll l now cs rs m n did = (meant : List Reply) × (es : List Event) × Answered now m.state cs meant es
    × (((rs ≡ meant) × GoesOn es m n did) ⊎ ((es ≢ []) × (rs ≡ failed meant) × Fails l es n did))

-- one command, whose event the journal may have no capacity for
abbrev pub TakesOne : Label → ℕ → Command → Reply → Machine → Machine → Effects → Type 0
TakesOne l now c r m n did = TakesAll l now (c ∷ []) (r ∷ []) m n did
    ⊎ ((e : Event) × (event_of m.state now c ≡ Ok e) × (r ≡ Refused JournalFull) × LacksSpace l e × GoesOn [] m n did)

-- A turn of a kind at a moment, for which the book needs room for this many answers for each resource.
pub record MovesTurn (kind : TurnKind) (each : ℕ) (end : TurnEnd) (at : ℕ) (l : Label) (m n : Machine) (did : Effects) : Type 0 where
  -- the answers of agent processes make its events and its notices
  pub turns : kind l.held end (batch_start m.state m.due l.tail at m.refuses) did l.notices
  pub answers : l.answers ≡ did.entries
  pub goes_on : n ≡ record (with_answers (after_events m did.events) did.entries) { is_open = n.is_open }
  -- nothing is done exactly when the book lacks capacity, and a disk fault alone closes the machine
  pub full : (end ≡ turn_end.BookFull) ↔ LacksBook each m
  pub closes : (n.is_open ≡ false) ↔ (end ≡ turn_end.Disk)
  pub cause : end ≡ turn_end.Disk → HasFailed l

-- the greatest epoch
abbrev pub last_epoch : ℕ
last_epoch = 18446744073709551615

-- a tidy, by its end: it records nothing
abbrev pub TidyEnds : TidyEnd → Label → Machine → Machine → Effects → Type 0
TidyEnds tidy.Done l m n did = GoesOn [] m n did
TidyEnds tidy.EpochSpent l m n did = (l.epoch ≡ last_epoch) × GoesOn [] m n did
TidyEnds tidy.Disk l m n did = Fails l [] n did
TidyEnds tidy.Closed l m n did = ⊥

-- a call that is not a turn has no answer of an agent process, and no notice: giving up the children kills them without an entry
abbrev pub IsQuiet : Label → Type 0
IsQuiet l = (l.answers ≡ []) × (l.notices ≡ [])

-- a call of an open machine
abbrev pub MovesOpen : Exchange → Label → Machine → Machine → Effects → Type 0
MovesOpen (Took (input.Request now (asked.Question q)) reply) l m n did =
    IsQuiet l × IsReplyOrMemory (reply_to m.state q) reply × GoesOn [] m n did
MovesOpen (Took (input.Request now (asked.Command c)) reply) l m n did = IsQuiet l × TakesOne l now c reply m n did
MovesOpen (Took (input.Turn now) reply) l m n did =
    (end : TurnEnd) × (reply ≡ Turn end) × MovesTurn IsTurn 3 end (moment m.state now) l m n did
MovesOpen (Batch now commands replies) l m n did = IsQuiet l × TakesAll l now commands replies m n did
MovesOpen (Finished now end) l m n did = MovesTurn IsFinish 2 end (moment m.state now) l m n did
MovesOpen (Tidied end) l m n did = IsQuiet l × TidyEnds end l m n did
MovesOpen Cleared l m n did = IsQuiet l × (n ≡ cleared m) × (did ≡ no_effects)
MovesOpen Abandoned l m n did = IsQuiet l × Closes [] n did

-- the answers of a closed one
abbrev pub AnswersClosed : Exchange → Type 0
AnswersClosed (Took i reply) = reply ≡ closed_reply i
AnswersClosed (Batch now commands replies) = ⊥
AnswersClosed (Finished now end) = end ≡ turn_end.Closed
AnswersClosed (Tidied end) = end ≡ tidy.Closed
AnswersClosed _ = ⊤

-- a call of a machine, open or closed
abbrev pub MovesWhile : Bool → Label → Machine → Machine → Effects → Type 0
MovesWhile is_open l m n did =
    While is_open (MovesOpen l.exchange l m n did × LacksOnlyIf l.exchange m) (IsQuiet l × AnswersClosed l.exchange × Closes [] n did)

-- one call after the other
abbrev pub MovesAll : List Label → Machine → Machine → Effects → Type 0
MovesAll [] m n did = (n ≡ m) × (did ≡ no_effects)
MovesAll (l ∷ ls) m n did = (mid : Machine) × (first : Effects) × (later : Effects) × MovesWhile m.is_open l m mid first
    × MovesAll ls mid n later × (did ≡ followed_by first later)
