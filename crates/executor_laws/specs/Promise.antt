-- The promise: a history of incarnations, and the events that it left.
use Rattle.std.specs.Prelude.{◌≡◌, ◌⊎◌, ℕ, List, [], ◌∷◌, ◌++◌, map, Ok, if◌then◌else◌, ⊤}
use Rattle.std.specs.List.{flat_map}
use Rattle.ocf_model.specs.Answer.{event_of}
use Rattle.ocf_types.specs.Kinds.{Command, Event}
use Rattle.ocf_model.specs.Answer.{Reply}
use Rattle.ocf_model.specs.State.{State, after}
use Rattle.ocf_types.specs.declared.command.RequestOf.TheVariants as asked
use Rattle.ocf_types.specs.declared.notice.Notice.{Notice}
use Rattle.exec_ledger.specs.Replies.{acknowledged}
use Rattle.exec_ledger.specs.Together.{is_no_refusal}
use Rattle.executor.specs.Reports.{IsOfResult}
use Rattle.executor_laws.specs.Histories.{IsInOrder, IsWithin, interruptions}
use Rattle.executor.specs.Exchanges.{Exchange, Batch, Took}
use Rattle.executor_laws.specs.Machine.{Label}
use Rattle.executor_laws.specs.Behaves.{HasBegins, Opening, Seen, Serving}
use Rattle.executor_laws.specs.SeenIncarnations.{reports}
use Rattle.executor.specs.declared.session.InputOf.TheVariants as input

-- what an answer claims to be recorded: the event of a command that was given at a moment and got this acknowledgement, or the
-- result of a notice
pub data Claim : Type 0 where
  Acknowledged : ℕ → Command → Reply → Claim
  Ended : Notice → Claim

-- the acknowledgements of commands at one moment, of those that were not refused
abbrev pub acknowledgements : ℕ → List Command → List Reply → List Claim
acknowledgements now (c ∷ cs) (r ∷ rs) =
    (if is_no_refusal r then Acknowledged now c r ∷ [] else []) ++ acknowledgements now cs rs
acknowledgements now _ _ = []

abbrev pub acknowledged_in : Exchange → List Claim
acknowledged_in (Took (input.Request now (asked.Command c)) reply) = acknowledgements now (c ∷ []) (reply ∷ [])
acknowledged_in (Batch now commands replies) = acknowledgements now commands replies
acknowledged_in _ = []

-- the claims of a step, and of all calls that returned, in their order
abbrev pub claims_of : Label → List Claim
claims_of l = acknowledged_in l.exchange ++ map Ended l.notices

abbrev pub claimed : List Seen → List Claim
claimed [] = []
claimed (Opening now end ∷ older) = claimed older
claimed (Serving x ∷ older) = claimed older ++ flat_map claims_of x.calls

-- this event is the one of a claim: the event that its own command is in this state, or the result of its notice
abbrev pub IsClaimed : State → Claim → Event → Type 0
IsClaimed s (Acknowledged now c reply) e = (event_of s now c ≡ Ok e) × (reply ≡ acknowledged e.change)
IsClaimed s (Ended notice) e = IsOfResult notice e

-- each claim has one of these events, in the state that those before it lead to: each another one, in their order
abbrev pub AllRecorded : State → List Claim → List Event → Type 0
AllRecorded s [] es = ⊤
AllRecorded s (c ∷ cs) [] = ⊥
AllRecorded s (c ∷ cs) (e ∷ es) = (IsClaimed s c e × AllRecorded (after s e) cs es) ⊎ AllRecorded (after s e) (c ∷ cs) es

-- each start of an agent has its begin among these events
abbrev pub AllBegun : List Seen → List Event → Type 0
AllBegun [] zs = ⊤
AllBegun (Opening now end ∷ older) zs = AllBegun older zs
AllBegun (Serving x ∷ older) zs = AllBegun older zs × HasBegins x zs

-- The promise, of the events that a behaviour of the machine from a state on has left.
pub record IsKept (start : State) (xs : List Seen) (zs : List Event) : Type 0 where
  -- each acknowledgement has the event of its own command, and each notice has its result
  pub recorded : AllRecorded start (claimed xs) zs
  -- each start of an agent has its begin
  pub begun : AllBegun xs zs
  -- openings report as interrupted what boots interrupt, each at most once and in their order
  pub opening_report : IsWithin (reports xs) (interruptions start zs)
  -- the events are in order
  pub order : IsInOrder start zs
