-- The part of calls that concerns one resource.
use Rattle.std.specs.Prelude.{◌≡◌, ℕ, ◌<◌, ◌≤◌, Bool, true, false, List, [], ◌∷◌, ◌++◌, filter, nat_eq, if◌then◌else◌, ⊤}
use Rattle.std.specs.List.{AllByRecursion, IsDistinct, flat_map, list_any}
use Rattle.std.specs.Option.{option_map_or}
use Rattle.std.specs.Map.{keys_of}
use Rattle.std.specs.Str.{bytes_eq}
use Rattle.ocf_types.specs.Kinds.{Change, Command, Event, Request}
use Rattle.ocf_model.specs.Answer.{Reply}
use Rattle.ocf_model.specs.State.{State, named}
use Rattle.ocf_types.specs.declared.command.CommandOf.TheVariants as command
use Rattle.ocf_types.specs.declared.command.Question.TheVariants as question
use Rattle.ocf_types.specs.declared.command.RequestOf.TheVariants as asked
use Rattle.ocf_types.specs.declared.event.Change.TheVariants as change
use Rattle.ocf_types.specs.declared.event.Step.TheVariants as step
use Rattle.ocf_model.specs.declared.refusal.Refusal.TheVariants.{CallsSpent, Closed, Disk, JournalFull, Memory, TooManyResources}
use Rattle.ocf_model.specs.declared.reply.ReplyOf.TheVariants as reply
use Rattle.ocf_model.specs.declared.reply.TurnEnd.TheVariants.{Done}
use Rattle.child_model.specs.Children.{is_held}
use Rattle.child_model.specs.declared.answer.Entry.{Entry}
use Rattle.exec_ledger.specs.Actives.{active, runs_of}
use Rattle.exec_ledger.specs.Pieces.{Effects}
use Rattle.executor.specs.Exchanges.{Calls, Exchange, Finished, Batch, Took}
use Rattle.executor.specs.ExecutorView.{ExecutorView}
use Rattle.executor_laws.specs.Isolated.{cut}
use Rattle.executor.specs.Sessions.{Input, Session}
use Rattle.executor.specs.declared.session.InputOf.TheVariants as input
use Rattle.store_model.specs.StoreView.{StoreView}

-- the id that a command is about
abbrev pub commanded : Command → List ℕ
commanded (command.Register r) = r.id
commanded (command.Unregister id) = id
commanded (command.SetParams id ps) = id
commanded (command.Exec id task timeout) = id
commanded (command.Recur id interval timeout level) = id
commanded (command.Cancel id interval) = id
commanded (command.Forget id) = id
commanded (command.Withdraw id call) = id

-- a request is about this id; a list is about no resource alone
abbrev pub is_about : List ℕ → Request → Bool
is_about id (asked.Command c) = bytes_eq id (commanded c)
is_about id (asked.Question question.List) = false
is_about id (asked.Question (question.Info other)) = bytes_eq id other
is_about id (asked.Question (question.History other)) = bytes_eq id other

-- a call concerns a resource: a request that is about it, and each turn of either kind. A tidy concerns none, and neither do the calls
-- that empty the children's book or give up the children.
abbrev pub concerns : List ℕ → Exchange → Bool
concerns id (Took (input.Request now request) reply) = is_about id request
concerns id (Took (input.Turn now) reply) = true
concerns id (Finished now end) = true
concerns id _ = false

-- commands at one moment with their replies, each as a call of its own
abbrev pub one_by_one : ℕ → List Command → List Reply → List Exchange
one_by_one now (c ∷ cs) (r ∷ rs) = Took (input.Request now (asked.Command c)) r ∷ one_by_one now cs rs
one_by_one now _ _ = []

-- a batch as these calls, and any other call as it is
abbrev pub unrolled : Exchange → List Exchange
unrolled (Batch now commands replies) = one_by_one now commands replies
unrolled e = e ∷ []

-- a resource's part of a call, and of calls: of a batch of commands those that concern it
abbrev pub projection_of : List ℕ → Exchange → List Exchange
projection_of id e = filter (concerns id) (unrolled e)

abbrev pub part : List ℕ → List Exchange → List Exchange
part id es = flat_map (projection_of id) es

-- the events that name it
abbrev pub events_of : List ℕ → List Event → List Event
events_of id es = filter (λ e. option_map_or (bytes_eq id) (named e.change) false) es

-- its runs: of its running action, and of those that these events begin
abbrev pub run_begun : List ℕ → Change → List ℕ
run_begun id (change.Step other (step.Begin call run)) = if bytes_eq id other then run ∷ [] else []
run_begun id _ = []

abbrev pub own_runs : List ℕ → State → List Event → List ℕ
own_runs id s es = runs_of (filter (λ a. bytes_eq id a.id) (active s)) ++ flat_map (λ e. run_begun id e.change) es

-- the entries of these runs
abbrev pub entries_of_runs : List ℕ → List Entry → List Entry
entries_of_runs runs entries = filter (λ e. list_any (nat_eq e.run) runs) entries

-- the moment of a call that follows one at this moment: the moment that it is handed, or this one if it is handed none
abbrev pub moment_in : ℕ → Exchange → ℕ
moment_in from (Took (input.Request now request) reply) = cut now
moment_in from (Took (input.Turn now) reply) = cut now
moment_in from (Batch now commands replies) = cut now
moment_in from (Finished now end) = cut now
moment_in from _ = from

-- moments do not go back, from this one on
abbrev pub AreRising : ℕ → List Exchange → Type 0
AreRising from [] = ⊤
AreRising from (e ∷ es) = (from ≤ moment_in from e) × AreRising (moment_in from e) es

-- a reply that reports no shortage that resources share, of capacity, numbers, memory or the disk, and no closed executor; a turn
-- ended done
abbrev pub IsPlain : Reply → Type 0
IsPlain (reply.Refused TooManyResources) = ⊥
IsPlain (reply.Refused CallsSpent) = ⊥
IsPlain (reply.Refused JournalFull) = ⊥
IsPlain (reply.Refused Memory) = ⊥
IsPlain (reply.Refused Disk) = ⊥
IsPlain (reply.Refused Closed) = ⊥
IsPlain (reply.Turn end) = end ≡ Done
IsPlain _ = ⊤

-- the same of a call: a turn that begins nothing ended done, too
abbrev pub IsAnswered : Exchange → Type 0
IsAnswered (Took i reply) = IsPlain reply
IsAnswered (Finished now end) = end ≡ Done
IsAnswered _ = ⊤

-- this resource was not held in a call, given the executor after it: only a turn picks actions, and the resources that are held after
-- it are those that were held when it picked them
abbrev pub WasFree : {S : Type 0} → List ℕ → Exchange → ExecutorView S → Type 0
WasFree id (Took (input.Turn now) reply) new = is_held new.children.held id ≡ false
WasFree id _ new = ⊤

-- it was not held in any of these calls, one after the other
abbrev pub IsFree : {S : Type 0} → (view : S → StoreView) → List ℕ → (old : ExecutorView S) → (es : List Exchange) → (new : ExecutorView S)
    → (effects : Effects) → Calls view old es new effects → Type 0
IsFree view id old [] new effects calls = ⊤
IsFree view id old (e ∷ es) new effects (mid, first, later, does, rest, is) = WasFree id e mid × IsFree view id mid es new later rest

-- the same of the inputs of a session
abbrev pub IsFreeSession : {S : Type 0} → (view : S → StoreView) → List ℕ → (old : ExecutorView S) → (inputs : List Input) → (replies : List Reply)
    → (new : ExecutorView S) → (effects : Effects) → Session view old inputs replies new effects → Type 0
IsFreeSession view id old (i ∷ is) (r ∷ rs) new effects (mid, first, later, takes, rest, same) =
    WasFree id (Took i r) mid × IsFreeSession view id mid is rs new later rest
IsFreeSession view id old _ _ new effects session = ⊤

-- in a state ids differ, and running actions differ in their runs, which are below the next one
pub record DistinctKeys (s : State) : Type 0 where
  pub ids : IsDistinct bytes_eq (keys_of s.resources)
  pub runs : IsDistinct nat_eq (runs_of (active s))
  pub below : AllByRecursion (λ run. run < s.next_run) (runs_of (active s))
