-- The contracts of a turn and of its three batches.
use Rattle.std.specs.Prelude.{◌≡◌, ◌≢◌, ◌*◌, ◌+◌, ◌-◌, ◌<◌, ◌≤◌, ℕ, List, [], ◌++◌, length, map, Result, Ok, Err, IfOk, OnErr, is_ok, if◌then◌else◌}
use Rattle.std.specs.List.{AllByRecursion}
use Rattle.ocf_model.specs.Due.{Due}
use Rattle.ocf_model.specs.State.{State}
use Rattle.ocf_types.specs.declared.notice.Notice.{Notice}
use Rattle.ocf_model.specs.declared.reply.TurnEnd.{TurnEnd}
use Rattle.ocf_model.specs.declared.reply.TurnEnd.TheVariants as turn_end
use Rattle.store_model.specs.StoreView.{Increased, StoreView}
use Rattle.exec_ledger.specs.declared.fault.StoreFault.{StoreFault}
use Rattle.ocf_env.specs.Locations.{Call}
use Rattle.child_model.specs.Children.{ChildrenView}
use Rattle.exec_ledger.specs.Actives.{Active}
use Rattle.exec_turn.specs.AgentsLive.{AgentsLive, AgentsLiveBut}
use Rattle.exec_turn.specs.Launches.{AllLaunch, HasOwnLaunch, actions_of_starts}
use Rattle.exec_turn.specs.Picks.{begins}
use Rattle.exec_ledger.specs.Pieces.{Effects, CrashCondition, batch_effects}
use Rattle.exec_turn.specs.Polls.{Polled, polls, result_notices, results}
use Rattle.exec_turn.specs.Starts.{AllRun, Rising, Started, refusal_notices, refusals, starts}
use Rattle.exec_turn.specs.Turn.{EachPolled, IsFinish, IsTurn, PickedAt, TurnKind}
use Rattle.exec_ledger.specs.BatchStarts.{Moves, RecordsBatch, BatchStart, due_after_all}
use Rattle.exec_turn.specs.declared.buffers.TurnBuffers.{TurnBuffers}
use Rattle.exec_turn.specs.declared.picks.StartOf.{StartOf}

-- the agent processes of all running actions live, all that were given up were ended, and the next run number is above every run
-- whose start was requested
pub record ChildrenMatch (s : State) (v : ChildrenView) : Type 0 where
  pub agents_live : AgentsLive s v.live
  pub ended : v.given_up ≡ []
  pub rising : v.last_run < s.next_run

-- In the three batches `k` and `l` are the store before and after, `x` and `y` the views (`BatchStart`) before and after, and
-- `from` and `to` the children before and after.

-- The first batch: polls, and their results.
pub record PollsBatch {S : Type 0} (view : S → StoreView) (k l : S) (x y : BatchStart) (from to : ChildrenView) (reported : List Notice)
    (result : Result Unit StoreFault) : Type 0 where
  pub answers : List Polled
  pub each : EachPolled x answers
  pub book : to.book ≡ from.book ++ polls x.at answers
  pub log : to.log ≡ from.log ++ polls x.at answers
  pub room : to.room ≡ from.room - length (polls x.at answers)
  pub site : to.site ≡ from.site
  pub left : from.room ≤ to.room + 2 * length x.state.resources
  pub moves : Moves x y (results x.at answers) result
  pub crash : CrashCondition view k l x.state y.state (record (batch_effects (is_ok result) (results x.at answers)) { entries = polls x.at answers })
  pub cause : OnErr result (Increased (view k).failures (view l).failures)
  pub reported_is : reported ≡ (if is_ok result then result_notices x.at answers else [])

-- The second batch: the actions begun while these resources are held, by what ended the picks, and their begins.
pub record BeginsBatch {S : Type 0} (view : S → StoreView) (held : List (List ℕ)) (k l : S) (x y : BatchStart) (begun : List Active) (result : Result TurnEnd StoreFault) : Type 0 where
  pub end : TurnEnd
  pub ended : IfOk result (λ reported. reported ≡ end)
  pub picked : PickedAt held end x begun
  pub recorded : RecordsBatch view k l x y (begins x.at begun) result

-- These may be started: each runs, has the launch of its action, and a run above all whose start was requested; the agent
-- processes of all other running actions live, and all that were given up were ended.
pub record Startable (s : State) (v : ChildrenView) (begun : List (StartOf Call)) : Type 0 where
  pub run : AllRun s (actions_of_starts begun)
  pub launches : AllLaunch v.site s begun
  pub of_one : AllByRecursion HasOwnLaunch begun
  pub rising : Rising v.last_run (actions_of_starts begun)
  pub last : v.last_run < s.next_run
  pub agents_live : AgentsLiveBut s v.live (actions_of_starts begun)
  pub ended : v.given_up ≡ []

-- The third batch: starts, and the results of those that were refused.
pub record StartsBatch {S : Type 0} (view : S → StoreView) (k l : S) (x y : BatchStart) (begun : List Active) (from to : ChildrenView)
    (was reported : List Notice) (result : Result Unit StoreFault) : Type 0 where
  pub answers : List Started
  pub each : map (λ a. a.what) answers ≡ begun
  pub book : to.book ≡ from.book ++ starts (view k).clock answers
  pub log : to.log ≡ from.log ++ starts (view k).clock answers
  pub room : to.room ≡ from.room - length (starts (view k).clock answers)
  pub held : to.held ≡ from.held
  pub site : to.site ≡ from.site
  pub recorded : RecordsBatch view k l x y (refusals x.at answers) result
  pub reported_is : reported ≡ (if is_ok result then was ++ refusal_notices x.at answers else was)

-- the end of a turn whose batches were recorded, or one of which met a fault of a device
abbrev pub end_of : Result TurnEnd StoreFault → TurnEnd
end_of (Ok end) = end
end_of (Err fault) = turn_end.Disk

-- A turn of a kind, of an open executor: from the view before its first batch to a state, due moments and children, with its
-- notices. Its actions are picked while those resources are held that the children hold after it.
pub record TurnsAs {S : Type 0} (kind : TurnKind) (view : S → StoreView) (old new : S) (x : BatchStart) (t : State) (due : Due) (from to : ChildrenView)
    (reported : List Notice) (end : TurnEnd) : Type 0 where
  pub effects : Effects
  pub book : to.book ≡ from.book ++ effects.entries
  -- the log of all answers ever got the same entries; it keeps them when the book is emptied, which is never done in a turn
  pub log : to.log ≡ from.log ++ effects.entries
  -- the book has room for as many entries fewer
  pub room : to.room ≡ from.room - length effects.entries
  -- the site that the children name, if any, stays
  pub site : to.site ≡ from.site
  pub does : kind to.held end x effects reported
  -- the events that it recorded, what a crash at any moment of it leaves, and that no agent was spawned without its synced begin
  pub crash : CrashCondition view old new x.state t effects
  pub due_is : due ≡ due_after_all x.state x.due effects.events
  -- nothing is pending but after a fault of a device, which has a cause
  pub whole : end ≢ turn_end.Disk → effects.pending ≡ []
  pub cause : end ≡ turn_end.Disk → Increased (view old).failures (view new).failures

-- a turn that begins what has to begin, and one that begins nothing
abbrev pub Turns : {S : Type 0} → (S → StoreView) → S → S → BatchStart → State → Due → ChildrenView → ChildrenView → List Notice → TurnEnd → Type 0
Turns view old new x t due from to reported end = TurnsAs IsTurn view old new x t due from to reported end

abbrev pub Finishes : {S : Type 0} → (S → StoreView) → S → S → BatchStart → State → Due → ChildrenView → ChildrenView → List Notice → TurnEnd → Type 0
Finishes view old new x t due from to reported end = TurnsAs IsFinish view old new x t due from to reported end

-- the notices of the last turn
abbrev pub turn_notices : {M : Type 0} → TurnBuffers M → List Notice
turn_notices buffers = buffers.notices.items
