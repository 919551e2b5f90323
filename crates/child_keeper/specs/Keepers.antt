-- Agents as processes of a system, with their book and their waits: what is kept true between calls, and how a call changes it.
use Rattle.std.specs.Prelude.{◌≡◌, ◌⊎◌, ◌≤◌, ◌<◌, ◌+◌, ◌*◌, ℕ, List, [], ◌∷◌, ◌++◌, Option, Some, None, ⊤, Result, Ok, Err, All, Contains, drop, map, take, vec_len}
use Rattle.std.specs.declared.io.Error.{Error}
use Rattle.std.specs.declared.process.ExitStatus.{ExitStatus}
use Rattle.agent_system.specs.Commands.{leader_of}
use Rattle.agent_system.specs.Ends.{IsPollOf}
use Rattle.agent_system.specs.Histories.{HaveOwnRuns, processes_of}
use Rattle.agent_system.specs.Sights.{Sights}
use Rattle.agent_system.specs.SystemView.{Spawned, SystemView, after_give_up, after_let_run, after_poll, after_spawn}
use Rattle.agent_system.specs.declared.agent_process.AgentProcess.{AgentProcess}
use Rattle.child_keeper.specs.Agents.{IsIts, agent_processes, just_given_up, runs_of}
use Rattle.child_keeper.specs.Waits.{IsFresh, IsWaitFor, ids_of}
use Rattle.child_keeper.specs.declared.agents.Agent.{Agent}
use Rattle.child_keeper.specs.declared.keeper.Keeper.{Keeper}
use Rattle.child_keeper.specs.declared.wait.WaitOf.{WaitOf}
use Rattle.child_model.specs.Children.{ChildrenView, live_limit}
use Rattle.child_model.specs.declared.answer.Answer.{Answer}
use Rattle.child_model.specs.declared.answer.Answer.TheVariants as asked
use Rattle.child_model.specs.declared.answer.Entry.{Entry}
use Rattle.child_model.specs.declared.answer.Poll.{Poll}
use Rattle.ocf_env.specs.Locations.{Call}
use Rattle.ocf_env.specs.declared.launches.LaunchOf.{LaunchOf}
use Rattle.ocf_types.specs.declared.outcome.StartFault.{StartFault}
use Rattle.ocf_types.specs.declared.outcome.StartFault.TheVariants.{Other}
use Rattle.process_ends.specs.Endings.{HasKilled, IsMatched, OnlyEnds, given_up_of}
use Rattle.process_ends.specs.declared.given_up.GivenUpAction.{GivenUpAction}

-- the children of a keeper, as an executor sees them. A resource is held from the `end_killed` on after which its action was given up
abbrev pub children_of : {R C M : Type 0} → Keeper R C M → ChildrenView
children_of k = record {
  book = k.book.entries.items;
  log = k.book.log.items;
  room = k.book.room;
  last_run = k.last_run;
  live = runs_of k.agents.agents.items;
  given_up = runs_of k.agents.given_up.items;
  held = take k.shown (ids_of k.waits.waits.items);
  site = None;
}

-- the run of an entry, if it is that of a start that succeeded
abbrev pub run_started : Answer → ℕ → List ℕ
run_started (asked.Start (Ok x)) run = run ∷ []
run_started (asked.Start (Err fault)) run = []
run_started (asked.Poll answer) run = []
run_started (asked.Kill answer) run = []

-- the runs that were started, by a log, in order
abbrev pub started_runs : List Entry → List ℕ
started_runs [] = []
started_runs (e ∷ es) = run_started e.answer e.run ++ started_runs es

-- the runs of these processes
abbrev pub process_runs : List AgentProcess → List ℕ
process_runs = map (λ p. p.run)

-- these agents are all that live, each with its own process
pub record AreLive {C : Type 0} (process_of : C → AgentProcess) (s : Sights) (agents : List (Agent C)) : Type 0 where
  pub are : s.live ≡ agent_processes agents
  pub its : All (IsIts process_of) agents

-- these waits, and then these agents, are all that was given up
pub record AreEnding {C M : Type 0} (process_of : C → AgentProcess) (s : Sights) (waits : List (GivenUpAction WaitOf C M)) (agents : List (Agent C)) : Type 0 where
  pub are : s.given_up ≡ map given_up_of waits ++ map just_given_up agents
  pub matched : All (IsMatched process_of) waits
  pub its : All (IsIts process_of) agents

-- no two of these processes have the same run
abbrev pub AreDistinct : List AgentProcess → Type 0
AreDistinct live = (p q : AgentProcess) → Contains live p → Contains live q → p.run ≡ q.run → p ≡ q

-- No agent was asked for anything but a run, and each that was spawned is of a run of its own, of those up to the last.
pub record AreNumbered (v : SystemView) (last_run : ℕ) : Type 0 where
  pub unasked : v.asked ≡ []
  pub runs : All (λ p. p.run ≤ last_run) (processes_of v)
  pub distinct : HaveOwnRuns (processes_of v)

-- The invariant: what lives and what was given up, as the system shows it, are the keeper's agents and waits, there is capacity for all of
-- them to wait, and just those runs were let run that the log says were started.
pub record KeeperInvariant {R C M : Type 0} (view : R → SystemView) (process_of : C → AgentProcess) (k : Keeper R C M) : Type 0 where
  pub live : AreLive process_of (view k.rt).sights k.agents.agents.items
  pub given_up : AreEnding process_of (view k.rt).sights k.waits.waits.items k.agents.given_up.items
  pub runs : All (λ p. p.run ≤ k.last_run) (view k.rt).sights.live
  pub distinct : AreDistinct (view k.rt).sights.live
  pub room : vec_len k.waits.waits + (vec_len k.agents.agents + vec_len k.agents.given_up) ≤ 3 * live_limit
  pub shown : k.shown ≤ vec_len k.waits.waits
  pub fresh : All IsFresh (drop k.shown k.waits.waits.items)
  pub started : process_runs (view k.rt).let_run ≡ started_runs k.book.log.items
  pub numbered : AreNumbered (view k.rt) k.last_run

-- nothing was spawned, runs, was given up or was let run
pub record IsIdle (v : SystemView) : Type 0 where
  pub live : v.sights.live ≡ []
  pub given_up : v.sights.given_up ≡ []
  pub let_run : v.let_run ≡ []
  pub spawned : v.spawned ≡ []
  pub asked : v.asked ≡ []

-- an agent was spawned for a launch, and let run
pub record IsStarted (launch : LaunchOf Call) (leader : Option (List ℕ)) (v w : SystemView) : Type 0 where
  pub process : AgentProcess
  pub run : process.run ≡ launch.run
  pub id : process.id ≡ launch.id
  pub after : w ≡ after_let_run (after_spawn v launch.invocation leader (Some process)) process (Ok tt)

-- an agent was spawned for a launch, but not let run: it was given up and killed
pub record IsGivenBack (launch : LaunchOf Call) (leader : Option (List ℕ)) (v w : SystemView) : Type 0 where
  pub process : AgentProcess
  pub run : process.run ≡ launch.run
  pub id : process.id ≡ launch.id
  pub after : OnlyEnds (after_give_up (after_spawn v launch.invocation leader (Some process)) process) w
  pub killed : HasKilled v w process

-- the system after the start of a launch, by its answer: its agent was spawned and let run; or none was spawned, or one that was given up
-- and killed
abbrev pub StartsAs : LaunchOf Call → Option (List ℕ) → Result Unit StartFault → SystemView → SystemView → Type 0
StartsAs launch leader (Ok x) v w = IsStarted launch leader v w
StartsAs launch leader (Err fault) v w = (w ≡ v) ⊎ IsGivenBack launch leader v w

-- an agent was spawned for a launch and let run: this one
pub record IsBegun {C : Type 0} (process_of : C → AgentProcess) (launch : LaunchOf Call) (leader : Option (List ℕ)) (v w : SystemView) (agent : Agent C) : Type 0 where
  pub its : IsIts process_of agent
  pub run : agent.process.run ≡ launch.run
  pub id : agent.process.id ≡ launch.id
  pub after : w ≡ after_let_run (after_spawn v launch.invocation leader (Some agent.process)) agent.process (Ok tt)

-- a keeper after its begin of a launch, whose run is not the last yet: with an agent that was let run and is not among its agents yet; or
-- without one, as StartsAs says
abbrev pub BeginsAs : {R C M : Type 0} → (R → SystemView) → (C → AgentProcess) → LaunchOf Call → Keeper R C M → Keeper R C M → Result (Agent C) Error → Type 0
BeginsAs view process_of launch old new (Ok agent) =
    IsBegun process_of launch (leader_of old.leading) (view old.rt) (view new.rt) agent × (new.waits ≡ old.waits)
    × (vec_len old.waits.waits + vec_len old.agents.agents < 3 * live_limit)
BeginsAs view process_of launch old new (Err error) =
    KeeperInvariant view process_of (record new { last_run = launch.run }) × (take old.shown (ids_of new.waits.waits.items) ≡ take old.shown (ids_of old.waits.waits.items))
    × StartsAs launch (leader_of old.leading) (Err Other) (view old.rt) (view new.rt)

-- after an answer that the system failed to give, the process is given up
abbrev pub after_answer : Result (Option ExitStatus) Error → AgentProcess → SystemView → SystemView
after_answer (Ok status) p v = v
after_answer (Err error) p v = after_give_up v p

-- the agent of a run was polled, with this result
pub record IsPolled (run : ℕ) (result : Poll) (v w : SystemView) : Type 0 where
  pub process : AgentProcess
  pub lives : Contains v.sights.live process
  pub its : process.run ≡ run
  pub answer : Result (Option ExitStatus) Error
  pub poll : IsPollOf result answer
  pub after : w ≡ after_answer answer process (after_poll v process answer)

-- the agent of a run was given up
pub record IsGivenUp (run : ℕ) (v w : SystemView) : Type 0 where
  pub process : AgentProcess
  pub lives : Contains v.sights.live process
  pub its : process.run ≡ run
  pub after : w ≡ after_give_up v process

-- an agent of this run was given up, and appended to those that were
pub record IsMoved {C : Type 0} (process_of : C → AgentProcess) (run : ℕ) (v w : SystemView) (old new : List (Agent C)) : Type 0 where
  pub agent : Agent C
  pub lives : Contains v.sights.live agent.process
  pub its : IsIts process_of agent
  pub run_is : agent.process.run ≡ run
  pub appended : new ≡ old ++ agent ∷ []
  pub after : w ≡ after_give_up v agent.process

-- all agents were given up, and appended to those that were; each process that lived is one of theirs
pub record GivesUpAll {C : Type 0} (process_of : C → AgentProcess) (v w : SystemView) (old new : List (Agent C)) : Type 0 where
  pub agents : List (Agent C)
  pub its : All (IsIts process_of) agents
  pub appended : new ≡ old ++ agents
  pub all : (p : AgentProcess) → Contains v.sights.live p → Contains (agent_processes agents) p
  pub after : w ≡ record v { sights = record v.sights { live = []; given_up = v.sights.given_up ++ map just_given_up agents } }

-- a wait was appended for each of these agents
abbrev pub AreFor : {C M : Type 0} → List (Agent C) → List (GivenUpAction WaitOf C M) → Type 0
AreFor [] [] = ⊤
AreFor (a ∷ agents) (w ∷ waits) = IsWaitFor a w × AreFor agents waits
AreFor _ _ = ⊥

abbrev pub AreWaitsFor : {C M : Type 0} → List (Agent C) → List (GivenUpAction WaitOf C M) → List (GivenUpAction WaitOf C M) → Type 0
AreWaitsFor {C} {M} agents old new = (more : List (GivenUpAction WaitOf C M)) × (new ≡ old ++ more) × AreFor agents more

-- what was given up since that many were shown was killed, and nothing else was asked of the system
pub record EndsFrom (shown : ℕ) (v w : SystemView) : Type 0 where
  pub ends : OnlyEnds v w
  pub killed : All (λ u. HasKilled v w u.process) (drop shown v.sights.given_up)

-- all that lived, and what was given up since that many were shown, was killed, and nothing else was asked of the system
pub record EndsAll (shown : ℕ) (v w : SystemView) : Type 0 where
  pub live : w.sights.live ≡ []
  pub own : w.sights.own ≡ v.sights.own
  pub spawned : w.spawned ≡ v.spawned
  pub asked : w.asked ≡ v.asked
  pub let_run : w.let_run ≡ v.let_run
  pub polled : w.polled ≡ v.polled
  pub found : w.found ≡ v.found
  pub killed_live : All (HasKilled v w) v.sights.live
  pub killed : All (λ u. HasKilled v w u.process) (drop shown v.sights.given_up)
