-- The view of agents as processes of the system.
use Rattle.std.specs.Prelude.{◌≡◌, ◌≢◌, ◌⊎◌, ℕ, List, [], ◌++◌, Option, None, Contains, drop, length, map, take}
use Rattle.agent_system.specs.Histories.{AllPairs, AreApart, IsFound, IsKnownOrOver, WasOver, WasSeenEnded, known_in, processes_of as spawned_in}
use Rattle.agent_system.specs.SystemView.{SystemView, unasked}
use Rattle.agent_system.specs.declared.agent_process.AgentProcess.{AgentProcess}
use Rattle.agent_system.specs.Sights.{GivenUp}
use Rattle.agent_system.specs.declared.agent_process.AgentProcess.{AgentProcess}
use Rattle.child_keeper.specs.Keepers.{process_runs, started_runs}
use Rattle.child_model.specs.Children.{ChildrenView}

-- the children as an executor sees them, all that was asked of the system, and the program that makes agents leaders, if there is one
pub record ProcessesView : Type 0 where
  pub children : ChildrenView
  pub system : SystemView
  pub leader : Option (List ℕ)

-- the children
abbrev pub processes_of : ProcessesView → ChildrenView
processes_of v = v.children

-- the ids of the resources of what was given up
abbrev pub given_up_ids : List GivenUp → List (List ℕ)
given_up_ids = map (λ u. u.process.id)

-- the processes of what was given up
abbrev pub given_up_processes : List GivenUp → List AgentProcess
given_up_processes = map (λ u. u.process)

-- the runs of what was given up
abbrev pub given_up_runs : List GivenUp → List ℕ
given_up_runs = map (λ u. u.process.run)

-- what the system shows is what the children say: the live runs, the resources held, those that were given up last, and the runs that were
-- let run
pub record ProcessesInvariant (v : ProcessesView) : Type 0 where
  pub live : process_runs v.system.sights.live ≡ v.children.live
  pub held : take (length v.children.held) (given_up_ids v.system.sights.given_up) ≡ v.children.held
  pub given_up : (between : List ℕ) × (drop (length v.children.held) (given_up_runs v.system.sights.given_up) ≡ between ++ v.children.given_up)
  pub started : process_runs v.system.let_run ≡ started_runs v.children.log

-- its end was seen, or it was over
abbrev pub WasEnded : SystemView → AgentProcess → Type 0
WasEnded v p = WasSeenEnded v p ⊎ WasOver (unasked v.sights.own) v p

-- One action of each resource has processes at a time, as far as the system's answers say: no two of one resource are known, and each that
-- was spawned is known until it has ended. So each other one that was spawned for the resource of one that is known has ended. An entry of
-- the record of who runs, which is of no spawn of this process, is not spoken of.
pub record RunOneAtATime (v : SystemView) : Type 0 where
  pub apart : AllPairs (AreApart v) (known_in v)
  pub over : (p : AgentProcess) → Contains (spawned_in v) p → IsKnownOrOver (unasked v.sights.own) v p
  pub one : (p q : AgentProcess) → Contains (known_in v) p → Contains (spawned_in v) q → q.id ≡ p.id → q ≢ p
      → ¬ (IsFound v p) → ¬ (IsFound v q) → WasEnded v q

-- the view of processes that were just made, with a book of this capacity: none lives, and these resources are held
abbrev pub fresh_processes : ℕ → List (List ℕ) → ChildrenView
fresh_processes book held =
    record { book = []; log = []; room = book; last_run = 0; live = []; given_up = []; held = held; site = None }
