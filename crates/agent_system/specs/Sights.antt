-- What the system showed of processes, and which of them are agents' whose end is wanted.
use Rattle.std.specs.Prelude.{◌≡◌, ◌≢◌, ◌⊎◌, ◌==◌, ℕ, Bool, true, false, List, [], ◌∷◌, Option, Some, None, ⊤, if◌then◌else◌}
use Rattle.agent_system.specs.declared.agent_process.AgentProcess.{AgentProcess}
use Rattle.proc_files.specs.Processes.{IsSame}
use Rattle.proc_files.specs.declared.process.Process.{Process}

-- an answer about a number of a process: the process that has it, or that none has; `None` where neither could be read
pub record Look : Type 0 where
  pub pid : ℕ
  pub answer : Option (Option Process)

-- an agent that was given up: its process, whether that is a child of this process that was not reaped, and the processes that the
-- last search found to belong to it
pub record GivenUp : Type 0 where
  pub process : AgentProcess
  pub is_child : Bool
  pub known : List Process

-- the processes of agents that live, those that were given up, this process, the last listing, the answers about numbers, newest first,
-- and the groups of which the system said that they have no member. Listing, answers and groups are forgotten when a process is spawned or
-- reaped, since a number may be given again then
pub record Sights : Type 0 where
  pub live : List AgentProcess
  pub given_up : List GivenUp
  pub own : Option Process
  pub table : Option (List Process)
  pub looks : List Look
  pub empty : List ℕ

-- the newest answer about a number, if there is one
abbrev pub latest : List Look → ℕ → Option (Option (Option Process))
latest [] pid = None
latest (l ∷ ls) pid = if l.pid == pid then Some l.answer else latest ls pid

-- an answer shows another process than the one with this start: the number was free in between
abbrev pub IsOther : Option ℕ → Option (Option Process) → Type 0
IsOther start (Some (Some p)) = start ≢ Some p.start
IsOther start _ = ⊥

-- an answer shows that the process with this start has ended
abbrev pub HasEnded : Option ℕ → Option (Option Process) → Type 0
HasEnded start None = ⊥
HasEnded start (Some None) = ⊤
HasEnded start (Some (Some p)) = (p.has_ended ≡ true) ⊎ (start ≢ Some p.start)

-- an answer shows this process, which has not ended
abbrev pub Lives : Process → Option (Option Process) → Type 0
Lives q (Some (Some p)) = IsSame p q × (p.has_ended ≡ false)
Lives q _ = ⊥
