-- The end of an action that was run once, and the exit status that reports it.
use Rattle.std.specs.Prelude.{◌≡◌, ◌+◌, ◌%◌, ℕ, ⊤, List, [], ◌∷◌, ◌++◌, Option, Some, None, Result, Ok, Err, pos}
use Rattle.std.specs.Process.{exit_code}
use Rattle.std.specs.declared.io.Error.{Error}
use Rattle.std.specs.declared.process.ExitStatus.{ExitStatus}
use Rattle.agent_system.specs.Ends.{signal_of}
use Rattle.agent_system.specs.SystemView.{Polled, SystemView}
use Rattle.agent_system.specs.declared.agent_process.AgentProcess.{AgentProcess}
use Rattle.agent_metadata.specs.Asking.{IsAlone, IsIdle}
use Rattle.exec_once.specs.declared.ending.OnceEnd.{OnceEnd}
use Rattle.exec_once.specs.declared.ending.OnceEnd.TheVariants.{Exited, Signaled, TimedOut, Lost, NotStarted}

-- the exit status of an end: the agent's own code; 128 plus the number of the signal; 124 after its timeout; 125 if the end is not known or
-- nothing ran
abbrev pub once_status : OnceEnd → ℕ
once_status (Exited code) = code
once_status (Signaled signal) = 128 + signal % 128
once_status TimedOut = 124
once_status Lost = 125
once_status NotStarted = 125

-- the report of an end by its status: its exit code, or where it has none the signal that ended the agent
abbrev pub ReportsStatus : ExitStatus → OnceEnd → Type 0
ReportsStatus status (Exited code) = exit_code status ≡ Some (pos code)
ReportsStatus status (Signaled signal) = (exit_code status ≡ None) × (signal_of status ≡ pos signal)
ReportsStatus status _ = ⊥

-- the agent has not ended
abbrev pub IsTimeout : OnceEnd → Type 0
IsTimeout TimedOut = ⊤
IsTimeout _ = ⊥

-- the end is not known
abbrev pub IsLost : OnceEnd → Type 0
IsLost Lost = ⊤
IsLost _ = ⊥

-- the report of an end by the system's answer to a poll: a timeout only if the agent had not ended, and an end that is not known only if the
-- poll failed
abbrev pub IsEndBy : Result (Option ExitStatus) Error → OnceEnd → Type 0
IsEndBy (Ok (Some status)) end = ReportsStatus status end
IsEndBy (Ok None) end = IsTimeout end
IsEndBy (Err error) end = IsLost end

-- the last poll is of this process, and the end is reported by the system's answer to it
pub record EndsAs (v : SystemView) (p : AgentProcess) (end : OnceEnd) : Type 0 where
  pub before : List Polled
  pub answer : Result (Option ExitStatus) Error
  pub polled : v.polled ≡ before ++ record { process = p; answer = answer } ∷ []
  pub is : IsEndBy answer end

-- an agent of which no status came lives still
abbrev pub IsLeft : SystemView → AgentProcess → OnceEnd → Type 0
IsLeft v p TimedOut = IsAlone v.sights p
IsLeft v p Lost = IsAlone v.sights p
IsLeft v p end = IsIdle v.sights
