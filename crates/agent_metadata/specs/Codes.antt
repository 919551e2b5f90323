-- The exit code that an agent counts as having ended with.
use Rattle.std.specs.Prelude.{◌≡◌, ℕ, List, [], ◌∷◌, ◌++◌, Some, Ok, MatchOption, pos}
use Rattle.std.specs.Process.{exit_code}
use Rattle.std.specs.declared.process.ExitStatus.{ExitStatus}
use Rattle.agent_system.specs.SystemView.{Polled, SystemView}
use Rattle.agent_system.specs.declared.agent_process.AgentProcess.{AgentProcess}

-- the exit code of a status, 1 where a signal ended the process
abbrev pub CountsAs : ExitStatus → ℕ → Type 0
CountsAs status code = MatchOption (exit_code status) (code ≡ 1) (λ told. told ≡ pos code)

-- the last poll is of this process, and the system answered with a status that counts as this exit code
pub record EndedWith (v : SystemView) (p : AgentProcess) (code : ℕ) : Type 0 where
  pub before : List Polled
  pub status : ExitStatus
  pub polled : v.polled ≡ before ++ record { process = p; answer = Ok (Some status) } ∷ []
  pub counts : CountsAs status code
