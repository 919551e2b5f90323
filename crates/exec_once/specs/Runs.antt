-- What is asked of the system for an action that is run once.
use Rattle.std.specs.Prelude.{⊤, ℕ, List, Option}
use Rattle.ocf_env.specs.Locations.{SiteView}
use Rattle.agent_system.specs.SystemView.{SystemView}
use Rattle.agent_system.specs.declared.agent_process.AgentProcess.{AgentProcess}
use Rattle.process_ends.specs.Endings.{HasKilled}
use Rattle.agent_metadata.specs.Asking.{AsksFor, AsksForNone}
use Rattle.exec_once.specs.Calls.{IsCallFor}
use Rattle.exec_once.specs.Ends.{EndsAs}
use Rattle.exec_once.specs.declared.call.OnceCall.{OnceCall}
use Rattle.exec_once.specs.declared.ending.OnceEnd.{OnceEnd}
use Rattle.exec_once.specs.declared.ending.OnceEnd.TheVariants.{TimedOut, Lost, NotStarted}

-- an agent of which no status came was given up and killed
abbrev pub IsKilledAt : SystemView → SystemView → AgentProcess → OnceEnd → Type 0
IsKilledAt v w p TimedOut = HasKilled v w p
IsKilledAt v w p Lost = HasKilled v w p
IsKilledAt v w p end = ⊤

-- exactly one agent was asked, by the call of this action, and let run, and this is its end
pub record RunsOnce (leader : Option (List ℕ)) (site : SiteView) (c : OnceCall) (v w : SystemView) (end : OnceEnd) : Type 0 where
  pub process : AgentProcess
  pub asks : AsksFor leader (IsCallFor site c) v w process
  pub ends : EndsAs w process end
  pub killed : IsKilledAt v w process end

-- an action was run once, or its agent was not let run
abbrev pub IsRunBy : Option (List ℕ) → SiteView → OnceCall → SystemView → SystemView → OnceEnd → Type 0
IsRunBy leader site c v w NotStarted = AsksForNone leader (IsCallFor site c) v w
IsRunBy leader site c v w end = RunsOnce leader site c v w end
