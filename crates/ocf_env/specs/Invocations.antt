-- The invocation of an agent, from its registration and the site. OCF Resource Agent API 1.1, invocation.
use Rattle.std.specs.Prelude.{◌≡◌, ◌↔◌, ℕ, List, Contains, IsTrue}
use Rattle.ocf_types.specs.Actions.{action_word}
use Rattle.ocf_types.specs.Kinds.{Registration}
use Rattle.ocf_types.specs.declared.operation.Running.{Running}
use Rattle.ocf_env.specs.Locations.{Call, SiteView}
use Rattle.ocf_env.specs.Programs.{agent_path, program_at, arguments_at}
use Rattle.ocf_env.specs.MetaVariables.{IsGiven}
use Rattle.ocf_env.specs.Variables.{are_ascending}

-- an invocation of the agent of a registration for an action: its program and arguments, and an environment that is sorted
-- and has exactly the variables that the action is given
pub record IsInvocation (site : SiteView) (r : Registration) (running : Running) (call : Call) : Type 0 where
  pub program : call.program ≡ program_at site.via (agent_path site.root r.provider r.agent)
  pub arguments : call.arguments ≡ arguments_at site.via (agent_path site.root r.provider r.agent) (action_word running.task.action)
  pub sorted : IsTrue (are_ascending call.environment)
  pub variables : (name value : List ℕ) → Contains call.environment (name, value) ↔ IsGiven site r running name value
