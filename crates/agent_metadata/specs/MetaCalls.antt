-- The call that asks an agent for its metadata.
use Rattle.std.specs.Prelude.{◌≡◌, ◌↔◌, ℕ, List, Contains, IsTrue, codes}
use Rattle.ocf_env.specs.Locations.{Call, SiteView}
use Rattle.ocf_env.specs.Programs.{agent_path, arguments_at, program_at}
use Rattle.ocf_env.specs.Variables.{IsAgentVariable, are_ascending}

-- a call asks an agent for its metadata, with the variables of no instance
pub record IsMetaCall (site : SiteView) (provider : List ℕ) (agent : List ℕ) (call : Call) : Type 0 where
  pub program : call.program ≡ program_at site.via (agent_path site.root provider agent)
  pub arguments : call.arguments ≡ arguments_at site.via (agent_path site.root provider agent) (codes "meta-data")
  pub sorted : IsTrue (are_ascending call.environment)
  pub variables : (name value : List ℕ) → Contains call.environment (name, value) ↔ IsAgentVariable site provider agent name value
