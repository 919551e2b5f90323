-- The environment of an agent, as a set of names with values.
use Rattle.std.specs.Prelude.{◌≡◌, ℕ, ◌&&◌, Bool, true, List, [], ◌∷◌, ◌++◌, codes, decimal, Option, Some, None, Contains}
use Rattle.ocf_types.specs.Params.{is_after}
use Rattle.ocf_types.specs.Actions.{level_number}
use Rattle.ocf_types.specs.Kinds.{Registration}
use Rattle.ocf_types.specs.declared.action.Task.{Task}
use Rattle.ocf_types.specs.declared.action.Action.TheVariants.{Monitor}
use Rattle.ocf_env.specs.Locations.{SiteView, Pair}

-- the variable of a parameter: OCF Resource Agent API 1.1, OCF_RESKEY_
abbrev pub reskey : List ℕ → List ℕ
reskey name = codes "OCF_RESKEY_" ++ name

-- a variable of every invocation of an agent: OCF Resource Agent API 1.1, environment variables; PATH is this profile's own
pub data IsAgentVariable (site : SiteView) (provider agent : List ℕ) : List ℕ → List ℕ → Type 0 where
  major : IsAgentVariable site provider agent (codes "OCF_RA_VERSION_MAJOR") (codes "1")
  minor : IsAgentVariable site provider agent (codes "OCF_RA_VERSION_MINOR") (codes "1")
  of_provider : IsAgentVariable site provider agent (codes "OCF_RESOURCE_PROVIDER") provider
  of_type : IsAgentVariable site provider agent (codes "OCF_RESOURCE_TYPE") agent
  below_root : IsAgentVariable site provider agent (codes "OCF_ROOT") site.root
  with_path : IsAgentVariable site provider agent (codes "PATH") site.path

-- a variable of an action: one of these, the level of a monitor, the instance, or a parameter
pub data IsVariable (site : SiteView) (r : Registration) (task : Task) : List ℕ → List ℕ → Type 0 where
  of_agent : {name value : List ℕ} → IsAgentVariable site r.provider r.agent name value → IsVariable site r task name value
  level : task.action ≡ Monitor → IsVariable site r task (codes "OCF_CHECK_LEVEL") (decimal (level_number task.check.level))
  instance : IsVariable site r task (codes "OCF_RESOURCE_INSTANCE") r.id
  parameter : {name value : List ℕ} → Contains r.params (name, value) → IsVariable site r task (reskey name) value

-- the names strictly ascend by their bytes, the first after `last`
abbrev pub are_ascending_after : Option (List ℕ) → List Pair → Bool
are_ascending_after last [] = true
are_ascending_after last (x ∷ xs) = is_after last x.0 && are_ascending_after (Some x.0) xs

-- the pairs are sorted by name, so no name occurs twice
abbrev pub are_ascending : List Pair → Bool
are_ascending = are_ascending_after None
