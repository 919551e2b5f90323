-- The environment as a list, in the order in which it is filled.
use Rattle.std.specs.Prelude.{ℕ, List, [], ◌∷◌, ◌++◌, map, codes, decimal, count_by, insert, if◌then◌else◌, bytes_eq}
use Rattle.std.specs.List.{list_any}
use Rattle.ocf_types.specs.Params.{ParamList, is_before}
use Rattle.ocf_types.specs.Actions.{action_word, is_monitor, level_number}
use Rattle.ocf_types.specs.Kinds.{Registration}
use Rattle.ocf_types.specs.declared.action.Task.{Task}
use Rattle.ocf_types.specs.declared.operation.Running.{Running}
use Rattle.ocf_env.specs.Locations.{SiteView, Pair}
use Rattle.ocf_env.specs.Variables.{reskey}

-- OCF Resource Agent API 1.1, OCF_CHECK_LEVEL: for a monitor only
abbrev pub level_pairs : Task → List Pair
level_pairs task =
    if is_monitor task.action then (codes "OCF_CHECK_LEVEL", decimal (level_number task.check.level)) ∷ [] else []

-- OCF Resource Agent API 1.1, OCF_RA_VERSION_MAJOR and OCF_RA_VERSION_MINOR
abbrev pub version_pairs : List Pair
version_pairs = (codes "OCF_RA_VERSION_MAJOR", codes "1") ∷ (codes "OCF_RA_VERSION_MINOR", codes "1") ∷ []

-- OCF Resource Agent API 1.1, OCF_RESKEY_
abbrev pub param_pairs : ParamList → List Pair
param_pairs = map (λ p. (reskey p.0, p.1))

-- OCF Resource Agent API 1.1, OCF_RESOURCE_INSTANCE
abbrev pub instance_pair : List ℕ → Pair
instance_pair id = (codes "OCF_RESOURCE_INSTANCE", id)

-- OCF Resource Agent API 1.1, OCF_RESOURCE_TYPE; Pacemaker's OCF_RESOURCE_PROVIDER
abbrev pub agent_pairs : List ℕ → List ℕ → List Pair
agent_pairs provider agent = (codes "OCF_RESOURCE_PROVIDER", provider) ∷ (codes "OCF_RESOURCE_TYPE", agent) ∷ []

-- OCF Resource Agent API 1.1, OCF_ROOT; this profile's PATH
abbrev pub site_pairs : SiteView → List Pair
site_pairs site = (codes "OCF_ROOT", site.root) ∷ (codes "PATH", site.path) ∷ []

-- the end of each environment
abbrev pub last_pairs : SiteView → List ℕ → List ℕ → List Pair
last_pairs site provider agent = agent_pairs provider agent ++ site_pairs site

-- the parameters and what comes after them
abbrev pub instance_pairs : SiteView → Registration → List Pair
instance_pairs site r = param_pairs r.params ++ instance_pair r.id ∷ last_pairs site r.provider r.agent

-- all variables of an action, in order
unfoldable pub action_pairs : SiteView → Registration → Task → List Pair
action_pairs site r task = level_pairs task ++ (version_pairs ++ instance_pairs site r)

-- all variables of meta-data, in order
unfoldable pub meta_pairs : SiteView → List ℕ → List ℕ → List Pair
meta_pairs site provider agent = version_pairs ++ last_pairs site provider agent

-- the list with one more pair, inserted in the order of names unless its name is in the list
abbrev pub with_new : Pair → List Pair → List Pair
with_new p xs =
    if list_any (λ x. bytes_eq x.0 p.0) xs then xs else insert xs (count_by (λ x. is_before x.0 p.0) xs) p

-- Pacemaker's variables of an action
abbrev pub interval_pair : Running → Pair
interval_pair running = (codes "OCF_RESKEY_CRM_meta_interval", decimal running.interval)

abbrev pub name_pair : Running → Pair
name_pair running = (codes "OCF_RESKEY_CRM_meta_name", action_word running.task.action)

abbrev pub timeout_pair : Running → Pair
timeout_pair running = (codes "OCF_RESKEY_CRM_meta_timeout", decimal running.timeout)

-- the list with these three, each unless its name is in the list
unfoldable pub with_meta : Running → List Pair → List Pair
with_meta running xs = with_new (timeout_pair running) (with_new (name_pair running) (with_new (interval_pair running) xs))
