-- The variables of an action that Pacemaker sets in addition to those of the standard.
use Rattle.std.specs.Prelude.{◌≡◌, true, ℕ, List, codes, decimal}
use Rattle.ocf_types.specs.Actions.{action_word}
use Rattle.ocf_types.specs.Kinds.{Registration}
use Rattle.ocf_types.specs.declared.operation.Running.{Running}
use Rattle.ocf_env.specs.Locations.{SiteView}
use Rattle.ocf_env.specs.Variables.{IsVariable}

-- The name of the action, its interval in milliseconds, which is 0 for a one-time action, and its timeout in milliseconds. Pacemaker
-- sets them in addition to those that Pacemaker Explained names; agents of the package resource-agents read them, as in ocf_is_probe.
pub data IsMetaVariable (running : Running) : List ℕ → List ℕ → Type 0 where
  interval : IsMetaVariable running (codes "OCF_RESKEY_CRM_meta_interval") (decimal running.interval)
  name : IsMetaVariable running (codes "OCF_RESKEY_CRM_meta_name") (action_word running.task.action)
  timeout : IsMetaVariable running (codes "OCF_RESKEY_CRM_meta_timeout") (decimal running.timeout)

-- a variable of an action's environment: one of its own or, if the site says so, one of Pacemaker's whose name no own variable has
pub data IsGiven (site : SiteView) (r : Registration) (running : Running) : List ℕ → List ℕ → Type 0 where
  own : {name value : List ℕ} → IsVariable site r running.task name value → IsGiven site r running name value
  meta : {name value : List ℕ} → site.meta ≡ true → IsMetaVariable running name value
      → ((other : List ℕ) → IsVariable site r running.task name other → ⊥) → IsGiven site r running name value
