-- The list of the environment has exactly the variables of the set.
use Rattle.std.proofs.Common.{◌≡◌, ◌⊎◌, inl, inr, ℕ, Bool, true, false, if◌then◌else◌, List, [], ◌∷◌, ◌++◌, refl, subst, ap, codes, decimal, ◌↔◌}
use Rattle.std.specs.List.{Contains}
use Rattle.ocf_types.specs.Params.{ParamList}
use Rattle.ocf_types.specs.Actions.{is_monitor, level_number}
use Rattle.ocf_types.specs.Kinds.{Registration}
use Rattle.ocf_types.specs.declared.action.Task.{Task}
use Rattle.ocf_types.specs.declared.action.Action.TheVariants.{Monitor}
use Rattle.ocf_env.specs.Locations.{SiteView, Pair}
use Rattle.ocf_env.specs.Variables.{reskey, IsAgentVariable, IsVariable, major, minor, of_provider, of_type, below_root, with_path}
use Rattle.ocf_env.specs.Variables.{of_agent, level, instance, parameter}
use Rattle.ocf_env.specs.Lists.{level_pairs, version_pairs, param_pairs, instance_pair, last_pairs, instance_pairs, action_pairs}
use Rattle.ocf_env.specs.Lists.{meta_pairs}
use Rattle.ocf_types.specs.Lemmas.{monitor_is}
use Rattle.ocf_env.proofs.Amongs.{Among, among, contained, among_left, among_right, among_cases}

-- the variables of every invocation, in the two segments of a list that have them
record InParts (site : SiteView) (provider agent : List ℕ) (x : Pair) : Type 0 where
  here : Among x version_pairs ⊎ Among x (last_pairs site provider agent)

in_parts : (site : SiteView) (provider agent name value : List ℕ) → IsAgentVariable site provider agent name value
    → InParts site provider agent (name, value)
in_parts site provider agent name value major = record { here = inl (inl refl) }
in_parts site provider agent name value minor = record { here = inl (inr (inl refl)) }
in_parts site provider agent name value of_provider = record { here = inr (inl refl) }
in_parts site provider agent name value of_type = record { here = inr (inr (inl refl)) }
in_parts site provider agent name value below_root = record { here = inr (inr (inr (inl refl))) }
in_parts site provider agent name value with_path = record { here = inr (inr (inr (inr (inl refl)))) }

version_only : (site : SiteView) (provider agent : List ℕ) (x : Pair) → Among x version_pairs → IsAgentVariable site provider agent x.0 x.1
version_only site provider agent x (inl e) = subst (λ (p : Pair). IsAgentVariable site provider agent p.0 p.1) e major
version_only site provider agent x (inr (inl e)) = subst (λ (p : Pair). IsAgentVariable site provider agent p.0 p.1) e minor
version_only site provider agent x (inr (inr a)) = absurd a

last_only : (site : SiteView) (provider agent : List ℕ) (x : Pair) → Among x (last_pairs site provider agent)
    → IsAgentVariable site provider agent x.0 x.1
last_only site provider agent x (inl e) = subst (λ (p : Pair). IsAgentVariable site provider agent p.0 p.1) e of_provider
last_only site provider agent x (inr (inl e)) = subst (λ (p : Pair). IsAgentVariable site provider agent p.0 p.1) e of_type
last_only site provider agent x (inr (inr (inl e))) = subst (λ (p : Pair). IsAgentVariable site provider agent p.0 p.1) e below_root
last_only site provider agent x (inr (inr (inr (inl e)))) = subst (λ (p : Pair). IsAgentVariable site provider agent p.0 p.1) e with_path
last_only site provider agent x (inr (inr (inr (inr a)))) = absurd a

meta_among : (site : SiteView) (provider agent : List ℕ) (x : Pair) → InParts site provider agent x
    → Among x (version_pairs ++ last_pairs site provider agent)
meta_among site provider agent x h =
    elim h.here [
      | inl a ↦ among_left version_pairs (last_pairs site provider agent) x a
      | inr a ↦ among_right version_pairs
          (last_pairs site provider agent) x a
    ]

meta_only : (site : SiteView) (provider agent : List ℕ) (x : Pair) → Among x version_pairs ⊎ Among x (last_pairs site provider agent)
    → IsAgentVariable site provider agent x.0 x.1
meta_only site provider agent x (inl a) = version_only site provider agent x a
meta_only site provider agent x (inr a) = last_only site provider agent x a

pub meta_members : (site : SiteView) (provider agent name value : List ℕ) → Contains (meta_pairs site provider agent) (name, value)
    ↔ IsAgentVariable site provider agent name value
unfolding meta_pairs
meta_members site provider agent name value = (
  λ h. meta_only site provider agent (name, value)
      (among_cases version_pairs (last_pairs site provider agent) (name, value) (among (meta_pairs site provider agent) (name, value) h)),
  λ v. contained (meta_pairs site provider agent) (name, value)
      (meta_among site provider agent (name, value) (in_parts site provider agent name value v)),
)

-- parameters
abbrev reskeyed : Pair → Pair
reskeyed p = (reskey p.0, p.1)

param_among : (ps : ParamList) (name value : List ℕ) → Among (name, value) ps → Among (reskey name, value) (param_pairs ps)
param_among [] name value a = absurd a
param_among (p ∷ ps) name value (inl e) = inl (ap (λ (q : Pair). reskeyed q) e)
param_among (p ∷ ps) name value (inr a) = inr (param_among ps name value a)

param_from : (ps : ParamList) (x : Pair) → Among x (param_pairs ps) → (p : Pair) × (Among p ps) × ((reskey p.0, p.1) ≡ x)
param_from [] x a = absurd a
param_from (p ∷ ps) x (inl e) = (p, inl refl, e)
param_from (p ∷ ps) x (inr a) = let f = param_from ps x a in (f.0, inr f.1, f.2)

abbrev following : SiteView → Registration → List Pair
following site r = instance_pair r.id ∷ last_pairs site r.provider r.agent

-- a pair in a segment of the list is in the list
from_level : (site : SiteView) (r : Registration) (t : Task) (x : Pair) → Among x (level_pairs t) → Among x (action_pairs site r t)
unfolding action_pairs
from_level site r t x a = among_left (level_pairs t) (version_pairs ++ instance_pairs site r) x a

from_version : (site : SiteView) (r : Registration) (t : Task) (x : Pair) → Among x version_pairs → Among x (action_pairs site r t)
unfolding action_pairs
from_version site r t x a =
    among_right (level_pairs t) (version_pairs ++ instance_pairs site r) x (among_left version_pairs (instance_pairs site r) x a)

from_rest : (site : SiteView) (r : Registration) (t : Task) (x : Pair) → Among x (instance_pairs site r) → Among x (action_pairs site r t)
unfolding action_pairs
from_rest site r t x a =
    among_right (level_pairs t) (version_pairs ++ instance_pairs site r) x (among_right version_pairs (instance_pairs site r) x a)

from_after : (site : SiteView) (r : Registration) (t : Task) (x : Pair) → Among x (following site r) → Among x (action_pairs site r t)
from_after site r t x a = from_rest site r t x (among_right (param_pairs r.params) (following site r) x a)

from_parts : (site : SiteView) (r : Registration) (t : Task) (x : Pair) → Among x version_pairs ⊎ Among x (last_pairs site r.provider r.agent)
    → Among x (action_pairs site r t)
from_parts site r t x (inl a) = from_version site r t x a
from_parts site r t x (inr a) = from_after site r t x (inr a)

level_among : (t : Task) → t.action ≡ Monitor → Among (codes "OCF_CHECK_LEVEL", decimal (level_number t.check.level)) (level_pairs t)
level_among t e = rw e (inl refl)

listed : (site : SiteView) (r : Registration) (t : Task) (name value : List ℕ) → IsVariable site r t name value
    → Among (name, value) (action_pairs site r t)
listed site r t name value (of_agent v) = from_parts site r t (name, value) (in_parts site r.provider r.agent name value v).here
listed site r t name value (level e) =
    from_level site r t (codes "OCF_CHECK_LEVEL", decimal (level_number t.check.level)) (level_among t e)
listed site r t name value instance = from_after site r t (codes "OCF_RESOURCE_INSTANCE", r.id) (inl refl)
listed site r t name value (parameter {name = p} {value = v} h) =
    from_rest site r t (reskey p, v)
    (among_left (param_pairs r.params) (following site r) (reskey p, v) (param_among r.params p v (among r.params (p, v) h)))

-- a pair in a segment of the list is a variable
level_only : (site : SiteView) (r : Registration) (t : Task) (x : Pair) → Among x (level_pairs t) → IsVariable site r t x.0 x.1
level_only site r t x a = by (is_monitor t.action) refl a
  where
    by : (b : Bool) → is_monitor t.action ≡ b
        → Among x (if b then (codes "OCF_CHECK_LEVEL", decimal (level_number t.check.level)) ∷ [] else []) → IsVariable site r t x.0 x.1
    by true e (inl f) = subst (λ (p : Pair). IsVariable site r t p.0 p.1) f (level (monitor_is t.action e))
    by true e (inr a) = absurd a
    by false e a = absurd a

params_only : (site : SiteView) (r : Registration) (t : Task) (x : Pair) → Among x (param_pairs r.params) → IsVariable site r t x.0 x.1
params_only site r t x a =
    let f = param_from r.params x a in
    subst (λ (p : Pair). IsVariable site r t p.0 p.1) f.2 (parameter (contained r.params f.0 f.1))

after_only : (site : SiteView) (r : Registration) (t : Task) (x : Pair) → Among x (following site r) → IsVariable site r t x.0 x.1
after_only site r t x (inl e) = subst (λ (p : Pair). IsVariable site r t p.0 p.1) e instance
after_only site r t x (inr a) = of_agent (last_only site r.provider r.agent x a)

rest_only : (site : SiteView) (r : Registration) (t : Task) (x : Pair) → Among x (param_pairs r.params) ⊎ Among x (following site r)
    → IsVariable site r t x.0 x.1
rest_only site r t x (inl a) = params_only site r t x a
rest_only site r t x (inr a) = after_only site r t x a

version_or : (site : SiteView) (r : Registration) (t : Task) (x : Pair) → Among x version_pairs ⊎ Among x (instance_pairs site r)
    → IsVariable site r t x.0 x.1
version_or site r t x (inl a) = of_agent (version_only site r.provider r.agent x a)
version_or site r t x (inr a) = rest_only site r t x (among_cases (param_pairs r.params) (following site r) x a)

level_or : (site : SiteView) (r : Registration) (t : Task) (x : Pair)
    → Among x (level_pairs t) ⊎ Among x (version_pairs ++ instance_pairs site r) → IsVariable site r t x.0 x.1
level_or site r t x (inl a) = level_only site r t x a
level_or site r t x (inr a) = version_or site r t x (among_cases version_pairs (instance_pairs site r) x a)

pub members : (site : SiteView) (r : Registration) (t : Task) (name value : List ℕ) → Contains (action_pairs site r t) (name, value)
    ↔ IsVariable site r t name value
unfolding action_pairs
members site r t name value = (
  λ h. level_or site r t (name, value)
      (among_cases (level_pairs t) (version_pairs ++ instance_pairs site r) (name, value) (among (action_pairs site r t) (name, value) h)),
  λ v. contained (action_pairs site r t) (name, value) (listed site r t name value v),
)
