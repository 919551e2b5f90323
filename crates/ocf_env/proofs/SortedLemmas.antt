-- The environment is sorted.
use Rattle.std.proofs.Common.{◌≡◌, ℕ, Bool, true, false, if◌then◌else◌, ◌&&◌, List, [], ◌∷◌, ◌++◌, Some, None, refl, codes, decimal}
use Rattle.ocf_types.specs.Names.{is_param_name}
use Rattle.ocf_types.specs.Values.{is_param_value}
use Rattle.ocf_types.specs.Params.{ParamList, is_before, are_params_after, AreParams}
use Rattle.ocf_types.specs.Actions.{is_monitor, level_number}
use Rattle.ocf_types.specs.Kinds.{Registration}
use Rattle.ocf_types.specs.declared.action.Task.{Task}
use Rattle.ocf_env.specs.Locations.{SiteView, Pair}
use Rattle.ocf_env.specs.Variables.{reskey, are_ascending_after, are_ascending}
use Rattle.ocf_env.specs.Lists.{version_pairs, param_pairs, instance_pair, last_pairs, instance_pairs, action_pairs, meta_pairs}
use Rattle.ocf_types.specs.Lemmas.{and_true, both}

-- names of parameters are ordered as their variables are
reskey_before : (a b : List ℕ) → is_before (reskey a) (reskey b) ≡ is_before a b
reskey_before a b = refl

params_before : (last : List ℕ) (ps : ParamList) (rest : List Pair) → are_params_after (Some last) ps ≡ true
    → ((name : List ℕ) → are_ascending_after (Some (reskey name)) rest ≡ true)
    → are_ascending_after (Some (reskey last)) (param_pairs ps ++ rest) ≡ true
params_before last [] rest h k = k last
params_before last (p ∷ ps) rest h k =
    let s = both (is_before last p.0 && is_param_name p.0 && is_param_value p.1) (are_params_after (Some p.0) ps) h in
    let first = both (is_before last p.0) (is_param_name p.0) (both (is_before last p.0 && is_param_name p.0) (is_param_value p.1) s.0).0 in
    and_true _ _ first.0 (params_before p.0 ps rest s.1 k)

after_params : (site : SiteView) (r : Registration) (name : List ℕ)
    → are_ascending_after (Some (reskey name)) (instance_pair r.id ∷ last_pairs site r.provider r.agent) ≡ true
after_params site r name = refl

after_version : (site : SiteView) (r : Registration) (ps : ParamList) → are_params_after None ps ≡ true
    → are_ascending_after (Some (codes "OCF_RA_VERSION_MINOR")) (param_pairs ps ++ instance_pair r.id ∷ last_pairs site r.provider r.agent)
    ≡ true
after_version site r [] h = refl
after_version site r (p ∷ ps) h =
    let s = both (is_param_name p.0 && is_param_value p.1) (are_params_after (Some p.0) ps) h in
    params_before p.0 ps (instance_pair r.id ∷ last_pairs site r.provider r.agent) s.1 (after_params site r)

pub ascending : (site : SiteView) (r : Registration) (t : Task) → AreParams r.params → are_ascending (action_pairs site r t) ≡ true
unfolding action_pairs
ascending site r t h = by (is_monitor t.action)
  where
    by : (b : Bool)
        → are_ascending ((if b then (codes "OCF_CHECK_LEVEL", decimal (level_number t.check.level)) ∷ [] else [])
        ++ (version_pairs ++ instance_pairs site r)) ≡ true
    by true = after_version site r r.params h.sorted
    by false = after_version site r r.params h.sorted

pub meta_ascending : (site : SiteView) (provider agent : List ℕ) → are_ascending (meta_pairs site provider agent) ≡ true
unfolding meta_pairs
meta_ascending site provider agent = refl
