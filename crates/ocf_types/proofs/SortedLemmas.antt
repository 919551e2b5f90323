-- Parameters stay in order when one is added, or gets another value.
use Rattle.std.proofs.Common.{◌≡◌, inl, inr, ℕ, true, false, ◌&&◌, List, [], ◌∷◌, Option, Some, refl, sym, subst}
use Rattle.ocf_types.specs.Names.{is_param_name}
use Rattle.ocf_types.specs.Values.{is_param_value}
use Rattle.ocf_types.specs.Params.{ParamList, is_before, is_after, are_params_after, with_param}
use Rattle.ocf_types.specs.Lemmas.{both, not_before_itself}
use Rattle.ocf_types.proofs.AroundLemmas.{before_cases, not_back, all_after_last}

pub with_sorted : (name value : List ℕ) (last : Option (List ℕ)) (ps : ParamList) → is_after last name ≡ true → is_param_name name ≡ true
    → is_param_value value ≡ true
    → are_params_after last ps ≡ true → are_params_after last (with_param name value ps) ≡ true
with_sorted name value last [] a n v h = rw (a, n, v) refl
with_sorted name value last (p ∷ ps) a n v h =
    elim (before_cases p.0 name) [
      | inl lt ↦ lower lt
          (with_sorted name value (Some p.0) ps lt n v s.1)
      | inr r ↦ elim r [ inl e ↦ equal e | inr gt ↦ upper gt ]
    ]
  where
    s : (is_after last p.0 && is_param_name p.0 && is_param_value p.1 ≡ true) × (are_params_after (Some p.0) ps ≡ true)
    s = both (is_after last p.0 && is_param_name p.0 && is_param_value p.1) (are_params_after (Some p.0) ps) h

    t : (is_after last p.0 && is_param_name p.0 ≡ true) × (is_param_value p.1 ≡ true)
    t = both (is_after last p.0 && is_param_name p.0) (is_param_value p.1) s.0

    u : (is_after last p.0 ≡ true) × (is_param_name p.0 ≡ true)
    u = both (is_after last p.0) (is_param_name p.0) t.0

    lower : is_before p.0 name ≡ true → are_params_after (Some p.0) (with_param name value ps) ≡ true
        → are_params_after last (with_param name value (p ∷ ps)) ≡ true
    lower lt rest =
        let back : is_before name p.0 ≡ false = not_back p.0 name lt in
        rw (lt, back) (rw (u.0, u.1, t.1) rest)

    equal : p.0 ≡ name → are_params_after last (with_param name value (p ∷ ps)) ≡ true
    equal e =
        let after = all_after_last name p.0 ps (inr (sym e)) s.1 in
        let lt : is_before p.0 name ≡ false = subst (λ x. is_before x name ≡ false) (sym e) (not_before_itself name) in
        let back : is_before name p.0 ≡ false = subst (λ x. is_before name x ≡ false) (sym e) (not_before_itself name) in
        let rest : are_params_after (Some name) ps ≡ true = subst (λ x. are_params_after (Some x) ps ≡ true) e s.1 in
        rw (lt, back, after.none_before, after.all_after) (rw (a, n, v) rest)

    upper : is_before name p.0 ≡ true → are_params_after last (with_param name value (p ∷ ps)) ≡ true
    upper gt =
        let after = all_after_last name p.0 ps (inl gt) s.1 in
        let lt : is_before p.0 name ≡ false = not_back name p.0 gt in
        rw (lt, gt, after.none_before, after.all_after) (rw (a, n, v, gt, u.1, t.1) s.1)
