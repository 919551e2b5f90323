-- The variables of a command whose environment is sorted by name.
use Rattle.std.specs.Prelude.{◌≡◌, ◌⊎◌, ℕ, zero, suc, Bool, true, false, List, [], ◌∷◌, Option, Some, None, Contains, bytes_eq, cond}
use Rattle.std.specs.Process.{var_after}
use Rattle.std.proofs.Common.{ap, arith, inl, inr, refl, subst, sym, ◌∙◌}
use Rattle.std.proofs.lemmas.Slice.Eq.{bytes_eq-Decides}
use Rattle.ocf_types.specs.Lemmas.{before_differs, before_trans, both}
use Rattle.ocf_types.specs.Params.{is_after, is_before}
use Rattle.ocf_env.specs.Locations.{Pair}
use Rattle.ocf_env.specs.Variables.{are_ascending_after}

-- the value of a name that comes before all others does not change
stays : (name last : List ℕ) (pairs : List Pair) (before : Option (Option (List ℕ))) → (is_before name last ≡ true) ⊎ (name ≡ last)
    → are_ascending_after (Some last) pairs ≡ true
    → var_after Some Some name before pairs ≡ before
stays name last [] before le h = refl
stays name last (p ∷ ps) before le h =
    let s = both (is_before last p.0) (are_ascending_after (Some p.0) ps) h in
    let later : is_before name p.0 ≡ true =
    elim le [ inl lt ↦ before_trans name last p.0 lt s.0 | inr e ↦ subst (λ x. is_before x p.0 ≡ true) (sym e) s.0 ] in
    ap (λ b. var_after Some Some name (cond b (Some (Some p.1)) before) ps) (before_differs name p.0 later)
    ∙ stays name p.0 ps before (inl later) s.1

-- the name of the first pair has its value
at_first : (name : List ℕ) (p : Pair) (ps : List Pair) (before : Option (Option (List ℕ))) → p.0 ≡ name
    → are_ascending_after (Some p.0) ps ≡ true → var_after Some Some name before (p ∷ ps) ≡ Some (Some p.1)
at_first name p ps before same h =
    ap (λ b. var_after Some Some name (cond b (Some (Some p.1)) before) ps) ((bytes_eq-Decides p.0 name).1 same)
    ∙ stays name p.0 ps (Some (Some p.1)) (inr (sym same)) h

-- a name has a value only by a pair that is there
pub given_only : (last : Option (List ℕ)) (pairs : List Pair) (name value : List ℕ) → are_ascending_after last pairs ≡ true
    → var_after Some Some name None pairs ≡ Some (Some value) → Contains pairs (name, value)
given_only last [] name value h e = absurd cc
given_only last (p ∷ ps) name value h e =
    by (given_only (Some p.0) ps name value (both (is_after last p.0) (are_ascending_after (Some p.0) ps) h).1) (bytes_eq p.0 name) refl
  where
    tail : are_ascending_after (Some p.0) ps ≡ true
    tail = (both (is_after last p.0) (are_ascending_after (Some p.0) ps) h).1

    by : (var_after Some Some name None ps ≡ Some (Some value) → Contains ps (name, value)) → (t : Bool) → bytes_eq p.0 name ≡ t
        → Contains (p ∷ ps) (name, value)
    by later true is =
        let same : p.0 ≡ name = (bytes_eq-Decides p.0 name).0 is in
        let told : Some (Some p.1) ≡ Some (Some value) = sym (at_first name p ps None same tail) ∙ e in
        let worth : p.1 ≡ value = cc in
        (0, omega arith, λ i. (same i, worth i))
    by later false is =
        let rest : Contains ps (name, value) = later (sym (ap (λ b. var_after Some Some name (cond b (Some (Some p.1)) None) ps) is) ∙ e) in
        (suc rest.0, omega (arith, rest.1), rest.2)

-- each pair that is there gives its name its value
pub given_each : (last : Option (List ℕ)) (pairs : List Pair) (name value : List ℕ) → are_ascending_after last pairs ≡ true
    → Contains pairs (name, value) → var_after Some Some name None pairs ≡ Some (Some value)
given_each last [] name value h there = absurd (omega (arith, there.1))
given_each last (p ∷ ps) name value h (zero, within, e) =
    at_first name p ps None (ap (λ x. x.0) e) (both (is_after last p.0) (are_ascending_after (Some p.0) ps) h).1
    ∙ ap (λ x. Some (Some x.1)) e
given_each last (p ∷ ps) name value h (suc k, within, e) =
    by (given_each (Some p.0) ps name value (both (is_after last p.0) (are_ascending_after (Some p.0) ps) h).1
    (k, omega (arith, within), e)) (bytes_eq p.0 name) refl
  where
    by : var_after Some Some name None ps ≡ Some (Some value) → (t : Bool) → bytes_eq p.0 name ≡ t
        → var_after Some Some name None (p ∷ ps) ≡ Some (Some value)
    by rest false is = ap (λ b. var_after Some Some name (cond b (Some (Some p.1)) None) ps) is ∙ rest
    by rest true is =
        let gone : var_after Some Some name None ps ≡ None = stays name p.0 ps None (inr (sym ((bytes_eq-Decides p.0 name).0 is)))
        (both (is_after last p.0) (are_ascending_after (Some p.0) ps) h).1 in
        absurd (let never : None ≡ Some (Some value) = sym gone ∙ rest in cc)
