-- Parameters with one more appended.
use Rattle.std.proofs.Common.{◌≡◌, ℕ, ◌-◌, ◌<◌, true, ◌&&◌, List, [], ◌∷◌, ◌++◌, length, Option, Some, None, refl, arith, length-append, ap}
use Rattle.std.specs.Prelude.{slice_get}
use Rattle.ocf_types.specs.Names.{is_param_name}
use Rattle.ocf_types.specs.Values.{is_param_value}
use Rattle.ocf_types.specs.Params.{is_after, are_params_after, AreParams, last_name}
use Rattle.ocf_types.specs.Lemmas.{both}

after-push : (last : Option (List ℕ)) (ps : List (List ℕ × List ℕ)) (name value : List ℕ) → are_params_after last ps ≡ true
    → is_after (last_name last ps) name ≡ true → is_param_name name ≡ true → is_param_value value ≡ true
    → are_params_after last (ps ++ (name, value) ∷ []) ≡ true
after-push last [] name value h after n v = rw (after, n, v) refl
after-push last (p ∷ ps) name value h after n v =
    let s = both (is_after last p.0 && is_param_name p.0 && is_param_value p.1) (are_params_after (Some p.0) ps) h in
    rw (s.0, after-push (Some p.0) ps name value s.1 after n v) refl

pub AreParams_push : (ps : List (List ℕ × List ℕ)) (name value : List ℕ) → AreParams ps → length ps < 64
    → is_after (last_name None ps) name ≡ true → is_param_name name ≡ true → is_param_value value ≡ true
    → AreParams (ps ++ (name, value) ∷ [])
AreParams_push ps name value h room after n v = record {
  at_most_64 = omega (arith, length-append ps ((name, value) ∷ []));
  sorted = after-push None ps name value h.sorted after n v;
}

abbrev pub name_of : Option (List ℕ × List ℕ) → Option (List ℕ)
name_of None = None
name_of (Some p) = Some p.0

last_name-from : (before : Option (List ℕ)) (p : List ℕ × List ℕ) (ps : List (List ℕ × List ℕ)) (e : List ℕ × List ℕ)
    → slice_get (p ∷ ps) (length ps) ≡ Some e → last_name before (p ∷ ps) ≡ Some e.0
last_name-from before p [] e h = ap (λ (o : Option (List ℕ × List ℕ)). name_of o) h
last_name-from before p (q ∷ ps) e h = last_name-from (Some p.0) q ps e h

-- the last name is that of the last entry
pub last_name_is : (ps : List (List ℕ × List ℕ)) (e : List ℕ × List ℕ) → slice_get ps (length ps - 1) ≡ Some e
    → last_name None ps ≡ Some e.0
last_name_is [] e h = absurd cc
last_name_is (p ∷ ps) e h =
    let n : length (p ∷ ps) - 1 ≡ length ps = omega arith in
    last_name-from None p ps e (rw n at h)
