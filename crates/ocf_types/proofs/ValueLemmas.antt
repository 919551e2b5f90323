-- Tests of which texts are values of parameters.
use Rattle.std.proofs.Common.{◌≡◌, ℕ, ◌≤◌, Bool, true, false, not, ◌&&◌, ◌||◌, eqb, leb, List, [], ◌∷◌, length, refl}
use Rattle.std.specs.List.{list_all, list_any}
use Rattle.std.specs.Str.{is_utf8, IsUtf8}
use Rattle.std.proofs.lemmas.Bool.{le-leb}
use Rattle.std.proofs.lemmas.Str.{IsUtf8-from_is_utf8, is_utf8-from_IsUtf8}
use Rattle.ocf_types.specs.Lemmas.{and_false}
use Rattle.ocf_types.specs.Values.{is_param_value}

pub no_nul : (bs : List ℕ) → not (list_any (λ b. eqb b 0) bs) ≡ list_all (λ b. not (eqb b 0)) bs
no_nul [] = refl
no_nul (b ∷ bs) = by (eqb b 0) (no_nul bs)
  where
    by : (is : Bool) → not (list_any (λ c. eqb c 0) bs) ≡ list_all (λ c. not (eqb c 0)) bs
        → not (is || list_any (λ c. eqb c 0) bs) ≡ (not is && list_all (λ c. not (eqb c 0)) bs)
    by true rest = refl
    by false rest = rest

pub is_value : (bs : List ℕ) → length bs ≤ 1024 → list_all (λ b. not (eqb b 0)) bs ≡ true → IsUtf8 bs → is_param_value bs ≡ true
is_value bs a b c =
    let le : leb (length bs) 1024 ≡ true = le-leb _ _ a in
    rw (le, b, is_utf8-from_IsUtf8 bs c) refl

not_utf8 : (bs : List ℕ) (b : Bool) → is_utf8 bs ≡ b → ¬ (IsUtf8 bs) → b ≡ false
not_utf8 bs true e bad = absurd (bad (IsUtf8-from_is_utf8 bs e))
not_utf8 bs false e bad = refl

pub is_no_value : (bs : List ℕ) → ¬ (IsUtf8 bs) → is_param_value bs ≡ false
is_no_value bs bad = rw (not_utf8 bs (is_utf8 bs) refl bad) (and_false _)
