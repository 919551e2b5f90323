-- Tests of which texts are values of parameters.
use Rattle.std.specs.Prelude.{◌≡◌, ℕ, ◌==◌, ◌&&◌, not, nat_le, Bool, true, false, List, length, Result, Ok, Err}
use Rattle.std.specs.List.{list_all}
use Rattle.std.specs.Str.{is_utf8}
use Rattle.ocf_types.specs.Limits.{value_limit}
use Rattle.ocf_types.specs.declared.values.ValueError.{ValueError}
use Rattle.ocf_types.specs.declared.values.ValueError.TheVariants.{BadValue, Memory}

-- at most 1,024 bytes of UTF-8 with no NUL
abbrev pub is_param_value : List ℕ → Bool
is_param_value value = nat_le (length value) value_limit && list_all (λ b. not (b == 0)) value && is_utf8 value

-- the result is the value with this text; `BadValue` exactly when there is none; or `Memory`
abbrev pub IsValueOrRefused : Result (List ℕ) ValueError → List ℕ → Type 0
IsValueOrRefused (Ok value) text = (value ≡ text) × (is_param_value text ≡ true)
IsValueOrRefused (Err BadValue) text = is_param_value text ≡ false
IsValueOrRefused (Err Memory) text = is_param_value text ≡ true
