-- Which lists of names and values are parameters.
use Rattle.std.specs.Prelude.{ℕ, ◌≤◌, ◌&&◌, Bool, true, List, [], ◌∷◌, ◌++◌, filter, Option, Some, None, length, IsTrue}
use Rattle.std.specs.List.{list_any}
use Rattle.std.specs.Str.{bytes_eq}
use Rattle.std.specs.Ordering.{nat_cmp, is_lt}
use Rattle.std.specs.Cmp.Lexicographic.{slice_cmp}
use Rattle.ocf_types.specs.Limits.{params_limit}
use Rattle.ocf_types.specs.Names.{is_param_name}
use Rattle.ocf_types.specs.Values.{is_param_value}

-- names and values
abbrev pub ParamList : Type 0
ParamList = List (List ℕ × List ℕ)

-- a name comes before another, by their bytes
abbrev pub is_before : List ℕ → List ℕ → Bool
is_before a b = is_lt (slice_cmp nat_cmp a b)

-- the name comes after the last one, if there is one
abbrev pub is_after : Option (List ℕ) → List ℕ → Bool
is_after None name = true
is_after (Some last) name = is_before last name

-- lawful names and values, the names strictly ascending, all after the last one
abbrev pub are_params_after : Option (List ℕ) → ParamList → Bool
are_params_after last [] = true
are_params_after last (p ∷ ps) = is_after last p.0 && is_param_name p.0 && is_param_value p.1 && are_params_after (Some p.0) ps

-- at most 64, sorted by name: OCF Resource Agent API 1.1, OCF_RESKEY_
pub record AreParams (ps : ParamList) : Type 0 where
  pub at_most_64 : length ps ≤ params_limit
  pub sorted : IsTrue (are_params_after None ps)

-- the name of the last one
abbrev pub last_name : Option (List ℕ) → ParamList → Option (List ℕ)
last_name before [] = before
last_name before (p ∷ ps) = last_name (Some p.0) ps

-- there is a parameter of this name
abbrev pub has_param : List ℕ → ParamList → Bool
has_param name ps = list_any (λ p. bytes_eq p.0 name) ps

-- the parameters with this one set: those of lesser names, this one, and those of greater names
abbrev pub with_param : List ℕ → List ℕ → ParamList → ParamList
with_param name value ps = filter (λ p. is_before p.0 name) ps ++ (name, value) ∷ filter (λ p. is_before name p.0) ps
