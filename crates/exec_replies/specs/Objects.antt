-- JSON objects and arrays of replies: RFC 8259. The keys of an object are in ascending order of their bytes.
use Rattle.std.specs.Prelude.{ℕ, List, [], ◌∷◌, map}
use Rattle.serde_json.specs.Data.{Data, number, unsigned, string, array, object, Members, no_members, member, put}
use Rattle.serde_json.specs.View.{items_of}
use Rattle.ocf_types.specs.Params.{ParamList}

-- the members of a list of keys and values
abbrev pub members_from : List (List ℕ × Data) → Members
members_from [] = no_members
members_from (m ∷ ms) = member m.0 m.1 (members_from ms)

-- an object with these members
abbrev pub object_from : List (List ℕ × Data) → Data
object_from ms = object (members_from ms)

-- an object with one more member, in its order
abbrev pub object_with : List ℕ → Data → Data → Data
object_with key d (object ms) = object (put key d ms)
object_with key d other = other

-- a number without a sign
abbrev pub natural_data : ℕ → Data
natural_data n = number (unsigned n)

-- an array of the values that `say` makes of the items
abbrev pub array_from : {A : Type 0} → (A → Data) → List A → Data
array_from say items = array (items_of (map say items))

-- the members of parameters: each value under its name
abbrev pub param_members : ParamList → Members
param_members [] = no_members
param_members (p ∷ ps) = member p.0 (string p.1) (param_members ps)
