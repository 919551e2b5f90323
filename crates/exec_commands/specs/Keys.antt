-- The values of the keys of a line: RFC 8259 objects, strings and numbers. A required key that is absent, and a key that
-- holds another type, are refused as syntax.
use Rattle.std.specs.Borrow.{Bor}
use Rattle.std.specs.Prelude.{ℕ, map, Bool, true, ◌&&◌, List, [], ◌∷◌, Option, Some, option_map, option_and_then, Result, Ok, Err, codes}
use Rattle.std.specs.Option.{option_map_or, ok_or}
use Rattle.serde_json.specs.Data.{Data, Members, no_members, member}
use Rattle.serde_json.specs.Find.{get, as_str, as_number, as_u64, as_object}
use Rattle.ocf_types.specs.Params.{ParamList, is_after}
use Rattle.ocf_model.specs.declared.refusal.Refusal.{Refusal}
use Rattle.ocf_model.specs.declared.refusal.Refusal.TheVariants.{Syntax}

-- the next step with the value that was read, or the refusal
abbrev pub given : {A B : Type 0} → Result A Refusal → (A → Result B Refusal) → Result B Refusal
given (Ok a) follows = follows a
given (Err e) follows = Err e

-- a value of the right type, or a refusal as syntax
abbrev pub typed : {A : Type 0} → Option A → Result A Refusal
typed found = ok_or found Syntax

-- the value of a required key, and of an optional one
abbrev pub needed : {A : Type 0} → (Data → Option A) → List ℕ → Data → Result A Refusal
needed as_type key d = typed (option_and_then as_type (get key d))

abbrev pub if_there : {A : Type 0} → (Data → Option A) → A → List ℕ → Data → Result A Refusal
if_there as_type default key d = typed (option_map_or as_type (get key d) (Some default))

-- a number without a sign, a point or an exponent, below 2^64
abbrev pub natural : Data → Option ℕ
natural d = option_and_then as_u64 (as_number d)

-- the members of an object, each of them a text
abbrev pub member_texts : Members → Option ParamList
member_texts no_members = Some []
member_texts (member name d ms) = option_and_then (λ text. option_map (λ ps. (name, text) ∷ ps) (member_texts ms)) (as_str d)

-- the members of an object of texts
abbrev pub texts : Data → Option ParamList
texts d = option_and_then member_texts (as_object d)

-- a name and a text, both borrowed
abbrev pub TextPair : Type 0
TextPair = Bor (List ℕ) × Bor (List ℕ)

abbrev pub text_pair : TextPair → List ℕ × List ℕ
text_pair m = (m.0.now, m.1.now)

-- the names and texts of these pairs
abbrev pub texts_seen : List TextPair → ParamList
texts_seen ms = map text_pair ms

-- names that strictly ascend by their bytes, the first after `last`
abbrev pub are_ascending : Option (List ℕ) → ParamList → Bool
are_ascending last [] = true
are_ascending last (p ∷ ps) = is_after last p.0 && are_ascending (Some p.0) ps

-- the texts and numbers of a line
abbrev pub text_at : List ℕ → Data → Result (List ℕ) Refusal
text_at = needed as_str

abbrev pub number_at : List ℕ → Data → Result ℕ Refusal
number_at = needed natural

abbrev pub number_or : ℕ → List ℕ → Data → Result ℕ Refusal
number_or default = if_there natural default

-- the number under a key; anything else under it is ignored
abbrev pub number_there : List ℕ → Data → Option ℕ
number_there key d = option_and_then natural (get key d)

-- the parameters of a line: required in `params`, optional in `register`
abbrev pub params_at : Data → Result ParamList Refusal
params_at = needed texts (codes "params")

abbrev pub params_if_there : Data → Result ParamList Refusal
params_if_there = if_there texts [] (codes "params")
