-- The JSON tokens of a line: RFC 8259.
use Rattle.std.specs.Prelude.{ℕ, List, [], ◌∷◌, Option, None, Some, Bool, codes, decimal}
use Rattle.std.specs.List.{flat_map}
use Rattle.json.specs.Token.{Token, begin_array, boolean, key, number, string}
use Rattle.json.specs.Tree.{json_tokens}
use Rattle.serde_json.specs.Data.{Data}
use Rattle.serde_json.specs.Written.{outline}
use Rattle.exec_replies.specs.LineKinds.{kind_word}
use Rattle.exec_replies.specs.Service.{text_or_null}
use Rattle.exec_replies.specs.declared.kind.LineKind.{LineKind}

-- the tokens of a value
abbrev pub value_tokens : Data → List Token
value_tokens d = json_tokens (outline d)

-- a member whose value is a text, a number without a sign, or a flag
unfoldable pub text_member : List ℕ → List ℕ → List Token
text_member name text = key name ∷ string text ∷ []

unfoldable pub number_member : List ℕ → ℕ → List Token
number_member name n = key name ∷ number (decimal n) ∷ []

unfoldable pub flag_member : List ℕ → Bool → List Token
flag_member name flag = key name ∷ boolean flag ∷ []

-- a member whose value is a text, or null where there is none
abbrev pub text_or_null_member : List ℕ → Option (List ℕ) → List Token
text_or_null_member name text = key name ∷ value_tokens (text_or_null text)

-- the beginning of a member whose value is an array
abbrev pub array_member : List ℕ → List Token
array_member name = key name ∷ begin_array ∷ []

-- the member for the kind of a line, and that for its tag, where it has them
abbrev pub kind_member : Option LineKind → List Token
kind_member None = []
kind_member (Some kind) = text_member (codes "kind") (kind_word kind)

abbrev pub tag_member : Option (List ℕ) → List Token
tag_member None = []
tag_member (Some tag) = text_member (codes "tag") tag

-- the tokens of the values that `say` makes of the items
abbrev pub values_tokens : {A : Type 0} → (A → Data) → List A → List Token
values_tokens say items = flat_map (λ item. value_tokens (say item)) items
