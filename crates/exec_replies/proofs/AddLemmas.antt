-- Tokens that are added one part after the other.
use Rattle.std.proofs.Common.{◌≡◌, List, ◌++◌, ℕ, ◌+◌, ◌<◌, get_or, length, take, append_assoc, ap, sym, ◌∙◌}
use Rattle.json.specs.Token.{Token}
use Rattle.ocf_types.specs.Lemmas.{flat_more}
use Rattle.serde_json.specs.Data.{Data}
use Rattle.exec_replies.specs.Tokens.{value_tokens, values_tokens}

-- these parts are added to what was there
abbrev pub Adds : List Token → List Token → List Token → Type 0
Adds from parts to = to ≡ from ++ parts

-- one part, and then the rest
pub joined : (part rest a b c : List Token) → Adds a part b → Adds b rest c → Adds a (part ++ rest) c
joined part rest a b c first then = then ∙ ap (λ (ts : List Token). ts ++ rest) first ∙ append_assoc a part rest

-- the same tokens under another name
pub added : (a b parts whole : List Token) → parts ≡ whole → Adds a parts b → Adds a whole b
added a b parts whole same adds = adds ∙ ap (λ (ts : List Token). a ++ ts) same

-- the tokens of the values of a list, up to an index, and then one more
pub values_next : {A : Type 0} (say : A → Data) (xs : List A) (i : ℕ) (x : A) (a b c : List Token) → i < length xs → x ≡ get_or xs i x
    → Adds a (values_tokens say (take i xs)) b → Adds b (value_tokens (say x)) c → Adds a (values_tokens say (take (i + 1) xs)) c
values_next say xs i x a b c lt is so_far one =
    added a c _ _ (sym (flat_more (λ x. value_tokens (say x)) xs i x lt is)) (joined _ _ a b c so_far one)
