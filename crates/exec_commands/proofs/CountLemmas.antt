-- Equal counts of keys and members mean that no key comes twice.
use Rattle.std.proofs.Common.{◌≡◌, ℕ, List, [], ◌∷◌, ◌++◌, Option, Some, None, IsSomeAnd, option_and_then, refl, sym, ap, ◌∙◌, subst, arith}
use Rattle.json.specs.Token.{Token}
use Rattle.json.specs.Lex.{between, lex, tokens}
use Rattle.json.specs.Json.{Json, value, if_last, document}
use Rattle.json.specs.Strict.{HasUniqueKeys}
use Rattle.json.specs.Tree.{json_tokens}
use Rattle.json.proofs.Nesting.{value-depth}
use Rattle.json.proofs.Printed.Trees.{value-json_tokens}
use Rattle.json.proofs.Unique.Spelling.{value-json_tokens_back}
use Rattle.serde_json.specs.Data.{Data}
use Rattle.serde_json.specs.Read.{of_json, read}
use Rattle.exec_commands.specs.KeyCounts.{colons, members_in}
use Rattle.exec_commands.proofs.ColonLemmas.{colons-document}
use Rattle.exec_commands.proofs.MemberLemmas.{Counted, counted}

apart : (o : Option (Json × List Token)) (d : Data) → option_and_then of_json (option_and_then (λ p. if_last p.0 p.1) o) ≡ Some d → (j : Json) × (o ≡ Some (j, [])) × (of_json j ≡ Some d)
apart None d e = absurd cc
apart (Some (j, [])) d e = (j, refl, e)
apart (Some (j, t ∷ ts)) d e = absurd cc

-- what is read within a depth of 127 is read within 128
deeper : (ts : List Token) (j : Json) → value 127 ts ≡ Some (j, []) → value 128 ts ≡ Some (j, [])
deeper ts j e =
    let spelled : ts ≡ json_tokens j ++ [] = value-json_tokens_back 127 ts [] j e in
    ap (value 128) spelled ∙ value-json_tokens j 128 [] (omega (arith, value-depth 127 ts [] j e))

pub equal_counts : (text : List ℕ) (d : Data) → read text ≡ Some d → (j : Json) × (document text ≡ Some j) × Counted (HasUniqueKeys j) (members_in d) (colons (lex between text))
equal_counts text d e =
    let parts = apart (value 127 (tokens text)) d e in
    let is : document text ≡ Some parts.0 = ap (option_and_then (λ p. if_last p.0 p.1)) (deeper (tokens text) parts.0 parts.1) in
    (parts.0, is, subst (λ n. Counted (HasUniqueKeys parts.0) (members_in d) n) (sym (colons-document text parts.0 is)) (counted parts.0 d parts.2))

-- the members are fewer
pub lost : (text : List ℕ) (d : Data) → read text ≡ Some d → (members_in d ≡ colons (lex between text) → ⊥) → IsSomeAnd (document text) (λ j. ¬ (HasUniqueKeys j))
lost text d e differ = let c = equal_counts text d e in subst (λ o. IsSomeAnd o (λ j. ¬ (HasUniqueKeys j))) (sym c.1) (λ unique. differ (c.2.1 unique))

-- they are as many
pub kept : (text : List ℕ) (d : Data) → read text ≡ Some d → members_in d ≡ colons (lex between text) → IsSomeAnd (document text) HasUniqueKeys
kept text d e same = let c = equal_counts text d e in subst (λ o. IsSomeAnd o HasUniqueKeys) (sym c.1) (c.2.2 same)
