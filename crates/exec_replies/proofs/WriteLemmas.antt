-- The text of a line is that of its value.
use Rattle.std.proofs.Common.{◌≡◌, ℕ, List, [], ◌∷◌, ◌++◌, ap, append_assoc, ◌∙◌}
use Rattle.json.specs.Print.{print}
use Rattle.json.specs.Token.{Token}
use Rattle.serde_json.proofs.Texts.{print-outline}
use Rattle.serde_json.specs.Data.{Data}
use Rattle.serde_json.specs.Written.{compact_text}
use Rattle.exec_replies.specs.Tokens.{value_tokens}

pub line_text : (d : Data) → print (value_tokens d) ≡ compact_text d
line_text d = print-outline d

-- a line, and what follows it
pub line_and_more : (d : Data) (none ts : List Token) (line more all : List ℕ) → none ≡ [] → ts ≡ none ++ value_tokens d
    → line ≡ print ts ++ 10 ∷ [] → all ≡ line ++ more → all ≡ compact_text d ++ 10 ∷ more
line_and_more d none ts line more all empty tokens text whole =
    let says : line ≡ compact_text d ++ 10 ∷ [] =
    text ∙ ap (λ (us : List Token). print us ++ 10 ∷ []) (tokens ∙ ap (λ (us : List Token). us ++ value_tokens d) empty)
    ∙ ap (λ (l : List ℕ). l ++ 10 ∷ []) (line_text d)
    in
    whole ∙ ap (λ (l : List ℕ). l ++ more) says ∙ append_assoc (compact_text d) (10 ∷ []) more
