-- Texts that consist of pieces, each followed by the same byte.
use Rattle.std.specs.Prelude.{◌≡◌, ℕ, List, [], ◌∷◌, ◌++◌}

-- the text of these pieces, each followed by this byte
abbrev pub joined : ℕ → List (List ℕ) → List ℕ
joined end [] = []
joined end (piece ∷ pieces) = piece ++ end ∷ joined end pieces

-- a text consists of pieces, each followed by this byte
abbrev pub IsPieces : ℕ → List ℕ → Type 0
IsPieces end text = (pieces : List (List ℕ)) × (text ≡ joined end pieces)

-- after a number of pieces, which may be 0, comes a rest of the text that has P
abbrev pub After : ℕ → (List ℕ → Type 0) → List ℕ → Type 0
After end P text = (pieces : List (List ℕ)) × (rest : List ℕ) × (text ≡ joined end pieces ++ rest) × P rest
