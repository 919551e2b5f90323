-- Lines of one length, which consist of fields.
use Rattle.std.specs.Prelude.{◌≡◌, ◌≢◌, ℕ, ◌-◌, List, [], ◌∷◌, ◌++◌, All, length, replicate}

-- the byte after a field
abbrev pub space : ℕ
space = 32

-- fields, each followed by a space
abbrev pub spaced : List (List ℕ) → List ℕ
spaced [] = []
spaced (field ∷ fields) = field ++ space ∷ spaced fields

-- a text padded with spaces to 255 bytes, and a newline
abbrev pub padded : List ℕ → List ℕ
padded text = text ++ (replicate (255 - length text) space ++ 10 ∷ [])

-- a field has no space
abbrev pub IsField : List ℕ → Type 0
IsField field = All (λ b. b ≢ space) field

-- a text is cut after its first field: if it is a field, a space and a rest, then these are that field and that rest
abbrev pub Cuts : (text field rest : List ℕ) → Type 0
Cuts text field rest =
    (f r : List ℕ) → text ≡ f ++ space ∷ r → IsField f → (field ≡ f) × (rest ≡ r)
