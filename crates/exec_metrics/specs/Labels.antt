-- Labels. In their values the text format of Prometheus escapes the backslash, the double quote and the newline.
use Rattle.std.specs.Prelude.{ℕ, ◌==◌, if◌then◌else◌, List, [], ◌∷◌, ◌++◌, codes}
use Rattle.std.specs.List.{flat_map}

abbrev pub escaped_byte : ℕ → List ℕ
escaped_byte b =
    if b == 92 then 92 ∷ 92 ∷ [] else (if b == 34 then 92 ∷ 34 ∷ [] else (if b == 10 then 92 ∷ 110 ∷ [] else b ∷ []))

abbrev pub escaped : List ℕ → List ℕ
escaped bytes = flat_map escaped_byte bytes

-- a label: its name, and its value in double quotes
abbrev pub label : List ℕ → List ℕ → List ℕ
label key value = key ++ codes "=\"" ++ escaped value ++ codes "\""

-- one more label
abbrev pub next_label : List ℕ → List ℕ → List ℕ
next_label key value = codes "," ++ label key value
