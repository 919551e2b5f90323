-- The text of a line that has a value.
use Rattle.std.proofs.Common.{◌≡◌, ℕ, Bool, true, false, ◌&&◌, List, length, Option, None, Some, leb, refl, if◌then◌else◌, IsSomeAnd}
use Rattle.std.specs.Str.{is_utf8, IsUtf8}
use Rattle.std.proofs.lemmas.Str.{IsUtf8-from_is_utf8}
use Rattle.json.specs.Json.{Json, document}
use Rattle.json.specs.Strict.{HasUniqueKeys}
use Rattle.serde_json.specs.Data.{Data}
use Rattle.serde_json.specs.Read.{read}
use Rattle.exec_commands.specs.Lines.{value_of}
use Rattle.exec_commands.specs.Twice.{HasKeyTwice}

-- it is UTF-8, and JSON with that value
pub value_read : (bs : List ℕ) (d : Data) → value_of bs ≡ Some d → IsUtf8 bs × (read bs ≡ Some d)
value_read bs d e = by (leb (length bs) 131072) (is_utf8 bs) refl e
  where
    by : (short text : Bool) → is_utf8 bs ≡ text → (if short && text then read bs else None) ≡ Some d → IsUtf8 bs × (read bs ≡ Some d)
    by false text is h = absurd cc
    by true false is h = absurd cc
    by true true is h = (IsUtf8-from_is_utf8 bs is, h)

-- no key of it occurs twice
pub unique : (bs : List ℕ) → IsSomeAnd (document bs) HasUniqueKeys → ¬ (HasKeyTwice bs)
unique bs once twice = by (document bs) once twice.1
  where
    by : (o : Option Json) → IsSomeAnd o HasUniqueKeys → IsSomeAnd o (λ j. ¬ (HasUniqueKeys j)) → ⊥
    by None h k = h
    by (Some j) h k = k h
