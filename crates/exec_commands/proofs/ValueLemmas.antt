-- The JSON value of a line, and lines that have none.
use Rattle.std.proofs.Common.{◌≡◌, ℕ, ◌<◌, ◌≤◌, Bool, true, false, ◌&&◌, List, length, Some, None, leb, refl, if◌then◌else◌}
use Rattle.std.specs.Str.{is_utf8, IsUtf8}
use Rattle.std.proofs.lemmas.Bool.{le-leb, lt-leb}
use Rattle.std.proofs.lemmas.Str.{IsUtf8-from_is_utf8, is_utf8-from_IsUtf8}
use Rattle.serde_json.specs.Data.{Data}
use Rattle.serde_json.specs.Read.{read}
use Rattle.exec_commands.specs.Lines.{value_of}

-- bytes that are JSON
pub value_there : (bs : List ℕ) (d : Data) → length bs ≤ 131072 → IsUtf8 bs → read bs ≡ Some d → value_of bs ≡ Some d
value_there bs d short text reads = rw (le-leb (length bs) 131072 short, is_utf8-from_IsUtf8 bs text, reads) refl

-- bytes that are not JSON
pub no_value : (bs : List ℕ) → (IsUtf8 bs → read bs ≡ None) → value_of bs ≡ None
no_value bs none = by (leb (length bs) 131072) (is_utf8 bs) refl
  where
    by : (short text : Bool) → is_utf8 bs ≡ text → (if short && text then read bs else None) ≡ None
    by false text e = refl
    by true false e = refl
    by true true e = none (IsUtf8-from_is_utf8 bs e)

-- more bytes than a line may have
pub too_long : (bs : List ℕ) → 131072 < length bs → value_of bs ≡ None
too_long bs long = rw (lt-leb (length bs) 131072 long) refl
