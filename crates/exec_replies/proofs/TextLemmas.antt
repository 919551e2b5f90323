-- Metadata that are a text.
use Rattle.std.proofs.Common.{◌≡◌, ℕ, Bool, true, false, if◌then◌else◌, List, refl}
use Rattle.std.specs.Str.{is_utf8, IsUtf8}
use Rattle.std.proofs.lemmas.Str.{IsUtf8-from_is_utf8, is_utf8-from_IsUtf8}
use Rattle.exec_replies.specs.Service.{metadata_data, no_text_data, text_data}

-- metadata that are a text, and metadata that are not
pub metadata_text : (metadata : List ℕ) → IsUtf8 metadata → metadata_data metadata ≡ text_data metadata
metadata_text metadata is = rw (is_utf8-from_IsUtf8 metadata is) refl

pub metadata_no_text : (metadata : List ℕ) → ¬ (IsUtf8 metadata) → metadata_data metadata ≡ no_text_data
metadata_no_text metadata none = by (is_utf8 metadata) refl
  where
    by : (is : Bool) → is_utf8 metadata ≡ is → (if is then text_data metadata else no_text_data) ≡ no_text_data
    by false e = refl
    by true e = absurd (none (IsUtf8-from_is_utf8 metadata e))
