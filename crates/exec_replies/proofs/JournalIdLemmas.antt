-- Identities are ASCII texts of 32 bytes.
use Rattle.std.proofs.Common.{◌≡◌, ℕ, ◌<◌, ◌≤◌, true, ◌==◌, List, [], ◌∷◌, length, arith}
use Rattle.std.specs.List.{list_all}
use Rattle.std.specs.Str.{IsAscii, IsUtf8}
use Rattle.std.proofs.lemmas.Str.{IsUtf8-from_ascii}
use Rattle.std.proofs.lemmas.Str.Ascii.{IsAscii-nil, IsAscii-cons}
use Rattle.std.proofs.lemmas.Bool.Decides.{nat_tests}
use Rattle.ocf_types.specs.Lemmas.{both}
use Rattle.exec_replies.specs.JournalIds.{is_hex_digit, is_journal_id}

digit_low : (b : ℕ) → is_hex_digit b ≡ true → b < 128
digit_low b h = grind (arith, nat_tests)

digits_low : (bs : List ℕ) → list_all is_hex_digit bs ≡ true → IsAscii bs
digits_low [] h = IsAscii-nil
digits_low (b ∷ bs) h =
    let s = both (is_hex_digit b) (list_all is_hex_digit bs) h in
    IsAscii-cons b bs (digit_low b s.0) (digits_low bs s.1)

pub digits_are_text : (bs : List ℕ) → is_journal_id bs ≡ true → IsUtf8 bs
digits_are_text bs h = IsUtf8-from_ascii bs (digits_low bs (both _ _ h).1)

pub digits_fit : (bs : List ℕ) → is_journal_id bs ≡ true → length bs ≤ 32
digits_fit bs h =
    let is = (both (length bs == 32) (list_all is_hex_digit bs) h).0 in
    grind (arith, nat_tests, is)
