-- The identity of a journal, as a text.
use Rattle.std.specs.Prelude.{ℕ, nat_le, Bool, ◌==◌, ◌&&◌, ◌||◌, List, length, Option, None, Some, if◌then◌else◌}
use Rattle.std.specs.List.{list_all}
use Rattle.exec_replies.specs.declared.journal_id.JournalId.{JournalId}

-- a lowercase hexadecimal digit: 0 to 9, a to f
abbrev pub is_hex_digit : ℕ → Bool
is_hex_digit b = nat_le 48 b && nat_le b 57 || nat_le 97 b && nat_le b 102

-- 32 lowercase hexadecimal digits
abbrev pub is_journal_id : List ℕ → Bool
is_journal_id text = length text == 32 && list_all is_hex_digit text

-- the identity that a text is, if it is one
abbrev pub journal_id : List ℕ → Option (List ℕ)
journal_id text = if is_journal_id text then Some text else None

-- the digits of an identity
abbrev pub id_digits : JournalId → List ℕ
id_digits id = id.digits.bytes
