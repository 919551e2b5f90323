-- The last reason for a failure in the tail of an agent's log. The agent wrote it as a line of its standard error: ocf-shellfuncs of
-- resource-agents, ocf_exit_reason.
use Rattle.std.specs.Prelude.{ℕ, ◌+◌, ◌-◌, ◌/◌, ◌%◌, ◌==◌, Bool, ◌&&◌, not, if◌then◌else◌, nat_eq, nat_lt, List, [], ◌∷◌}
use Rattle.std.specs.Prelude.{length, filter, take, drop, get_or, Option, None, option_map, codes}
use Rattle.std.specs.List.{before_first, flat_map, last_or, range_with_len, starts_with}
use Rattle.agent_logs.specs.declared.tail.Tail.{Tail}

-- the prefix of a line with a reason
abbrev pub reason_word : List ℕ
reason_word = codes "ocf-exit-reason:"

-- a line begins at an offset: after a newline, or at 0 if the tail is the whole log
abbrev pub begins_line : Tail → ℕ → Bool
begins_line t at = if at == 0 then t.is_whole else get_or t.bytes.now (at - 1) 0 == 10

-- a line with a reason begins at an offset
abbrev pub is_reason_at : Tail → ℕ → Bool
is_reason_at t at = begins_line t at && starts_with nat_eq (drop at t.bytes.now) reason_word

-- the last of these offsets at which a line with a reason begins
abbrev pub last_of : Tail → List ℕ → Option ℕ
last_of t offsets = last_or None (filter (is_reason_at t) offsets)

-- the greatest offset at which a line with a reason begins
abbrev pub last_offset : Tail → Option ℕ
last_offset t = last_of t (range_with_len 0 (length t.bytes.now))

-- a digit of a hexadecimal number
abbrev pub hex_digit : ℕ → ℕ
hex_digit n = if nat_lt n 10 then 48 + n else 87 + n

-- a byte that needs no escape: a graphic character of ASCII or a space, and no backslash
abbrev pub is_plain : ℕ → Bool
is_plain b = nat_lt 31 b && nat_lt b 127 && not (b == 92)

-- a byte as it is, or as a backslash, an `x` and its hexadecimal number
abbrev pub shown_byte : ℕ → List ℕ
shown_byte b = if is_plain b then b ∷ [] else 92 ∷ 120 ∷ hex_digit (b / 16) ∷ hex_digit (b % 16) ∷ []

-- the greatest number of bytes of a reason that are shown
abbrev pub reason_limit : ℕ
reason_limit = 512

abbrev pub is_newline : ℕ → Bool
is_newline b = b == 10

-- the reason of a line, from the bytes after its prefix
abbrev pub reason_in : List ℕ → List ℕ
reason_in rest = flat_map shown_byte (take reason_limit (before_first is_newline rest))

-- the reason of the last line that has one
abbrev pub last_reason : Tail → Option (List ℕ)
last_reason t = option_map (λ at. reason_in (drop (at + length reason_word) t.bytes.now)) (last_offset t)
