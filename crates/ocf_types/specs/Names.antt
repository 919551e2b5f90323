-- Tests of which texts are names.
use Rattle.std.specs.Prelude.{ℕ, ◌==◌, ◌||◌, ◌&&◌, not, nat_le, Bool, false, List, [], ◌∷◌, length, slice_index}
use Rattle.std.specs.List.{list_all}
use Rattle.std.specs.Char.{is_ascii_alphanumeric, is_ascii_alphabetic}
use Rattle.ocf_types.specs.Limits.{name_limit}

-- a letter, a digit, `_`, `-` or `.`
abbrev pub is_name_byte : ℕ → Bool
is_name_byte b = is_ascii_alphanumeric b || b == 95 || b == 45 || b == 46

-- the same, or `:`, which clone instances have
abbrev pub is_id_byte : ℕ → Bool
is_id_byte b = is_name_byte b || b == 58

-- `.` or `..`
abbrev pub is_dots : List ℕ → Bool
is_dots (a ∷ []) = a == 46
is_dots (a ∷ b ∷ []) = a == 46 && b == 46
is_dots _ = false

-- 1 to 64 bytes
abbrev pub has_name_length : List ℕ → Bool
has_name_length name = nat_le 1 (length name) && nat_le (length name) name_limit

-- 1 to 64 bytes, each of which passes, but neither `.` nor `..`
abbrev pub is_name_of : (ℕ → Bool) → List ℕ → Bool
is_name_of passes name = has_name_length name && not (is_dots name) && list_all passes name

-- OCF Resource Agent API 1.1, OCF_RESOURCE_INSTANCE
abbrev pub is_rsc_id : List ℕ → Bool
is_rsc_id = is_name_of is_id_byte

-- OCF Resource Agent API 1.1, provider
abbrev pub is_provider : List ℕ → Bool
is_provider = is_name_of is_name_byte

-- OCF Resource Agent API 1.1, OCF_RESOURCE_TYPE
abbrev pub is_agent_type : List ℕ → Bool
is_agent_type = is_name_of is_name_byte

-- a letter or `_`
abbrev pub is_first_byte : ℕ → Bool
is_first_byte b = is_ascii_alphabetic b || b == 95

-- a letter, a digit or `_`
abbrev pub is_word_byte : ℕ → Bool
is_word_byte b = is_ascii_alphanumeric b || b == 95

-- a text that may follow OCF_RESKEY_: OCF Resource Agent API 1.1, OCF_RESKEY_
abbrev pub is_param_name : List ℕ → Bool
is_param_name name = has_name_length name && is_first_byte (slice_index name 0) && list_all is_word_byte name
