-- The tag of a line: a client's text of at most 64 bytes of UTF-8, which the reply and the notices of its call repeat.
use Rattle.std.specs.Prelude.{◌≡◌, ℕ, nat_le, is_none, Bool, false, List, length, Option, None, Some, option_and_then}
use Rattle.std.specs.Prelude.{if◌then◌else◌, codes}
use Rattle.std.specs.Option.{option_map_or}
use Rattle.serde_json.specs.Data.{Data}
use Rattle.serde_json.specs.Find.{get, as_str}
use Rattle.exec_commands.specs.Lines.{value_of}
use Rattle.exec_commands.specs.Twice.{HasKeyTwice}

-- the tag that a text is, if it is one
abbrev pub short_text : List ℕ → Option (List ℕ)
short_text text = if nat_le (length text) 64 then Some text else None

-- the tag that a value is, if it is one
abbrev pub tag_in : Data → Option (List ℕ)
tag_in v = option_and_then short_text (as_str v)

-- the tag of a line, if it has one
abbrev pub tag_of : Data → Option (List ℕ)
tag_of d = option_and_then tag_in (get (codes "tag") d)

-- the key `tag` of a line holds anything but a tag
abbrev pub is_mistagged : Data → Bool
is_mistagged d = option_map_or (λ v. is_none (tag_in v)) (get (codes "tag") d) false

-- the tag of the line that these bytes are
abbrev pub tag_read : List ℕ → Option (List ℕ)
tag_read bytes = option_and_then tag_of (value_of bytes)

-- the line of these bytes has this tag; one in which a key occurs twice has none
abbrev pub IsTaggedAs : List ℕ → Option (List ℕ) → Type 0
IsTaggedAs bytes tag = (HasKeyTwice bytes → tag ≡ None) × (¬ (HasKeyTwice bytes) → tag ≡ tag_read bytes)
