-- How a `serve` session reads a line. A refused line is a line too, with the reason and the key at fault.
use Rattle.std.specs.Prelude.{◌≡◌, ◌≢◌, ℕ, nat_le, Bool, true, false, List, length, Result, Ok, Err, if◌then◌else◌}
use Rattle.std.specs.Option.{option_map_or}
use Rattle.serde_json.specs.Data.{Data}
use Rattle.ocf_types.specs.Limits.{line_limit}
use Rattle.ocf_model.specs.declared.refusal.Refusal.{Refusal}
use Rattle.ocf_model.specs.declared.refusal.Refusal.TheVariants.{BadValue, Memory, Syntax}
use Rattle.exec_commands.specs.declared.key.Key.TheVariants.{Tag}
use Rattle.exec_commands.specs.declared.refused.About.{About}
use Rattle.exec_commands.specs.declared.refused.About.TheVariants as about
use Rattle.exec_commands.specs.Blame.{about_line, unknown_key}
use Rattle.exec_commands.specs.Lines.{served_line_of, value_of}
use Rattle.exec_commands.specs.Tags.{is_mistagged}
use Rattle.exec_commands.specs.Twice.{HasKeyTwice}
use Rattle.exec_commands.specs.declared.line.Line.{Line}
use Rattle.exec_commands.specs.declared.line.Served.{Served}
use Rattle.exec_commands.specs.declared.line.Line.TheVariants as line

-- a line is one of `serve` sessions alone
abbrev pub is_service_line : Line → Bool
is_service_line line.Leave = true
is_service_line line.Version = true
is_service_line line.Status = true
is_service_line (line.Refused refusal) = true
is_service_line _ = false

-- a line that is refused
abbrev pub refused_line : Refusal → About → Line
refused_line why what = line.Refused (record { why = why; about = what })

-- this line, or its refusal if its key `tag` holds no tag
abbrev pub tagged_line : Data → Line → Line
tagged_line d l = if is_mistagged d then refused_line BadValue (about.Key Tag) else l

-- the same, or the refusal of a key that its operation does not have
abbrev pub known_line : Data → Line → Line
known_line d l = option_map_or (λ name. refused_line BadValue (about.Unknown name)) (unknown_key d) (tagged_line d l)

-- the line of a JSON value, from its request or its refusal
abbrev pub line_from : Data → Result Line Refusal → Line
line_from d (Ok l) = known_line d l
line_from d (Err why) = refused_line why (about_line why d)

-- the line of a JSON value
abbrev pub served_line : Data → Line
served_line d = line_from d (served_line_of d)

-- the line of these bytes
abbrev pub served_read : List ℕ → Line
served_read bytes = option_map_or served_line (value_of bytes) (refused_line Syntax about.Whole)

-- a line of these bytes is too long
abbrev pub IsTooLong : List ℕ → Type 0
IsTooLong bytes = nat_le (length bytes) line_limit ≡ false

-- A `serve` session reads these bytes as this result: as the line defined above, or, if a key occurs twice, as the refusal of it. Memory
-- may be refused, and a line that is too long may be refused without being read.
abbrev pub IsServedAs : List ℕ → Result Line Refusal → Type 0
IsServedAs bytes (Ok l) =
    (HasKeyTwice bytes → l ≡ refused_line Syntax about.Twice) × (¬ (HasKeyTwice bytes) → l ≡ served_read bytes)
IsServedAs bytes (Err why) = why ≢ Memory → IsTooLong bytes × (why ≡ Syntax)

-- the line that was read, without its tag
abbrev pub line_in : Result Served Refusal → Result Line Refusal
line_in (Ok s) = Ok s.line
line_in (Err why) = Err why
