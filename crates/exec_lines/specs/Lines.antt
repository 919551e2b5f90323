-- The lines of an input.
use Rattle.std.specs.Prelude.{ℕ, ◌+◌, Bool, ◌==◌, List, length, nat_le, if◌then◌else◌}
use Rattle.ocf_types.specs.Limits.{line_limit}
use Rattle.exec_lines.specs.declared.line.Next.{Next}
use Rattle.exec_lines.specs.declared.line.Next.TheVariants.{Line, TooLong}

-- the byte that ends a line
abbrev pub is_newline : ℕ → Bool
is_newline b = b == 10

-- the capacity of a line buffer: one byte more than a line may have, so that a longer one is noticed
abbrev pub line_room : ℕ
line_room = line_limit + 1

-- a line, or one that is too long
abbrev pub line_answer : List ℕ → Next
line_answer line = if nat_le (length line) line_limit then Line else TooLong
