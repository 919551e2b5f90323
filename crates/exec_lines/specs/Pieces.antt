-- The results of single reads of a line.
use Rattle.std.specs.Prelude.{ℕ, ◌≡◌, ◌==◌, List, [], ◌∷◌, ◌++◌, Option, Result, Ok, Err, nat_lt, if◌then◌else◌}
use Rattle.std.specs.Io.KnownBytes.{Consumes, IsAtEnd}
use Rattle.exec_lines.specs.declared.line.Next.{Next}
use Rattle.exec_lines.specs.declared.line.Next.TheVariants.{End}
use Rattle.exec_lines.specs.declared.line.Piece.{Piece}
use Rattle.exec_lines.specs.declared.line.Piece.TheVariants.{Part, Last, Nothing}
use Rattle.exec_lines.specs.Lines.{line_answer}

abbrev pub newline_count : Piece → ℕ
newline_count Part = 0
newline_count Last = 1
newline_count Nothing = 0

-- the result of a read of `total` bytes, of which `len` are before the first newline
abbrev pub piece_of : ℕ → ℕ → Piece
piece_of total len = if nat_lt len total then Last else (if total == 0 then Nothing else Part)

-- the answer at the end of a line; if the input ends before a byte was read, there is no line
abbrev pub answer_at : Piece → List ℕ → Next
answer_at Nothing [] = End
answer_at Nothing (x ∷ xs) = line_answer (x ∷ xs)
answer_at Part line = line_answer line
answer_at Last line = line_answer line

-- the read consumed `part`, and the newline if it is the last piece; no bytes are read only at the end of the input, or if the read fails
abbrev pub Reads : {E : Type 0} → Option (List ℕ) → Option (List ℕ) → List ℕ → Result Piece E → Type 0
Reads old new part (Ok Nothing) = Consumes old new part × (part ≡ []) × IsAtEnd old
Reads old new part (Ok Part) = Consumes old new part
Reads old new part (Ok Last) = Consumes old new (part ++ 10 ∷ [])
Reads old new part (Err e) = Consumes old new part × (part ≡ [])
