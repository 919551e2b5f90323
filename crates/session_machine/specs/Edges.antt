-- What a read gives.
use Rattle.std.specs.Prelude.{◌≡◌, ℕ, List, ◌++◌, take, Option, Some, None, Result, Ok, Err}
use Rattle.exec_lines.specs.Lines.{line_room}
use Rattle.exec_lines.specs.Pieces.{answer_at}
use Rattle.exec_lines.specs.declared.line.Next.{Next}
use Rattle.exec_lines.specs.declared.line.Piece.{Piece}
use Rattle.exec_lines.specs.declared.line.Piece.TheVariants.{Last, Nothing, Part}
use Rattle.session_machine.specs.Behaviours.{Trace, then}
use Rattle.session_machine.specs.Events.{ReadFailed, Took}

-- the next line of the input, once it is complete
abbrev pub next_after : Piece → List ℕ → Option Next
next_after Part line = None
next_after Last line = Some (answer_at Last line)
next_after Nothing line = Some (answer_at Nothing line)

-- A read, after which the buffer has this prefix of the line: it took some bytes, or failed.
abbrev pub IsReadOf : {S E : Type 0} → Trace S → Trace S → List ℕ → Result (Option Next) E → Type 0
IsReadOf old new kept (Ok next) =
    (bytes : List ℕ) × (piece : Piece) × (new ≡ then old (Took bytes piece)) × (next ≡ next_after piece (old.state.part ++ bytes))
    × (kept ≡ take line_room (old.state.part ++ bytes))
IsReadOf old new kept (Err fault) = new ≡ then old ReadFailed
