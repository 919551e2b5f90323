-- What an input was asked, and what it has left.
use Rattle.std.specs.Prelude.{◌≡◌, ◌≢◌, ℕ, Bool, List, [], ◌∷◌, ◌++◌, All, Option, Result, Ok, Err, take}
use Rattle.exec_lines.specs.declared.line.Piece.{Piece}
use Rattle.exec_lines.specs.Lines.{line_room}
use Rattle.exec_lines.specs.Pieces.{Reads}

-- a question to an input, with its answer
pub data InputEvent : Type 0 where
  -- polled for at most this many milliseconds: whether a read would not block
  Polled : ℕ → Bool → InputEvent
  -- whether what was read already holds a whole line
  Peeked : Bool → InputEvent
  -- a read: these bytes, up to a newline, and how they end
  Took : List ℕ → Piece → InputEvent
  -- a read that failed
  Failed : InputEvent

-- what is left, where that is known, and what the input was asked, oldest first
pub record InputView : Type 0 where
  pub left : Option (List ℕ)
  pub asked : List InputEvent

-- the event of a read that took these bytes
abbrev pub took : {E : Type 0} → List ℕ → Result Piece E → InputEvent
took part (Ok piece) = Took part piece
took part (Err e) = Failed

-- one read took `part`, which has no newline, and appended to the line in a buffer what of it fits
pub record TakesPiece {E : Type 0} (old new : InputView) (before after : List ℕ) (result : Result Piece E) : Type 0 where
  pub part : List ℕ
  pub unended : All (λ b. b ≢ 10) part
  pub kept : after ≡ take line_room (before ++ part)
  pub read : Reads old.left new.left part result
  pub asked : new.asked ≡ old.asked ++ took part result ∷ []
