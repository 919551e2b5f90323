-- The event of the last read of an input.
use Rattle.std.proofs.Common.{◌≡◌, ℕ, List, [], ◌∷◌, ◌++◌, Option, Result, Ok, Err, refl, ap, subst, ◌∙◌}
use Rattle.std.specs.Io.KnownBytes.{Consumes}
use Rattle.exec_lines.specs.Inputs.{InputEvent, InputView, TakesPiece}
use Rattle.exec_lines.specs.Inputs as input
use Rattle.exec_lines.specs.Pieces.{Reads}
use Rattle.exec_lines.specs.declared.line.Piece.{Piece}
use Rattle.exec_lines.specs.declared.line.Piece.TheVariants.{Last, Nothing, Part}
use Rattle.session_machine.specs.EdgeView.{bytes_in}
use Rattle.session_machine.specs.Events.{Event}
use Rattle.session_machine.specs.Events as event
use Rattle.session_machine.proofs.EdgeLemmas.{AsksInput}

-- the event of a read that the input logs like this
abbrev pub read_of : {S : Type 0} → InputEvent → Event S
read_of (input.Took bytes piece) = event.Took bytes piece
read_of _ = event.ReadFailed

-- of the last one
abbrev pub last_read : {S : Type 0} → List InputEvent → Event S
last_read [] = event.ReadFailed
last_read (e ∷ []) = read_of e
last_read (e ∷ other ∷ es) = last_read (other ∷ es)

last_read-more : (S : Type 0) (es : List InputEvent) (e : InputEvent) → last_read {S = S} (es ++ e ∷ []) ≡ read_of e
last_read-more S [] e = refl
last_read-more S (a ∷ []) e = refl
last_read-more S (a ∷ b ∷ es) e = last_read-more S (b ∷ es) e

last_is : {E : Type 0} (S : Type 0) {old new : InputView} {before after : List ℕ} {r : Result Piece E} (takes : TakesPiece old new before after r)
    → last_read {S = S} new.asked ≡ read_of (input.took takes.part r)
last_is {E} S {old} {new} {before} {after} {r} takes = ap (last_read {S = S}) takes.asked ∙ last_read-more S old.asked (input.took takes.part r)

-- it took a piece
pub ok_is : {E : Type 0} (S : Type 0) {old new : InputView} {before after : List ℕ} {r : Result Piece E} {piece : Piece}
    (takes : TakesPiece old new before after r) → r ≡ Ok piece → last_read {S = S} new.asked ≡ event.Took takes.part piece
ok_is {E} S {old} {new} {before} {after} {r} {piece} takes is =
    last_is S takes ∙ ap (λ (r : Result Piece E). read_of {S = S} (input.took takes.part r)) is

-- it failed
pub err_is : {E : Type 0} (S : Type 0) {old new : InputView} {before after : List ℕ} {r : Result Piece E} {error : E}
    (takes : TakesPiece old new before after r) → r ≡ Err error → last_read {S = S} new.asked ≡ event.ReadFailed
err_is {E} S {old} {new} {before} {after} {r} {error} takes is =
    last_is S takes ∙ ap (λ (r : Result Piece E). read_of {S = S} (input.took takes.part r)) is

taken : (E : Type 0) (a b : Option (List ℕ)) (part : List ℕ) (piece : Piece) → Reads {E = E} a b part (Ok piece) → Consumes a b (bytes_in part piece)
taken E a b part Part reads = reads
taken E a b part Last reads = reads
taken E a b part Nothing reads = reads.0

pub ok_asks : {E : Type 0} (S : Type 0) {old new : InputView} {before after : List ℕ} {r : Result Piece E} {piece : Piece}
    (takes : TakesPiece old new before after r) → r ≡ Ok piece → AsksInput {S = S} old new (event.Took takes.part piece)
ok_asks {E} S {old} {new} {before} {after} {r} {piece} takes is = record {
  asked = takes.asked ∙ ap (λ (r : Result Piece E). old.asked ++ input.took takes.part r ∷ []) is;
  read = taken E old.left new.left takes.part piece (subst (Reads old.left new.left takes.part) is takes.read);
}

pub err_asks : {E : Type 0} (S : Type 0) {old new : InputView} {before after : List ℕ} {r : Result Piece E} {error : E}
    (takes : TakesPiece old new before after r) → r ≡ Err error → AsksInput {S = S} old new event.ReadFailed
err_asks {E} S {old} {new} {before} {after} {r} {error} takes is =
    let reads : Consumes old.left new.left takes.part × (takes.part ≡ []) = subst (Reads old.left new.left takes.part) is takes.read in
    record {
      asked = takes.asked ∙ ap (λ (r : Result Piece E). old.asked ++ input.took takes.part r ∷ []) is;
      read = subst (Consumes old.left new.left) reads.1 reads.0;
    }
