-- One read of a line.
use Rattle.std.proofs.Common.{◌≡◌, ℕ, ◌+◌, ◌<◌, ◌≤◌, Bool, true, false, List, [], ◌∷◌, ◌++◌, Option, Some, None, Result, Ok, Err}
use Rattle.std.proofs.Common.{IfOk, OnErr, length, take, get_or, refl, ap, subst, ◌∙◌, arith, length-take-le, eqb-true, nat_lt, ◌==◌}
use Rattle.std.proofs.Common.{if◌then◌else◌, sym}
use Rattle.std.proofs.lemmas.Bool.{ltb-true}
use Rattle.std.proofs.lemmas.List.Sums.{passes_at_first}
use Rattle.std.proofs.lemmas.List.{take_more}
use Rattle.std.specs.List.{position_or_len}
use Rattle.std.specs.Io.KnownBytes.{Consumes, IsAtEnd, Keeps}
use Rattle.std.proofs.KnownBytes.{Consumes-nil, Consumes-kept}
use Rattle.exec_lines.specs.declared.line.Piece.{Piece}
use Rattle.exec_lines.specs.declared.line.Piece.TheVariants.{Part, Last, Nothing}
use Rattle.exec_lines.specs.Lines.{is_newline}
use Rattle.exec_lines.specs.Pieces.{Reads, newline_count, piece_of}
use Rattle.ocf_types.specs.Lemmas.{nil_of}
use Rattle.exec_lines.proofs.LineLemmas.{index-le}

-- a read that failed or was interrupted took nothing
pub reads-nothing : {E : Type 0} (a c : Option (List ℕ)) (r : Result Piece E) → Keeps a c → IfOk r (λ p. p ≡ Part) → Reads a c [] r
reads-nothing a c (Ok Part) kept is = Consumes-kept a a c [] (Consumes-nil a) kept
reads-nothing a c (Ok Last) kept is = absurd cc
reads-nothing a c (Ok Nothing) kept is = absurd cc
reads-nothing a c (Err e) kept is = (Consumes-kept a a c [] (Consumes-nil a) kept, refl)

-- a read after a fill that kept all bytes
pub reads-kept : {E : Type 0} (a b c : Option (List ℕ)) (part : List ℕ) (r : Result Piece E) → Keeps a b → Reads b c part r → Reads a c part r
reads-kept None b c part (Ok Part) kept reads = tt
reads-kept None b c part (Ok Last) kept reads = tt
reads-kept None b c part (Ok Nothing) kept reads = (tt, reads.1, tt)
reads-kept None b c part (Err e) kept reads = (tt, reads.1)
reads-kept (Some xs) None c part r kept reads = absurd kept
reads-kept (Some xs) (Some ys) c part r kept reads = subst (λ l. Reads (Some l) c part r) kept reads

-- the bytes that a read shows, up to the first newline
pub reads-shown : (E : Type 0) (a c : Option (List ℕ)) (shown : List ℕ) (len : ℕ) (piece : Piece)
    → len ≡ position_or_len is_newline shown → piece ≡ piece_of (length shown) len
    → (shown ≡ [] → IsAtEnd a) → Consumes a c (take (len + newline_count piece) shown)
    → Reads {E = E} a c (take len shown) (Ok piece)
reads-shown E a c shown len piece index is end taken =
    let of = by (nat_lt len (length shown)) (length shown == 0) refl refl
    (subst (λ p. Consumes a c (take (len + newline_count p) shown)) is taken) in
    subst (λ p. Reads {E = E} a c (take len shown) (Ok p)) (sym is) of
  where
    within : len ≤ length shown
    within = omega (arith, index, index-le shown)

    same : Consumes a c (take (len + 0) shown) → Consumes a c (take len shown)
    same d = subst (λ n. Consumes a c (take n shown)) (omega arith) d

    by : (ended none : Bool) → nat_lt len (length shown) ≡ ended → (length shown == 0) ≡ none
        → Consumes a c (take (len + newline_count (if ended then Last else (if none then Nothing else Part))) shown)
        → Reads {E = E} a c (take len shown) (Ok (if ended then Last else (if none then Nothing else Part)))
    by true none t w d =
        let lt : len < length shown = ltb-true _ _ t in
        let hit : get_or shown (position_or_len is_newline shown) 0 ≡ 10 = eqb-true _ _
        (passes_at_first is_newline shown 0 (omega (arith, lt, index))) in
        let here : get_or shown len 0 ≡ 10 = ap (λ k. get_or shown k 0) index ∙ hit in
        let more : take (len + 1) shown ≡ take len shown ++ 10 ∷ [] = take_more shown len 0 lt ∙ ap (λ y. take len shown ++ y ∷ []) here in
        subst (Consumes a c) more d
    by false true f w d =
        let empty : length shown ≡ 0 = eqb-true _ _ w in
        let long = length-take-le len shown within in
        (same d, nil_of (take len shown) (omega (arith, empty, long, within)), end (nil_of shown empty))
    by false false f w d = same d

pub on_err : {T E : Type 0} (r : Result T E) (P : Type 0) → P → OnErr r P
on_err (Ok x) P p = tt
on_err (Err e) P p = p
