-- Texts that consist of pieces, each followed by the same byte.
use Rattle.std.proofs.Common.{◌≡◌, ◌≢◌, ◌⊎◌, ◌∙◌, inl, inr, ℕ, ◌<◌, List, [], ◌∷◌, ◌++◌, length, take, drop}
use Rattle.std.proofs.Common.{refl, ap, sym, append_assoc, subst, arith}
use Rattle.std.specs.Prelude.{Option, Some, None, MatchOption, IfSome, IfNone, Bool, true, ◌==◌, ◌↔◌, IsTrue}
use Rattle.std.proofs.lemmas.Bool.{false≢true, ne_eqb}
use Rattle.std.proofs.lemmas.List.{take-append-drop, length-append}
use Rattle.std.proofs.Math.Seq.{take-append_seam, drop-append_seam}
use Rattle.proc_files.specs.Pieces.{After, IsPieces, joined}

-- the text of pieces is empty, or ends with the byte
pieces_end : (end : ℕ) (pieces : List (List ℕ)) → (joined end pieces ≡ []) ⊎ ((prefix : List ℕ) × (joined end pieces ≡ prefix ++ end ∷ []))
pieces_end end [] = inl refl
pieces_end end (p ∷ ps) = elim (pieces_end end ps) [
  | inl e ↦ inr (p, ap (λ l. p ++ end ∷ l) e)
  | inr h ↦ inr (p ++ end ∷ h.0, ap (λ l. p ++ end ∷ l) h.1 ∙ sym (append_assoc p (end ∷ h.0) (end ∷ [])))
]

pub one_piece : (end : ℕ) (prefix text : List ℕ) → text ≡ prefix ++ end ∷ [] → IsPieces end text
one_piece end prefix text is = (prefix ∷ [], is)

pub no_piece : (end : ℕ) (text : List ℕ) → ((prefix : List ℕ) → text ≢ prefix ++ end ∷ []) → IsPieces end text → text ≡ []
no_piece end text none (pieces, is) = elim (pieces_end end pieces) [
  | inl e ↦ is ∙ e
  | inr h ↦ absurd (none h.0 (is ∙ h.1))
]

-- the text of pieces followed by other pieces
pub joined_append : (end : ℕ) (ps qs : List (List ℕ)) → joined end (ps ++ qs) ≡ joined end ps ++ joined end qs
joined_append end [] qs = refl
joined_append end (p ∷ ps) qs =
    ap (λ l. p ++ end ∷ l) (joined_append end ps qs) ∙ sym (append_assoc p (end ∷ joined end ps) (joined end qs))

-- a rest that has P is found at an offset at which pieces end
pub after_at : (end : ℕ) (P : List ℕ → Type 0) (text : List ℕ) (at : ℕ) → IsPieces end (take at text) → P (drop at text)
    → After end P text
after_at end P text at (pieces, is) has =
    (pieces, drop at text, sym (take-append-drop at text) ∙ ap (λ l. l ++ drop at text) is, has)

-- if no rest at an offset has P, and the empty text does not, no rest has it
pub after_none : (end : ℕ) (P : List ℕ → Type 0) (text : List ℕ) → (P [] → ⊥)
    → ((at : ℕ) → at < length text → IsPieces end (take at text) → P (drop at text) → ⊥) → After end P text → ⊥
after_none end P text full none (pieces, rest, is, has) = by rest is has
  where
    by : (r : List ℕ) → text ≡ joined end pieces ++ r → P r → ⊥
    by [] same h = full h
    by (x ∷ xs) same h =
        let at = length (joined end pieces) in
        let within : at < length text = omega (arith, ap length same, length-append (joined end pieces) (x ∷ xs)) in
        none at within
        (pieces, ap (take at) same ∙ take-append_seam (joined end pieces) (x ∷ xs))
        (subst P (sym (ap (drop at) same ∙ drop-append_seam (joined end pieces) (x ∷ xs))) h)

-- a fact about each answer of a test that returns a part
pub if_some : {X : Type 0} (A : Type 0) (P : X → Type 0) (r : Option X) → MatchOption r A P → IfSome r P
if_some A P None h = tt
if_some A P (Some x) h = h

pub if_none : {X : Type 0} (A : Type 0) (P : X → Type 0) (r : Option X) → MatchOption r A P → IfNone r A
if_none A P None h = h
if_none A P (Some x) h = tt

-- a list with an element has a length other than 0
no_length : {X : Type 0} (x : X) (xs : List X) → true ≡ (length (x ∷ xs) == 0) → ⊥
no_length x xs e = false≢true (sym (e ∙ ne_eqb (length (x ∷ xs)) 0 (λ z. omega (arith, z))))

-- a text that does not end with the byte is pieces exactly when it is empty
pub is_empty_pieces : (end : ℕ) (text : List ℕ) (r : Bool) → r ≡ (length text == 0) → ((prefix : List ℕ) → text ≢ prefix ++ end ∷ [])
    → IsTrue r ↔ IsPieces end text
is_empty_pieces end [] r is none = (λ _. ([], refl), λ _. is)
is_empty_pieces end (x ∷ xs) r is none = (
  λ yes. absurd (no_length x xs (sym yes ∙ is)),
  λ pieces. absurd (let never = no_piece end (x ∷ xs) none pieces in cc),
)

pub when_none : {X : Type 0} (A B : Type 0) (r : Option X) → (A → B) → IfNone r A → IfNone r B
when_none A B None f h = f h
when_none A B (Some x) f h = tt
