-- Lines that are read piece by piece.
use Rattle.std.proofs.Common.{◌≡◌, ◌≢◌, ℕ, ◌<◌, ◌≤◌, Bool, true, false, not, List, [], ◌∷◌, ◌++◌, All}
use Rattle.std.proofs.Common.{length, take, get_or, refl, sym, ap, ◌∙◌, arith}
use Rattle.std.proofs.Common.{length-take-le, get_or-take, take_all, take-take, eq-eqb}
use Rattle.std.proofs.Common.{nat_le, if◌then◌else◌, min, true≢false}
use Rattle.std.proofs.lemmas.Bool.{leb-true, leb-false, le-leb, lt-leb}
use Rattle.std.proofs.lemmas.List.{length-take, take-append-le}
use Rattle.std.proofs.lemmas.List.Sums.{fails_before_first, prefix_len-le-length}
use Rattle.std.specs.List.{position_or_len}
use Rattle.exec_lines.specs.declared.line.Next.TheVariants.{Line, TooLong, End}
use Rattle.exec_lines.specs.Lines.{is_newline, line_answer}
use Rattle.exec_lines.specs.declared.line.Piece.{Piece}
use Rattle.exec_lines.specs.declared.line.Piece.TheVariants.{Part, Last, Nothing}
use Rattle.exec_lines.specs.Pieces.{answer_at}

abbrev pub NoNewline : List ℕ → Type 0
NoNewline = All (λ b. b ≢ 10)

pub index-le : (xs : List ℕ) → position_or_len is_newline xs ≤ length xs
index-le xs = prefix_len-le-length (λ x. not (is_newline x)) xs

-- there is no newline before the first one
pub none_before : (xs : List ℕ) → NoNewline (take (position_or_len is_newline xs) xs)
none_before xs k d h e =
    let n = position_or_len is_newline xs in
    let below : k < n = omega (arith, h, length-take-le n xs (index-le xs)) in
    let miss : is_newline (get_or xs k d) ≡ false = fails_before_first is_newline xs k d below in
    let hit : is_newline (get_or xs k d) ≡ true = eq-eqb _ 10 (sym (get_or-take n xs k d below) ∙ e) in
    true≢false (sym hit ∙ miss)

-- keeping a prefix piece by piece keeps the same prefix
pub kept-more : (done part old items : List ℕ) → old ≡ take 131073 done → items ≡ take 131073 (old ++ part)
    → items ≡ take 131073 (done ++ part)
kept-more done part old items before after = after ∙ ap (λ l. take 131073 (l ++ part)) before ∙ at (nat_le (length done) 131073) refl
  where
    at : (b : Bool) → nat_le (length done) 131073 ≡ b → take 131073 (take 131073 done ++ part) ≡ take 131073 (done ++ part)
    at true t = ap (λ l. take 131073 (l ++ part)) (take_all 131073 done (leb-true _ _ t))
    at false f =
        let lt : 131073 < length done = leb-false _ _ f in
        let long = length-take-le 131073 done (omega (arith, lt)) in
        take-append-le 131073 (take 131073 done) part (omega (arith, long)) ∙ take-take 131073 131073 done (omega arith)
        ∙ sym (take-append-le 131073 done part (omega (arith, lt)))

-- a line of which exactly the bytes that fit were kept
pub kept-whole : (line items : List ℕ) → items ≡ take 131073 line
    → (length items ≡ 131073 → 131072 < length line) × (length items ≢ 131073 → length line ≤ 131072)
kept-whole line items e =
    let long : length items ≡ min 131073 (length line) = ap length e ∙ length-take 131073 line in
    (λ full. omega (arith, full, long), λ more. omega (arith, more, long))

pub answer-long : (line : List ℕ) → 131072 < length line → TooLong ≡ line_answer line
answer-long line h = sym (ap (λ b. if b then Line else TooLong) (lt-leb _ _ h))

pub answer-fits : (line : List ℕ) → length line ≤ 131072 → Line ≡ line_answer line
answer-fits line h = sym (ap (λ b. if b then Line else TooLong) (le-leb _ _ h))

some_answer : (piece : Piece) (line : List ℕ) → 0 < length line → answer_at piece line ≡ line_answer line
some_answer Nothing [] some = absurd (omega arith)
some_answer Nothing (x ∷ xs) some = refl
some_answer Part line some = refl
some_answer Last line some = refl

-- nothing was kept, and the input ended
pub answer-none : (piece : Piece) (line items : List ℕ) → items ≡ take 131073 line → piece ≡ Nothing → items ≡ []
    → End ≡ answer_at piece line
answer-none piece line items kept end none = at line (ap length none ∙ refl) kept ∙ ap (λ p. answer_at p line) (sym end)
  where
    at : (l : List ℕ) → length items ≡ 0 → items ≡ take 131073 l → End ≡ answer_at Nothing l
    at [] zero e = refl
    at (x ∷ xs) zero e = absurd (omega (arith, zero, ap length e ∙ length-take 131073 (x ∷ xs)))

-- the buffer is full
pub answer-full : (piece : Piece) (line items : List ℕ) → items ≡ take 131073 line → length items ≡ 131073 → TooLong ≡ answer_at piece line
answer-full piece line items kept full =
    let long = (kept-whole line items kept).0 full in
    answer-long line long ∙ sym (some_answer piece line (omega (arith, long)))

-- the buffer is not full, and there is a line
pub answer-line : (piece : Piece) (line items : List ℕ) → items ≡ take 131073 line → length items ≢ 131073
    → ((piece ≡ Nothing) × (items ≡ []) → ⊥) → Line ≡ answer_at piece line
answer-line Part line items kept more some = answer-fits line ((kept-whole line items kept).1 more)
answer-line Last line items kept more some = answer-fits line ((kept-whole line items kept).1 more)
answer-line Nothing [] items kept more some = absurd (some (refl, kept))
answer-line Nothing (x ∷ xs) items kept more some = answer-fits (x ∷ xs) ((kept-whole (x ∷ xs) items kept).1 more)
