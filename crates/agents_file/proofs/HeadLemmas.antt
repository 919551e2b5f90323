-- The fields of a head.
use Rattle.std.proofs.Common.{◌≡◌, ℕ, ◌≤◌, List, [], ◌∷◌, ◌++◌, length, take, drop, codes}
use Rattle.std.proofs.Common.{refl, ap, subst, append_assoc, arith, length-append, ◌∙◌}
use Rattle.std.proofs.Math.Seq.{take-append_seam, drop-append_seam}
use Rattle.std.proofs.lemmas.List.Elements.{All-nil}
use Rattle.agents_file.specs.Lines.{Cuts, space, spaced}
use Rattle.agents_file.specs.declared.head.Head.{Head}
use Rattle.agents_file.proofs.EntryLemmas.{id_is_field}
use Rattle.agents_file.proofs.LineLemmas.{first_of}

-- what follows the word of a head
pub after_word : (line word rest boot pad : List ℕ) (fields : List (List ℕ)) → Cuts line word rest
    → line ≡ spaced (codes "agents-1" ∷ boot ∷ fields) ++ pad → rest ≡ boot ++ space ∷ (spaced fields ++ pad)
after_word line word rest boot pad fields cut is =
    (first_of line word rest (codes "agents-1") pad (boot ∷ fields) cut is (id_is_field (codes "agents-1") refl)).1
    ∙ append_assoc boot (space ∷ spaced fields) pad

-- a text of this length, and what follows it
pub taken : (n : ℕ) (text boot more : List ℕ) → text ≡ boot ++ more → length boot ≡ n → take n text ≡ boot
taken n text boot more is long =
    subst (λ k. take k text ≡ boot) long (ap (λ l. take (length boot) l) is ∙ take-append_seam boot more)

pub dropped : (n : ℕ) (text boot more : List ℕ) → text ≡ boot ++ more → length boot ≡ n → drop n text ≡ more
dropped n text boot more is long =
    subst (λ k. drop k text ≡ more) long (ap (λ l. drop (length boot) l) is ∙ drop-append_seam boot more)

pub long_enough : (n : ℕ) (text boot more : List ℕ) → text ≡ boot ++ more → length boot ≡ n → n ≤ length text
long_enough n text boot more is long = omega (arith, long, ap length is, length-append boot more)

-- the space after the identifier
pub after_boot : (text field rest more : List ℕ) → Cuts text field rest → text ≡ space ∷ more → rest ≡ more
after_boot text field rest more cut is = (cut [] more is (All-nil (λ b. b ≡ space → ⊥))).1

-- a head of equal parts
pub same_head : (h : Head) (boot : List ℕ) (moment monotonic : ℕ) → boot ≡ h.boot → moment ≡ h.moment → monotonic ≡ h.monotonic
    → ◌≡◌ {A = Head} (record { boot = boot; moment = moment; monotonic = monotonic }) h
same_head h boot moment monotonic a b c = λ i. record { boot = a i; moment = b i; monotonic = c i }
