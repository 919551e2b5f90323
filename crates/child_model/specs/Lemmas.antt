-- The starts that a book asked for, and the live runs without one.
use Rattle.std.specs.Prelude.{◌≡◌, ◌≢◌, ◌↔◌, ◌⊎◌, ℕ, zero, suc, ◌+◌, ◌≤◌, ◌==◌, List, [], ◌∷◌, ◌++◌, length, not, Contains}
use Rattle.std.proofs.Common.{inl, inr, arith, sym, ◌∙◌}
use Rattle.std.proofs.lemmas.Bool.{cond_both, eqb-false, not-true, not-false, eqb-true}
use Rattle.std.proofs.lemmas.List.Elements.{All-contains, Contains-append_left, Contains-append_right, Contains-append_cases}
use Rattle.child_model.specs.declared.answer.Entry.{Entry}
use Rattle.child_model.specs.Children.{Asked, AsksNothing, IsOfStart, without_run}

-- two books after one another asked for what either asked for
pub asked_append : (b c : List Entry) (run at : ℕ) → Asked (b ++ c) run at ↔ (Asked b run at ⊎ Asked c run at)
asked_append b c run at = (
  λ a. elim (Contains-append_cases b c (record { run = run; at = at; answer = a.0 }) a.2) [
    | inl h ↦ inl (a.0, a.1, h)
    | inr h ↦ inr
        (a.0, a.1, h)
  ],
  λ a. elim a [
    | inl h ↦ (h.0, h.1, Contains-append_left b c (record { run = run; at = at; answer = h.0 }) h.2)
    | inr h ↦
        (h.0, h.1, Contains-append_right b c (record { run = run; at = at; answer = h.0 }) h.2)
  ],
)

-- entries of polls and kills ask for nothing
pub asked_polls : (entries : List Entry) (run at : ℕ) → AsksNothing entries → Asked entries run at → ⊥
asked_polls entries run at none asked =
    All-contains (λ (e : Entry). IsOfStart e.answer → ⊥) entries (record { run = run; at = at; answer = asked.0 }) none asked.2 asked.1

-- an element of a list is the first or one of the rest
pub first_or_rest : (x r : ℕ) (live : List ℕ) → Contains (x ∷ live) r → (x ≡ r) ⊎ Contains live r
first_or_rest x r live (zero, h, e) = inl e
first_or_rest x r live (suc k, h, e) = inr (k, omega (arith, h), e)

in_rest : (x r : ℕ) (live : List ℕ) → Contains live r → Contains (x ∷ live) r
in_rest x r live h = (suc h.0, omega (arith, h.1), h.2)

-- the other runs still live without a run
pub kept : (run r : ℕ) (live : List ℕ) → r ≢ run → Contains live r → Contains (without_run run live) r
kept run r [] other lives = lives
kept run r (x ∷ live) other lives = elim (first_or_rest x r live lives) [
  | inl e ↦ cond_both (not (x == run)) (x ∷ without_run run live) (without_run run live) (λ l. Contains l r) (λ _. (0, omega arith, e))
      (λ gone. absurd (other (sym e ∙ eqb-true x run (not-false _ gone))))
  | inr h ↦ cond_both (not (x == run)) (x ∷ without_run run live) (without_run run live) (λ l. Contains l r)
      (λ _. in_rest x r (without_run run live) (kept run r live other h)) (λ _. kept run r live other h)
]

-- a run that lives without another lived before, and is not the other
pub lived : (run r : ℕ) (live : List ℕ) → Contains (without_run run live) r → Contains live r × (r ≢ run)
lived run r [] lives = absurd (omega (arith, lives.1))
lived run r (x ∷ live) lives =
    cond_both (not (x == run)) (x ∷ without_run run live) (without_run run live) (λ l. Contains l r → Contains (x ∷ live) r × (r ≢ run))
    (λ other h. elim (first_or_rest x r (without_run run live) h) [
      | inl e ↦ ((0, omega arith, e), λ same. eqb-false x run (not-true _ other) (e ∙ same))
      | inr rest ↦ (in_rest x r live (lived run r live rest).0, (lived run r live rest).1)
    ])
    (λ _ rest. (in_rest x r live (lived run r live rest).0, (lived run r live rest).1))
    lives

-- without a run as many live at most, and fewer if it lived
pub no_more : (run : ℕ) (live : List ℕ) → length (without_run run live) ≤ length live
no_more run [] = omega arith
no_more run (x ∷ live) =
    cond_both (not (x == run)) (x ∷ without_run run live) (without_run run live) (λ l. length l ≤ length (x ∷ live))
    (λ _. omega (arith, no_more run live)) (λ _. omega (arith, no_more run live))

pub fewer : (run : ℕ) (live : List ℕ) → Contains live run → length (without_run run live) + 1 ≤ length live
fewer run [] lives = absurd (omega (arith, lives.1))
fewer run (x ∷ live) lives =
    cond_both (not (x == run)) (x ∷ without_run run live) (without_run run live) (λ l. length l + 1 ≤ length (x ∷ live))
    (λ other. elim (first_or_rest x run live lives) [
      | inl e ↦ absurd (eqb-false x run (not-true _ other) e)
      | inr h ↦ omega (arith, fewer run live h)
    ])
    (λ _. omega (arith, no_more run live))
