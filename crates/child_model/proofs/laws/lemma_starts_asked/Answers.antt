use Rattle.std.proofs.Common.{◌≡◌, inl, inr, ℕ, zero, suc, [], ◌∷◌, Result, ap, arith, sym}
use Rattle.ocf_types.specs.declared.outcome.StartFault.{StartFault}
use Rattle.child_model.specs.Children.{Asked, IsOfStart, start_answer}
use Rattle.child_model.specs.Lemmas.{asked_append}
use Rattle.child_model.specs.declared.answer.Entry.{Entry}
use Rattle.child_model.proofs.laws.lemma_starts_asked.Goals as goal

of_start : (answer : Result Unit StartFault) → IsOfStart (start_answer answer)
of_start answer = tt

abbrev entry_of : ℕ → ℕ → Result Unit StartFault → Entry
entry_of run at answer = record { run = run; at = at; answer = start_answer answer }

-- the entry of one start asks for that start alone
only_asked : (run at r t : ℕ) (answer : Result Unit StartFault) → Asked (entry_of run at answer ∷ []) r t → (r ≡ run) × (t ≡ at)
only_asked run at r t answer (told, is, (zero, within, e)) = (sym (ap (λ (x : Entry). x.run) e), sym (ap (λ (x : Entry). x.at) e))
only_asked run at r t answer (told, is, (suc k, within, e)) = absurd (omega (arith, within))

is_asked : (run at r t : ℕ) (answer : Result Unit StartFault) → r ≡ run → t ≡ at → Asked (entry_of run at answer ∷ []) r t
is_asked run at r t answer run_is at_is = (
  start_answer answer,
  of_start answer,
  (0, omega arith, λ i. record { run = sym run_is i; at = sym at_is i; answer = start_answer answer }),
)

pub returns-clause-joined : goal.returns-clause-joined
returns-clause-joined c = asked_append

pub returns-clause-start : goal.returns-clause-start
returns-clause-start c = λ v run at r t answer.
    let joined = asked_append v.book (entry_of run at answer ∷ []) r t in (
      λ asked. elim (joined.0 asked) [ inl before ↦ inl before | inr now ↦ inr (only_asked run at r t answer now) ],
      λ asked. elim asked [ inl before ↦ joined.1 (inl before) | inr now ↦ joined.1 (inr (is_asked run at r t answer now.0 now.1)) ],
    )
