-- The signal that is named for a run is that of a poll of this run.
use Rattle.std.proofs.Common.{◌≡◌, ◌⊎◌, inl, inr, ℕ, zero, suc, ◌&&◌, Bool, true, false, List, [], ◌∷◌, Option, Some, None, true≢false, refl, sym, ap, ◌∙◌, arith}
use Rattle.std.specs.Prelude.{◌==◌, Contains, is_some, option_map, unwrap_or}
use Rattle.std.specs.List.{find}
use Rattle.std.specs.Option.{option_map_or}
use Rattle.std.proofs.lemmas.Bool.{cond_both, eqb-false, eqb-true}
use Rattle.child_model.specs.Children.{poll_answer}
use Rattle.child_model.specs.declared.answer.Answer.{Answer}
use Rattle.child_model.specs.declared.answer.Answer.TheVariants as asked
use Rattle.child_model.specs.declared.answer.Entry.{Entry}
use Rattle.child_model.specs.declared.answer.Poll.TheVariants as poll
use Rattle.exec_client.specs.Signals.{signal_in, signal_of, names_signal}

both : (a b : Bool) → (a && b) ≡ true → (a ≡ true) × (b ≡ true)
both true true e = (refl, refl)
both true false e = absurd (true≢false (sym e))
both false b e = absurd (true≢false (sym e))

first_not : (a : Bool) → (a && true) ≡ false → a ≡ false
first_not true e = e
first_not false e = refl

-- the entry of a poll which says that this signal ended its run
abbrev signaled : ℕ → ℕ → ℕ → Entry
signaled run at signal = record { run = run; at = at; answer = poll_answer (poll.Signaled signal) }

abbrev entry_of : ℕ → ℕ → Answer → Entry
entry_of run at answer = record { run = run; at = at; answer = answer }

-- an entry by its fields
entry_is : (e : Entry) (run : ℕ) (answer : Answer) → e.run ≡ run → e.answer ≡ answer → e ≡ entry_of run e.at answer
entry_is e run answer same reported =
    ap (λ (r : ℕ). entry_of r e.at e.answer) same ∙ ap (λ (a : Answer). entry_of run e.at a) reported

-- an answer that names a signal is that poll
is_poll : (answer : Answer) (signal : ℕ) → signal_in answer ≡ Some signal → answer ≡ poll_answer (poll.Signaled signal)
is_poll (asked.Poll (poll.Signaled n)) signal is = ap (λ (o : Option ℕ). poll_answer (poll.Signaled (unwrap_or o 0))) is
is_poll (asked.Poll poll.Running) signal is = absurd cc
is_poll (asked.Poll (poll.Exited code)) signal is = absurd cc
is_poll (asked.Poll poll.Fault) signal is = absurd cc
is_poll (asked.Start given) signal is = absurd cc
is_poll (asked.Kill given) signal is = absurd cc

-- a signal that is named is that of a poll
pub sent_is_polled : (book : List Entry) (run signal : ℕ) → signal_of book run ≡ Some signal
    → (at : ℕ) × Contains book (signaled run at signal)
sent_is_polled [] run signal is = absurd cc
sent_is_polled (e ∷ es) run signal is =
    cond_both (names_signal run e) (Some e) (find (names_signal run) es)
    (λ (o : Option Entry). option_map_or signal_in (option_map (λ (x : Entry). x.answer) o) None ≡ Some signal
    → (at : ℕ) × Contains (e ∷ es) (signaled run at signal))
    (λ yes reported.
    let same = eqb-true e.run run (both (e.run == run) (is_some (signal_in e.answer)) yes).0 in
    (e.at, (0, omega arith, entry_is e run (poll_answer (poll.Signaled signal)) same (is_poll e.answer signal reported))))
    (λ no reported.
    let later = sent_is_polled es run signal reported in
    (later.0, (suc later.1.0, omega (arith, later.1.1), later.1.2)))
    is

-- a value of a list is its first or one of the rest
first_or_rest : (x r : Entry) (xs : List Entry) → Contains (x ∷ xs) r → (x ≡ r) ⊎ Contains xs r
first_or_rest x r xs (zero, h, e) = inl e
first_or_rest x r xs (suc k, h, e) = inr (k, omega (arith, h), e)

some_there : (o : Option ℕ) → is_some o ≡ true → (n : ℕ) × (o ≡ Some n)
some_there None e = absurd (true≢false (sym e))
some_there (Some n) e = (n, refl)

-- a signal is named for each run of which a poll says that a signal ended it
pub polled_is_sent : (book : List Entry) (run at signal : ℕ) → Contains book (signaled run at signal)
    → (n : ℕ) × (signal_of book run ≡ Some n)
polled_is_sent [] run at signal there = absurd (omega (arith, there.1))
polled_is_sent (e ∷ es) run at signal there =
    cond_both (names_signal run e) (Some e) (find (names_signal run) es)
    (λ (o : Option Entry). (n : ℕ) × (option_map_or signal_in (option_map (λ (x : Entry). x.answer) o) None ≡ Some n))
    (λ yes. some_there (signal_in e.answer) (both (e.run == run) (is_some (signal_in e.answer)) yes).1)
    (λ no. elim (first_or_rest e (signaled run at signal) es there) [
      | inl same ↦ absurd (eqb-false run run (first_not (run == run) (sym (ap (names_signal run) same) ∙ no)) refl)
      | inr later ↦ polled_is_sent es run at signal later
    ])
