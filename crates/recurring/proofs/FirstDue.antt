-- The first due call with one more pair.
use Rattle.std.proofs.Common.{◌≡◌, ℕ, ◌<◌, ◌≤◌, min, List, [], ◌∷◌, ◌++◌, Option, Some, None, MatchOption, ◌⊎◌, inl, inr, arith}
use Rattle.std.proofs.lemmas.Bool.{cases_lt}
use Rattle.std.specs.Option.{option_map}
use Rattle.std.proofs.lemmas.List.Elements.{All-push, Contains-append_left, Contains-push}
use Rattle.ocf_model.specs.Due.{IsBefore, IsLeastDue}
use Rattle.ocf_model.specs.StateLemmas.{IsBefore-trans}
use Rattle.recurring.specs.declared.due_call.DueCall.{DueCall}
use Rattle.recurring.specs.DueCalls.{pair_of, IsFirstDue}
use Rattle.recurring.specs.Monitors.{IsFirstMoment}

-- the first due call with one more due pair is the first of it and the one so far
pub first_due_of : (xs : List (ℕ × ℕ)) (now : ℕ) (m y w : DueCall) → m.due ≤ now →
    (w ≡ m) ⊎ (w ≡ y) → IsBefore (pair_of w) (pair_of m) → IsBefore (pair_of w) (pair_of y) → IsFirstDue xs now (Some y)
    → IsFirstDue (xs ++ pair_of m ∷ []) now (Some w)
first_due_of xs now m y w due one before_m before_y h =
    let first = All-push (λ p. p.0 ≤ now → IsBefore (pair_of w) p) xs (pair_of m)
    (λ k d within here. IsBefore-trans (pair_of w) (pair_of y) _ before_y (h.2 k d within here)) (λ here. before_m) in
    elim one [
      | inl e ↦ (rw e (Contains-push xs (pair_of m)), rw e due, first)
      | inr e ↦ (rw e (Contains-append_left xs (pair_of m ∷ []) (pair_of y) h.0), rw e h.1, first)
    ]

-- the call of the first due pair
pub first_due_call : (xs : List (ℕ × ℕ)) (now : ℕ) (first : Option DueCall) → IsFirstDue xs now first
    → IsLeastDue xs now (option_map (λ m. m.call) first)
first_due_call xs now None h = h
first_due_call xs now (Some m) h = (m.due, h.0, h.1, h.2)

-- the least moment with one more pair
pub first_moment_none : (m : DueCall) → IsFirstMoment (pair_of m ∷ []) (Some m.due)
first_moment_none m = (m.call, Contains-push [] (pair_of m), All-push (λ p. m.due ≤ p.0) [] (pair_of m) (λ k d lt. absurd (omega (arith, lt))) (omega arith))

pub first_moment_here : (xs : List (ℕ × ℕ)) (m : DueCall) (was : ℕ) → m.due ≤ was → IsFirstMoment xs (Some was)
    → IsFirstMoment (xs ++ pair_of m ∷ []) (Some m.due)
first_moment_here xs m was le h = (
  m.call,
  Contains-push xs (pair_of m),
  All-push (λ p. m.due ≤ p.0) xs (pair_of m) (λ k d lt. omega (arith, le, h.2 k d lt)) (omega arith),
)

pub first_moment_stays : (xs : List (ℕ × ℕ)) (m : DueCall) (was : ℕ) → was ≤ m.due → IsFirstMoment xs (Some was)
    → IsFirstMoment (xs ++ pair_of m ∷ []) (Some was)
first_moment_stays xs m was le h =
    (h.0, Contains-append_left xs (pair_of m ∷ []) (was, h.0) h.1, All-push (λ p. was ≤ p.0) xs (pair_of m) h.2 le)

pub first_moment_of : (xs : List (ℕ × ℕ)) (m : DueCall) (was : Option ℕ) (is : ℕ) → IsFirstMoment xs was
    → MatchOption was (is ≡ m.due) (λ w. is ≡ min m.due w) → IsFirstMoment (xs ++ pair_of m ∷ []) (Some is)
first_moment_of xs m None is h e = rw (h, e) (first_moment_none m)
first_moment_of xs m (Some w) is h e = by (cases_lt w m.due)
  where
    by : (w < m.due) ⊎ (m.due ≤ w) → IsFirstMoment (xs ++ pair_of m ∷ []) (Some is)
    by (inl lt) = let same : is ≡ w = omega (arith, e, lt) in rw same (first_moment_stays xs m w (omega (arith, lt)) h)
    by (inr le) = let same : is ≡ m.due = omega (arith, e, le) in rw same (first_moment_here xs m w le h)
