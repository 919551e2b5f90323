-- Prefixes of a list of events that lead to a state, and the longest of them.
use Rattle.std.proofs.Common.{◌≡◌, ◌⊎◌, inl, inr, ⊎_elim, ◌≤◌, ◌<◌, ℕ, Bool, List, [], ◌∷◌, ◌++◌, length, refl, sym, ap, subst, ◌∙◌, append_assoc, arith}
use Rattle.std.specs.List.{list_any}
use Rattle.std.proofs.lemmas.Bool.{cases_lt, or_left}
use Rattle.std.proofs.lemmas.List.{append-nil}
use Rattle.std.proofs.lemmas.List.Folds.{list_any-append}
use Rattle.std.proofs.lemmas.List.Elements.{Contains-append_left, Contains-append_right, Contains-push}
use Rattle.ocf_types.specs.Kinds.{Event}
use Rattle.ocf_model.specs.State.{State, after_all}
use Rattle.child_model.specs.Children.{Asked, IsOfStart}
use Rattle.child_model.specs.declared.answer.Answer.{Answer}
use Rattle.child_model.specs.declared.answer.Answer.TheVariants as asked
use Rattle.child_model.specs.declared.answer.Entry.{Entry}
use Rattle.exec_ledger.specs.Lemmas.{asked_in, asked_none, asked_one}
use Rattle.exec_ledger.specs.Pieces.{HasBegin, is_begin}

-- one prefix extends another
abbrev pub GoesOn : List Event → List Event → Type 0
GoesOn p q = (more : List Event) × (q ≡ p ++ more)

goes_on_self : (p : List Event) → GoesOn p p
goes_on_self p = ([], sym (append-nil p))

-- of two prefixes the longer one extends the other
shorter : (p q r t : List Event) → p ++ r ≡ q ++ t → length p ≤ length q → GoesOn p q
shorter [] q r t same le = (q, refl)
shorter (x ∷ p) [] r t same le = absurd (omega (arith, le))
shorter (x ∷ p) (y ∷ q) r t same le =
    let first : y ≡ x = cc in
    let rest : p ++ r ≡ q ++ t = cc in
    let on = shorter p q r t rest (omega (arith, le)) in
    (on.0, λ k. first k ∷ on.1 k)

-- a begin among some events is among more
grown : (run : ℕ) (p more : List Event) → HasBegin run p → HasBegin run (p ++ more)
grown run p more h =
    let begins : Event → Bool = λ e. is_begin run e.change in
    list_any-append begins p more ∙ or_left (list_any begins p) (list_any begins more) h

pub begin_among : (run : ℕ) (p q : List Event) → GoesOn p q → HasBegin run p → HasBegin run q
begin_among run p q on h = subst (λ (l : List Event). HasBegin run l) (sym on.1) (grown run p on.0 h)

-- an answer is that of a start or not
is_start : (a : Answer) → IsOfStart a ⊎ (IsOfStart a → ⊥)
is_start (asked.Start answer) = inl tt
is_start (asked.Poll answer) = inr (λ h. h)
is_start (asked.Kill answer) = inr (λ h. h)

asked_here : (e : Entry) (xs : List Entry) → IsOfStart e.answer → Asked (e ∷ xs) e.run e.at
asked_here e xs start = (e.answer, start, Contains-append_left (e ∷ []) xs e (Contains-push [] e))

asked_later : (e : Entry) (xs : List Entry) (run clock : ℕ) → Asked xs run clock → Asked (e ∷ xs) run clock
asked_later e xs run clock h = (h.0, h.1, Contains-append_right (e ∷ []) xs (record { run = run; at = clock; answer = h.0 }) h.2)

-- this state is the one after a prefix of these events
pub record PrefixOf (s : State) (all : List Event) (x : State) (p : List Event) : Type 0 where
  pub others : List Event
  pub prefix : p ++ others ≡ all
  pub found : x ≡ after_all s p

module _ (s : State) (all : List Event) (x : State) (stop : ℕ) where
  -- of two prefixes one extends both
  longer : (p q : List Event) → PrefixOf s all x p → PrefixOf s all x q
      → (r : List Event) × PrefixOf s all x r × GoesOn p r × GoesOn q r
  longer p q f g = ⊎_elim
      (λ lt. (p, f, goes_on_self p, shorter q p g.others f.others (g.prefix ∙ sym f.prefix) (omega (arith, lt))))
      (λ le. (q, g, shorter p q f.others g.others (f.prefix ∙ sym g.prefix) le, goes_on_self q))
      (cases_lt (length q) (length p))

  -- the begins of all starts that were asked up to a moment are among these events
  abbrev pub AllBegun : List Entry → List Event → Type 0
  AllBegun xs p = (run clock : ℕ) → Asked xs run clock → clock ≤ stop → HasBegin run p

  -- for each start that was asked up to a moment there is a prefix with its begin
  abbrev pub EachBegun : List Entry → Type 0
  EachBegun xs = (run clock : ℕ) → Asked xs run clock → clock ≤ stop → (q : List Event) × PrefixOf s all x q × HasBegin run q

  -- then one prefix has all of them, and extends any given one
  pub all_begun : (xs : List Entry) → EachBegun xs → (p : List Event) → PrefixOf s all x p
      → (r : List Event) × PrefixOf s all x r × GoesOn p r × AllBegun xs r
  all_begun [] each p f = (p, f, goes_on_self p, λ run clock asked le. absurd (asked_none run clock asked))
  all_begun (e ∷ xs) each p f =
      let rest = all_begun xs (λ run clock asked le. each run clock (asked_later e xs run clock asked) le) p f in
      by (is_start e.answer) (cases_lt stop e.at) rest
    where
      same_entry : (run clock : ℕ) (h : Asked (e ∷ []) run clock) → e ≡ record { run = run; at = clock; answer = h.0 }
      same_entry run clock h = asked_one e (record { run = run; at = clock; answer = h.0 }) h.2

      by : (IsOfStart e.answer ⊎ (IsOfStart e.answer → ⊥)) → (stop < e.at) ⊎ (e.at ≤ stop)
          → (r : List Event) × PrefixOf s all x r × GoesOn p r × AllBegun xs r
          → (r : List Event) × PrefixOf s all x r × GoesOn p r × AllBegun (e ∷ xs) r
      by (inr none) when (r, g, on, begun) = (
        r,
        g,
        on,
        λ run clock asked le. ⊎_elim
            (λ here. absurd (none (subst IsOfStart (ap (λ (x : Entry). x.answer) (sym (same_entry run clock here))) here.1)))
            (λ there. begun run clock there le)
            (asked_in (e ∷ []) xs run clock asked),
      )
      by (inl start) (inl later) (r, g, on, begun) = (
        r,
        g,
        on,
        λ run clock asked le. ⊎_elim
            (λ here. let at = ap (λ (x : Entry). x.at) (same_entry run clock here) in absurd (omega (arith, at, later, le)))
            (λ there. begun run clock there le)
            (asked_in (e ∷ []) xs run clock asked),
      )
      by (inl start) (inr before) (r, g, on, begun) =
          let own = each e.run e.at (asked_here e xs start) before in
          let both = longer r own.0 g own.1 in (
            both.0,
            both.1,
            (on.0 ++ both.2.0, both.2.1 ∙ ap (λ (l : List Event). l ++ both.2.0) on.1 ∙ append_assoc p on.0 both.2.0),
            λ run clock asked le. ⊎_elim
                (λ here. subst (λ n. HasBegin n both.0) (ap (λ (x : Entry). x.run) (same_entry run clock here))
                (begin_among e.run own.0 both.0 both.3 own.2))
                (λ there. begin_among run r both.0 both.2 (begun run clock there le))
                (asked_in (e ∷ []) xs run clock asked),
          )
