-- Starts: the entries in the book, the live runs, and the results of refused ones.
use Rattle.std.proofs.Common.{◌≡◌, ⊎_elim, ℕ, ◌+◌, ◌-◌, ◌≤◌, ◌<◌, nat_eq, false, List, [], ◌∷◌, ◌++◌, map, length, get_or, refl, sym, ◌∙◌, ap, subst, arith, append_assoc, length-append, Result, Ok, Err}
use Rattle.std.specs.List.{AllByRecursion, Contains, IsDistinct, flat_map}
use Rattle.std.specs.Map.{keys_of}
use Rattle.std.specs.Str.{bytes_eq}
use Rattle.std.proofs.lemmas.List.{append-nil, length-map, map-append}
use Rattle.std.proofs.lemmas.List.Concat.{flat_map-append}
use Rattle.std.proofs.lemmas.List.Elements.{All-from_recursion}
use Rattle.std.proofs.lemmas.List.Sums.{fold-append}
use Rattle.std.proofs.lemmas.Map.Keys.{IsDistinct-cons, IsDistinct-head, IsDistinct-tail}
use Rattle.ocf_types.specs.Kinds.{Event}
use Rattle.ocf_model.specs.LawfulState.{IsLawfulState}
use Rattle.ocf_types.specs.Limits.{resources_limit}
use Rattle.ocf_types.specs.Numbers.{IsMoment}
use Rattle.ocf_model.specs.State.{State, after, after_all}
use Rattle.ocf_types.specs.declared.outcome.RunEnd.TheVariants.{NotStarted}
use Rattle.ocf_types.specs.declared.outcome.StartFault.{StartFault}
use Rattle.ocf_types.specs.declared.notice.Notice.{Notice}
use Rattle.child_model.specs.Children.{ChildrenView, after_start, live_started, start_answer}
use Rattle.exec_ledger.specs.Actives.{Active, runs_of}
use Rattle.exec_turn.specs.Actives.{notice_of, result_of}
use Rattle.exec_turn.specs.AgentsLive.{AgentsLive, AgentsLiveBut}
use Rattle.exec_ledger.specs.Batches.{MayRecord}
use Rattle.exec_turn.specs.Starts.{AllRun, Rising, Started, Starts, after_starts, refusals, refused_end, starts}
use Rattle.exec_turn.proofs.Results.{AtMostOne, ResultsFit, agents_result, differs, each_of_all, ended_may_record, never_itself, run_on, same_keys}
use Rattle.std.proofs.lemmas.List.Sorted.{Contains-permutation, IsPermutation-middle}
use Rattle.ocf_types.specs.Lemmas.{distinct_none}
use Rattle.ocf_types.specs.Lawful.{IsRunEnd}
use Rattle.child_model.specs.Lemmas.{first_or_rest}
use Rattle.child_model.specs.declared.answer.Entry.{Entry}

-- a fact of each holds of the one at an index
pub each_at : {X : Type 0} (P : X → Type 0) (xs : List X) (i : ℕ) (x : X) → AllByRecursion P xs → i < length xs → x ≡ get_or xs i x → P x
each_at P xs i x all lt is = subst P (sym is) (All-from_recursion P xs all i x lt)

abbrev pub whats : List Started → List Active
whats xs = map (λ x. x.what) xs

one_more : {X : Type 0} (f : Started → List X) (xs : List Started) (x : Started) → flat_map f (xs ++ x ∷ []) ≡ flat_map f xs ++ f x
one_more f xs x = flat_map-append f xs (x ∷ []) ∙ ap (λ l. flat_map f xs ++ l) (append-nil (f x))

-- these starts, and one more
pub starts_more : (at clock : ℕ) (all : List Active) (a : Active) (v w x : ChildrenView) (batch batch2 : List Event) (reported sent2 : List Notice)
    (answer : Result Unit StartFault)
    → Starts at clock all v w batch reported → x ≡ after_start w a.running.run clock answer
    → batch2 ≡ batch ++ map (result_of at a) (refused_end answer) → sent2 ≡ reported ++ map (notice_of at a) (refused_end answer)
    → Starts at clock (all ++ a ∷ []) v x batch2 sent2
starts_more at clock all a v w x batch batch2 reported sent2 answer so_far view batch_is reported_is =
    let xs = so_far.answers in
    let y : Started = record { what = a; answer = answer } in
    record {
      answers = xs ++ y ∷ [];
      each = map-append (λ (z : Started). z.what) xs (y ∷ []) ∙ ap (λ (l : List Active). l ++ a ∷ []) so_far.each;
      children = view ∙ ap (λ (u : ChildrenView). after_start u a.running.run clock answer) so_far.children
          ∙ sym (fold-append (λ (u : ChildrenView) (z : Started). after_start u z.what.running.run clock z.answer) v xs (y ∷ []));
      batch_is = batch_is ∙ ap (λ (l : List Event). l ++ map (result_of at a) (refused_end answer)) so_far.batch_is
          ∙ sym (one_more (λ z. map (result_of at z.what) (refused_end z.answer)) xs y);
      reported_is = reported_is ∙ ap (λ (l : List Notice). l ++ map (notice_of at a) (refused_end answer)) so_far.reported_is
          ∙ sym (one_more (λ z. map (notice_of at z.what) (refused_end z.answer)) xs y);
    }

-- a start adds at most one live run
pub one_live : (run : ℕ) (live : List ℕ) (answer : Result Unit StartFault) → length (live_started answer run live) ≤ length live + 1
one_live run live (Ok x) = omega (arith, length-append live (run ∷ []))
one_live run live (Err fault) = omega arith

-- book and log get the entries of starts, and the site, what is held and what was given up stay
pub starts_as : (clock : ℕ) (v : ChildrenView) (xs : List Started)
    → ((after_starts clock v xs).book ≡ v.book ++ starts clock xs) × ((after_starts clock v xs).log ≡ v.log ++ starts clock xs)
    × ((after_starts clock v xs).site ≡ v.site) × ((after_starts clock v xs).held ≡ v.held)
    × ((after_starts clock v xs).given_up ≡ v.given_up)
starts_as clock v [] = (sym (append-nil v.book), sym (append-nil v.log), refl, refl, refl)
starts_as clock v (x ∷ xs) =
    let entry : Entry = record { run = x.what.running.run; at = clock; answer = start_answer x.answer } in
    let rest = starts_as clock (after_start v x.what.running.run clock x.answer) xs in (
      rest.0 ∙ append_assoc v.book (entry ∷ []) (starts clock xs),
      rest.1 ∙ append_assoc v.log (entry ∷ []) (starts clock xs),
      rest.2,
      rest.3,
      rest.4,
    )

-- the book has room for fewer entries by those of starts
pub starts_room : (clock : ℕ) (v : ChildrenView) (xs : List Started) → (after_starts clock v xs).room ≡ v.room - length (starts clock xs)
starts_room clock v [] = omega arith
starts_room clock v (x ∷ xs) = let rest = starts_room clock (after_start v x.what.running.run clock x.answer) xs in omega (arith, rest)

-- the last run whose start was asked
pub starts_last : (clock n : ℕ) (v : ChildrenView) (xs : List Started) → v.last_run < n
    → AllByRecursion (λ k. k < n) (runs_of (whats xs)) → (after_starts clock v xs).last_run < n
starts_last clock n v [] low below = low
starts_last clock n v (x ∷ xs) low below = starts_last clock n (after_start v x.what.running.run clock x.answer) xs below.0 below.1

-- runs that rise differ
rising_above : (low n : ℕ) (bs : List Active) → n ≤ low → Rising low bs → AllByRecursion (λ m. nat_eq n m ≡ false) (runs_of bs)
rising_above low n [] le h = tt
rising_above low n (b ∷ bs) le h =
    (differs n b.running.run (λ is. omega (arith, is, le, h.0)), rising_above b.running.run n bs (omega (arith, le, h.0)) h.1)

rising_apart : (low : ℕ) (bs : List Active) → Rising low bs → IsDistinct nat_eq (runs_of bs)
rising_apart low [] h = distinct_none nat_eq
rising_apart low (b ∷ bs) h =
    let n = b.running.run in
    IsDistinct-cons nat_eq n (runs_of bs) (rising_above n n bs (omega arith) h.1) (rising_apart n bs h.1)

-- a start makes at most one result, which has an encoding
one_refusal : (x : Started) → AtMostOne (refused_end x.answer)
one_refusal x = by x.answer
  where
    by : (answer : Result Unit StartFault) → AtMostOne (refused_end answer)
    by (Ok y) = tt
    by (Err fault) = tt

lawful_refusal : (x : Started) → AllByRecursion IsRunEnd (refused_end x.answer)
lawful_refusal x = by x.answer
  where
    by : (answer : Result Unit StartFault) → AllByRecursion IsRunEnd (refused_end answer)
    by (Ok y) = tt
    by (Err fault) = (tt, tt)

-- the batch of refused starts may be recorded
pub refusals_may_record : (s : State) (tail at last : ℕ) (xs : List Started) → ResultsFit → IsLawfulState s → s.clock ≤ at → IsMoment at
    → length xs ≤ resources_limit → AllRun s (whats xs) → Rising last (whats xs) → MayRecord s tail (refusals at xs)
refusals_may_record s tail at last xs fit lawful later moment few run rising =
    ended_may_record (λ x. x.what) (λ x. refused_end x.answer) one_refusal fit s tail at xs lawful later moment few run
    (rising_apart last (whats xs) rising) (each_of_all (λ x. AllByRecursion IsRunEnd (refused_end x.answer)) lawful_refusal xs)

-- another run stays among these where one is left out
still_among : (live : List ℕ) (n : ℕ) (more : List ℕ) (m : ℕ) → nat_eq n m ≡ false → Contains (live ++ n ∷ more) m
    → Contains (live ++ more) m
still_among live n more m apart among = ⊎_elim
    (λ same. absurd (never_itself n m apart same))
    (λ rest. rest)
    (first_or_rest n m (live ++ more)
    (Contains-permutation (live ++ n ∷ more) (n ∷ (live ++ more)) m (IsPermutation-middle live n more) among))

agents_after : (s : State) (at clock : ℕ) (v : ChildrenView) (xs : List Started) → IsDistinct bytes_eq (keys_of s.resources)
    → AllRun s (whats xs) → IsDistinct nat_eq (runs_of (whats xs)) → AgentsLive s (v.live ++ runs_of (whats xs))
    → AgentsLive (after_all s (refusals at xs)) (after_starts clock v xs).live
agents_after s at clock v [] distinct run apart agents = subst (AgentsLive s) (append-nil v.live) agents
agents_after s at clock v (x ∷ xs) distinct run apart agents =
    let n = x.what.running.run in
    let others = runs_of (whats xs) in
    let rest = IsDistinct-tail nat_eq n others apart in
    by x.answer
    (λ y. agents_after s at clock (after_start v n clock (Ok y)) xs distinct run.1 rest
    (subst (AgentsLive s) (sym (append_assoc v.live (n ∷ []) others)) agents))
    (λ fault. let end = NotStarted fault in
    agents_after (after s (result_of at x.what end)) at clock (after_start v n clock (Err fault)) xs
    (same_keys s at x.what end distinct) (run_on s at x.what end (whats xs) run.0 (IsDistinct-head nat_eq n others apart) run.1) rest
    (agents_result s at x.what end (v.live ++ n ∷ others) (v.live ++ others) distinct run.0 (λ m apart among. still_among v.live n others m apart among)
    (λ has. omega (arith, length-append v.live (n ∷ others), length-append v.live others)) agents))
  where
    by : (o : Result Unit StartFault)
        → ((y : Unit) → AgentsLive (after_all s (refusals at xs))
        (after_starts clock (after_start v x.what.running.run clock (Ok y)) xs).live)
        → ((fault : StartFault) → AgentsLive (after_all (after s (result_of at x.what (NotStarted fault))) (refusals at xs))
        (after_starts clock (after_start v x.what.running.run clock (Err fault)) xs).live)
        → AgentsLive (after_all s (map (result_of at x.what) (refused_end o) ++ refusals at xs))
        (after_starts clock (after_start v x.what.running.run clock o) xs).live
    by (Ok y) started refused = started y
    by (Err fault) started refused = refused fault

-- after the starts and the results of the refused ones the agent process of each running action lives
pub starts_tend : (s : State) (at clock last : ℕ) (v : ChildrenView) (xs : List Started) → IsDistinct bytes_eq (keys_of s.resources)
    → AllRun s (whats xs) → Rising last (whats xs) → AgentsLiveBut s v.live (whats xs)
    → AgentsLive (after_all s (refusals at xs)) (after_starts clock v xs).live
starts_tend s at clock last v xs distinct run rising agents =
    agents_after s at clock v xs distinct run (rising_apart last (whats xs) rising) (record {
      each_lives = agents.each_lives;
      distinct = agents.distinct;
      few = omega (arith, agents.few, length-append v.live (runs_of (whats xs)), length-map (whats xs) (λ (a : Active). a.running.run));
    })
