-- What the condition of a resource never is.
use Rattle.std.proofs.Common.{◌≡◌, ℕ, ◌<◌, ◌≤◌, ◌==◌, Bool, true, false, cond, List, [], ◌∷◌, ◌++◌, Option, Some, None, refl, sym, subst, arith, eqb-true}
use Rattle.std.specs.Prelude.{⊤, fold, nat_lt}
use Rattle.std.proofs.lemmas.Bool.{false_from_ne_true, le-ltb, lt-ltb}
use Rattle.std.specs.List.{AllByRecursion}
use Rattle.ocf_types.specs.declared.operation.Ended.{Ended}
use Rattle.resource_status.specs.Conditions.{after, condition_by, given_up, is_bad, is_stop, is_up, judged, known_of, lasts, shown_by, up_in, worsened, written_by}
use Rattle.resource_status.specs.Laws.{DownIsBad, FailedIsBad, IsDown, IsGoodAfter, IsOver, IsStarted, ShowsBad, ShowsDown, ShowsGood, ShowsNone, StartedIsWell}
use Rattle.resource_status.specs.declared.condition.Condition.{Condition}
use Rattle.resource_status.specs.declared.condition.Condition.TheVariants.{NeverRun, Started, Promoted, Stopped, Failed, Unknown}
use Rattle.resource_status.specs.declared.condition.Known.{Known}

-- what is known after a result, by the condition that it shows
abbrev after_by : Option Known → Ended → Option Condition → Option Known
after_by k e None = k
after_by k e (Some c) = Some (shown_by k e c)

after_is : (k : Option Known) (e : Ended) (o : Option Condition) → written_by e.action e.outcome ≡ o → after k e ≡ after_by k e o
after_is k e None is = rw is refl
after_is k e (Some c) is = rw is refl

-- something that holds of what is known after a result, and stays so after each later one, holds in the end
module _ (Holds : Option Known → Type 0) (Is : Ended → Type 0) (stays : (k : Option Known) (x : Ended) → Holds k → Is x → Holds (after k x)) where
  kept : (later : List Ended) (k : Option Known) → Holds k → AllByRecursion Is later → Holds (fold after k later)
  kept [] k holds all = holds
  kept (x ∷ xs) k holds all = kept xs (after k x) (stays k x holds all.0) all.1

module _ (Holds : Option Known → Type 0) (Is Was : Ended → Type 0) (Before : Option Known → Type 0) (later : List Ended) (e : Ended)
    (early : (k : Option Known) (x : Ended) → Before k → Was x → Before (after k x))
    (begins : (k : Option Known) → Before k → Holds (after k e))
    (stays : (k : Option Known) (x : Ended) → Holds k → Is x → Holds (after k x)) (all : AllByRecursion Is later) where
  reached : (before : List Ended) (k : Option Known) → Before k → AllByRecursion Was before → Holds (fold after k (before ++ e ∷ later))
  reached [] k was were = kept Holds Is stays later (after k e) (begins k was) all
  reached (x ∷ xs) k was were = reached xs (after k x) (early k x was were.0) were.1

always : {A : Type 0} (xs : List A) → AllByRecursion (λ x. ⊤) xs
always [] = tt
always (x ∷ xs) = (tt, always xs)

-- tests of numbers
not_equal : (a b : ℕ) → a < b → (a == b) ≡ false
not_equal a b lt = false_from_ne_true (a == b) (λ e. let same = eqb-true a b e in omega (arith, lt, same))

not_less : (a b : ℕ) → b ≤ a → nat_lt a b ≡ false
not_less a b le = le-ltb a b le

is_less : (a b : ℕ) → a < b → nat_lt a b ≡ true
is_less a b lt = lt-ltb a b lt

-- a resource is well, and has run since this run
abbrev IsWell : ℕ → Option Known → Type 0
IsWell run None = ⊥
IsWell run (Some k) = (is_bad k.condition ≡ false) × (run ≤ k.run) × (run ≤ k.up)

well_up : (run now up : ℕ) (is : Bool) → run ≤ now → run ≤ up → run ≤ cond is now up
well_up run now up true first second = first
well_up run now up false first second = second

well_stays : (run : ℕ) (k : Option Known) (x : Ended) (o : Option Condition) → written_by x.action x.outcome ≡ o → IsWell run k → ShowsGood run x.run o
    → IsWell run (after k x)
well_stays run None x o is well good = absurd well
well_stays run (Some k) x None is well good = subst (IsWell run) (sym (after_is (Some k) x None is)) well
well_stays run (Some k) x (Some c) is well good =
    subst (IsWell run) (sym (after_is (Some k) x (Some c) is)) (good.0, good.1, well_up run x.run k.up (is_up c) good.1 well.2)

judged_well : (run : ℕ) (k : Known) (failed : Option Ended) → IsWell run (Some k) → IsOver run failed → is_bad (judged k failed) ≡ false
judged_well run k None well over = well.0
judged_well run k (Some f) well over =
    let apart : (f.run == k.run) ≡ false = not_equal f.run k.run (omega (arith, over, well.1)) in
    let past : nat_lt k.up f.run ≡ false = not_less k.up f.run (omega (arith, over, well.2)) in
    rw (apart, past) well.0

known_well : (run : ℕ) (cut : Bool) (k : Option Known) (failed : Option Ended) → IsWell run k → IsOver run failed
    → is_bad (condition_by (record { known = k; cut = cut }) failed) ≡ false
known_well run cut None failed well over = absurd well
known_well run cut (Some k) failed well over = judged_well run k failed well over

started : (e : Ended) → IsStarted e → written_by e.action e.outcome ≡ Some Started
started e is = rw (is.0, is.1) refl

pub started_is_well : StartedIsWell
started_is_well cut before later e failed is good over =
    let begins : (k : Option Known) → ⊤ → IsWell e.run (after k e) =
    λ k _. subst (IsWell e.run) (sym (after_is k e (Some Started) (started e is))) (refl, omega arith, omega arith) in
    known_well e.run cut (known_of (before ++ e ∷ later)) failed
    (reached (IsWell e.run) (IsGoodAfter e) (λ x. ⊤) (λ k. ⊤) later e (λ k x _ _. tt) begins
    (λ k x well shows. well_stays e.run k x (written_by x.action x.outcome) refl well shows) good before None tt (always before))
    over

-- what is known is bad
abbrev IsBad : Option Known → Type 0
IsBad None = ⊥
IsBad (Some k) = is_bad k.condition ≡ true

always_bad : (c : Condition) → is_bad (worsened c) ≡ true
always_bad NeverRun = refl
always_bad Started = refl
always_bad Promoted = refl
always_bad Stopped = refl
always_bad Failed = refl
always_bad Unknown = refl

given_up_bad : (c : Condition) → is_bad c ≡ true → is_bad (given_up c) ≡ true
given_up_bad NeverRun is = is
given_up_bad Started is = is
given_up_bad Promoted is = is
given_up_bad Stopped is = refl
given_up_bad Failed is = is
given_up_bad Unknown is = is

-- one of three conditions, each of which is bad
one_bad : (first second : Bool) (a b c : Condition) → is_bad a ≡ true → is_bad b ≡ true → is_bad c ≡ true
    → is_bad (cond first a (cond second b c)) ≡ true
one_bad true second a b c one two three = one
one_bad false true a b c one two three = two
one_bad false false a b c one two three = three

first_bad : (first : Bool) (a b : Condition) → is_bad a ≡ true → is_bad b ≡ true → is_bad (cond first a b) ≡ true
first_bad true a b one two = one
first_bad false a b one two = two

judged_bad : (k : Known) (failed : Option Ended) → is_bad k.condition ≡ true → is_bad (judged k failed) ≡ true
judged_bad k None is = is
judged_bad k (Some f) is =
    one_bad (f.run == k.run) (lasts k f) (worsened k.condition) (given_up k.condition) k.condition (always_bad k.condition) (given_up_bad k.condition is) is

known_bad : (cut : Bool) (k : Option Known) (failed : Option Ended) → IsBad k → is_bad (condition_by (record { known = k; cut = cut }) failed) ≡ true
known_bad cut None failed is = absurd is
known_bad cut (Some k) failed is = judged_bad k failed is

bad_begins : (k : Option Known) (e : Ended) (o : Option Condition) → written_by e.action e.outcome ≡ o → ShowsBad o → IsBad (after k e)
bad_begins k e None is shows = absurd shows
bad_begins k e (Some c) is shows = subst IsBad (sym (after_is k e (Some c) is)) shows

pub failed_is_bad : FailedIsBad
failed_is_bad cut before later e failed shows none =
    known_bad cut (known_of (before ++ e ∷ later)) failed
    (reached IsBad ShowsNone (λ x. ⊤) (λ k. ⊤) later e (λ k x _ _. tt) (λ k _. bad_begins k e (written_by e.action e.outcome) refl shows)
    (λ k x bad nothing. subst IsBad (sym (after_is k x None nothing)) bad) none before None tt (always before))

-- no result of this run or a later one shows that the resource runs
abbrev IsLess : ℕ → Option Known → Type 0
IsLess run None = ⊤
IsLess run (Some k) = k.up < run

abbrev IsDownSince : ℕ → Option Known → Type 0
IsDownSince run None = ⊥
IsDownSince run (Some k) = (is_bad (given_up k.condition) ≡ true) × (k.up < run)

less_before : (run : ℕ) (k : Option Known) → 0 < run → IsLess run k → up_in k Stopped 0 < run
less_before run None some less = some
less_before run (Some k) some less = less

less_up : (run now : ℕ) (k : Option Known) (c : Condition) → 0 < run → now < run → IsLess run k → up_in k c now < run
less_up run now k NeverRun some lt less = less_before run k some less
less_up run now k Started some lt less = lt
less_up run now k Promoted some lt less = lt
less_up run now k Stopped some lt less = less_before run k some less
less_up run now k Failed some lt less = less_before run k some less
less_up run now k Unknown some lt less = less_before run k some less

less_stays : (run : ℕ) (k : Option Known) (x : Ended) (o : Option Condition) → 0 < run → written_by x.action x.outcome ≡ o → x.run < run → IsLess run k
    → IsLess run (after k x)
less_stays run k x None some is lt less = subst (IsLess run) (sym (after_is k x None is)) less
less_stays run k x (Some c) some is lt less = subst (IsLess run) (sym (after_is k x (Some c) is)) (less_up run x.run k c some lt less)

down_up : (run now : ℕ) (k : Option Known) (c : Condition) → 0 < run → is_bad (given_up c) ≡ true → IsLess run k → up_in k c now < run
down_up run now k NeverRun some bad less = less_before run k some less
down_up run now k Started some bad less = absurd cc
down_up run now k Promoted some bad less = absurd cc
down_up run now k Stopped some bad less = less_before run k some less
down_up run now k Failed some bad less = less_before run k some less
down_up run now k Unknown some bad less = less_before run k some less

down_begins : (run : ℕ) (k : Option Known) (e : Ended) (o : Option Condition) → 0 < run → written_by e.action e.outcome ≡ o → ShowsBad o → IsLess run k
    → IsDownSince run (after k e)
down_begins run k e None some is shows less = absurd shows
down_begins run k e (Some c) some is shows less =
    let bad = given_up_bad c shows in
    subst (IsDownSince run) (sym (after_is k e (Some c) is)) (bad, down_up run e.run k c some bad less)

down_stays : (run : ℕ) (k : Option Known) (x : Ended) (o : Option Condition) → 0 < run → written_by x.action x.outcome ≡ o → ShowsDown o
    → IsDownSince run k → IsDownSince run (after k x)
down_stays run None x o some is shows down = absurd down
down_stays run (Some k) x None some is shows down = subst (IsDownSince run) (sym (after_is (Some k) x None is)) down
down_stays run (Some k) x (Some c) some is shows down =
    subst (IsDownSince run) (sym (after_is (Some k) x (Some c) is)) (shows, down_up run x.run (Some k) c some shows down.1)

known_down : (run : ℕ) (cut : Bool) (k : Option Known) (f : Ended) → IsDownSince run k → run ≤ f.run → is_stop f.action ≡ false
    → is_bad (condition_by (record { known = k; cut = cut }) (Some f)) ≡ true
known_down run cut None f down le other = absurd down
known_down run cut (Some k) f down le other =
    let past : nat_lt k.up f.run ≡ true = is_less k.up f.run (omega (arith, down.1, le)) in
    let last : lasts k f ≡ true = rw (past, other) refl in
    rw last (first_bad (f.run == k.run) (worsened k.condition) (given_up k.condition) (always_bad k.condition) down.0)

pub down_is_bad : DownIsBad
down_is_bad cut before later e f shows some early down le other =
    known_down e.run cut (known_of (before ++ e ∷ later)) f
    (reached (IsDownSince e.run) IsDown (λ x. x.run < e.run) (IsLess e.run) later e
    (λ k x less lt. less_stays e.run k x (written_by x.action x.outcome) some refl lt less)
    (λ k less. down_begins e.run k e (written_by e.action e.outcome) some refl shows less)
    (λ k x is shows_down. down_stays e.run k x (written_by x.action x.outcome) some refl shows_down is) down before None tt early)
    le other
