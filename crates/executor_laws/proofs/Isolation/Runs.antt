-- The runs of one resource: those of its running actions, and those that it begins.
use Rattle.std.proofs.Common.{◌≡◌, ℕ, ◌+◌, ◌≤◌, ◌<◌, Bool, true, false, cond, not, List, [], ◌∷◌, ◌++◌, map, filter, flat_map, nat_eq, Option, Some, None, refl, ap, ap₂, subst, ◌∙◌, add-zero, arith}
use Rattle.std.specs.Prelude.{⊤}
use Rattle.std.specs.List.{AllByRecursion, IsDistinct, list_any}
use Rattle.std.specs.Str.{bytes_eq}
use Rattle.std.proofs.lemmas.Bool.{ne_eqb}
use Rattle.std.proofs.lemmas.List.{map-append}
use Rattle.std.proofs.lemmas.List.Elements.{filter-append}
use Rattle.std.proofs.lemmas.Map.Keys.{IsDistinct-cons, IsDistinct-head, IsDistinct-tail}
use Rattle.std.proofs.lemmas.Simd.{map-map}
use Rattle.std.proofs.lemmas.Slice.Eq.{bytes_eq-Decides}
use Rattle.ocf_types.specs.Kinds.{Change, Event, Step}
use Rattle.ocf_model.specs.LawfulState.{IsLawfulResource, IsLawfulRunning, IsLawfulState}
use Rattle.ocf_model.specs.Resource.{Resource, begun_from, of_call}
use Rattle.ocf_model.specs.State.{State, after, after_all, changed, registered, runs_drawn, stepped}
use Rattle.ocf_types.specs.declared.event.Change.TheVariants as change
use Rattle.ocf_types.specs.declared.event.Step.TheVariants as step
use Rattle.ocf_types.specs.declared.operation.Op.{Op}
use Rattle.ocf_types.specs.declared.operation.Recur.{Recur}
use Rattle.ocf_types.specs.declared.operation.Running.{Running}
use Rattle.ocf_model.specs.RegistryLemmas.{each_filter}
use Rattle.ocf_types.specs.Lemmas.{distinct_none, each_append, each_weaken}
use Rattle.exec_ledger.specs.Actives.{Active, active, active_in, runs_of, active_of}
use Rattle.exec_turn.specs.AgentsLive.{AgentsLive}
use Rattle.executor_laws.specs.Projections.{DistinctKeys, own_runs, run_begun}
use Rattle.executor_laws.proofs.Isolation.Changes.{AreFresh, IsFresh}
use Rattle.executor_laws.proofs.Isolation.Lists.{each_first, each_into, each_last, each_map, each_out, each_unmap, filter-map, owned}
use Rattle.executor_laws.proofs.Isolation.CommandBatches.{AreOwn}
use Rattle.executor_laws.proofs.Isolation.Turns.{AllBeginOwn, BeginsOwn}

-- numbers that rise, the first not below this one
abbrev Rises : ℕ → List ℕ → Type 0
Rises n [] = ⊤
Rises n (y ∷ ys) = (n ≤ y) × Rises (y + 1) ys

rises_differ : (x n : ℕ) (ys : List ℕ) → x < n → Rises n ys → AllByRecursion (λ y. nat_eq x y ≡ false) ys
rises_differ x n [] lt h = tt
rises_differ x n (y ∷ ys) lt h = (ne_eqb x y (λ e. omega (arith, h.0, lt, e)), rises_differ x (y + 1) ys (omega (arith, h.0, lt)) h.1)

rises_distinct : (n : ℕ) (ys : List ℕ) → Rises n ys → IsDistinct nat_eq ys
rises_distinct n [] h = distinct_none nat_eq
rises_distinct n (y ∷ ys) h = IsDistinct-cons nat_eq y ys (rises_differ y (y + 1) ys (omega arith) h.1) (rises_distinct (y + 1) ys h.1)

-- distinct numbers below those that rise
below_distinct : (n : ℕ) (xs ys : List ℕ) → IsDistinct nat_eq xs → AllByRecursion (λ x. x < n) xs → Rises n ys
    → IsDistinct nat_eq (xs ++ ys)
below_distinct n [] ys distinct below h = rises_distinct n ys h
below_distinct n (x ∷ xs) ys distinct below h =
    IsDistinct-cons nat_eq x (xs ++ ys)
    (each_append (λ y. nat_eq x y ≡ false) xs ys (IsDistinct-head nat_eq x xs distinct) (rises_differ x n ys below.0 h))
    (below_distinct n xs ys (IsDistinct-tail nat_eq x xs distinct) below.1 h)

-- an id and its run
abbrev Mark : Type 0
Mark = List ℕ × ℕ

abbrev mark_of : Active → Mark
mark_of a = (a.id, a.running.run)

abbrev marks_begun : Change → List Mark
marks_begun (change.Step id (step.Begin call run)) = (id, run) ∷ []
marks_begun _ = []

abbrev all_begun : List Event → List Mark
all_begun es = flat_map (λ e. marks_begun e.change) es

-- the runs that new events begin rise
begun_rise : (s : State) (es : List Event) → AreFresh s es → Rises s.next_run (map (λ m. m.1) (all_begun es))
begun_rise s [] h = tt
begun_rise s (e ∷ es) h = by e.change h.0 (begun_rise (after s e) es h.1)
  where
    by : (c : Change) → IsFresh s c → Rises (s.next_run + runs_drawn c) (map (λ m. m.1) (all_begun es))
        → Rises s.next_run (map (λ m. m.1) (marks_begun c ++ all_begun es))
    by (change.Step id (step.Begin call run)) next rest = (
      omega (arith, next),
      subst (λ n. Rises n (map (λ m. m.1) (all_begun es)))
          (let same : s.next_run + 1 ≡ run + 1 = omega (arith, next) in same) rest,
    )
    by _ next rest = subst (λ n. Rises n (map (λ m. m.1) (all_begun es))) (add-zero s.next_run) rest

-- all marks of a state and of these events, and which are this resource's
abbrev marks : State → List Event → List Mark
marks s es = map mark_of (active s) ++ all_begun es

abbrev is_its : List ℕ → Mark → Bool
is_its id m = bytes_eq id m.0

marks_distinct : (s : State) (es : List Event) → DistinctKeys s → AreFresh s es → IsDistinct nat_eq (map (λ m. m.1) (marks s es))
marks_distinct s es apart fresh =
    rw (map-append (λ (m : Mark). m.1) (map mark_of (active s)) (all_begun es), map-map (λ (m : Mark). m.1) mark_of (active s))
    (below_distinct s.next_run (runs_of (active s)) (map (λ m. m.1) (all_begun es)) apart.runs apart.below (begun_rise s es fresh))

-- its runs are those of its marks
begun_its : (id : List ℕ) (es : List Event) → map (λ m. m.1) (filter (is_its id) (all_begun es)) ≡ flat_map (λ e. run_begun id e.change) es
begun_its id [] = refl
begun_its id (e ∷ es) =
    ap (map (λ (m : Mark). m.1)) (filter-append (is_its id) (marks_begun e.change) (all_begun es))
    ∙ map-append (λ (m : Mark). m.1) (filter (is_its id) (marks_begun e.change)) (filter (is_its id) (all_begun es))
    ∙ ap₂ (λ (a b : List ℕ). a ++ b) (by e.change) (begun_its id es)
  where
    by_own : (b : Bool) (own : List ℕ) (run : ℕ) → map (λ (m : Mark). m.1) (cond b ((own, run) ∷ []) []) ≡ cond b (run ∷ []) []
    by_own true own run = refl
    by_own false own run = refl

    by : (c : Change) → map (λ (m : Mark). m.1) (filter (is_its id) (marks_begun c)) ≡ run_begun id c
    by (change.Step own (step.Begin call run)) = by_own (bytes_eq id own) own run
    by _ = refl

runs_its : (id : List ℕ) (s : State) (es : List Event) → map (λ m. m.1) (filter (is_its id) (marks s es)) ≡ own_runs id s es
runs_its id s es =
    ap (map (λ (m : Mark). m.1)) (filter-append (is_its id) (map mark_of (active s)) (all_begun es))
    ∙ map-append (λ (m : Mark). m.1) (filter (is_its id) (map mark_of (active s))) (filter (is_its id) (all_begun es))
    ∙ ap₂ (λ (a b : List ℕ). a ++ b)
    (ap (map (λ (m : Mark). m.1)) (filter-map (is_its id) mark_of (active s))
    ∙ map-map (λ (m : Mark). m.1) mark_of (filter (λ a. bytes_eq id a.id) (active s)))
    (begun_its id es)

-- a run is one of its runs
abbrev pub is_mine : List ℕ → State → List Event → ℕ → Bool
is_mine id s es run = list_any (nat_eq run) (own_runs id s es)

abbrev IsSent : (ℕ → Bool) → List ℕ → Mark → Type 0
IsSent mine id m = mine m.1 ≡ bytes_eq id m.0

begin_reported : (mine : ℕ → Bool) (id : List ℕ) (c : Change) → AllByRecursion (IsSent mine id) (marks_begun c) → BeginsOwn mine id c
begin_reported mine id (change.Step own (step.Begin call run)) h = h.0
begin_reported mine id _ h = tt

begins_reported : (mine : ℕ → Bool) (id : List ℕ) (es : List Event) → AllByRecursion (IsSent mine id) (all_begun es) → AllBeginOwn mine id es
begins_reported mine id [] h = tt
begins_reported mine id (e ∷ es) h = (
  begin_reported mine id e.change (each_first (IsSent mine id) (marks_begun e.change) (all_begun es) h),
  begins_reported mine id es (each_last (IsSent mine id) (marks_begun e.change) (all_begun es) h),
)

-- of all runs, its runs are those of its running actions and of its begins
pub runs_own : (id : List ℕ) (s : State) (es : List Event) → DistinctKeys s → AreFresh s es
    → AreOwn (is_mine id s es) id (active s) × AllBeginOwn (is_mine id s es) id es
runs_own id s es apart fresh =
    let mine : ℕ → Bool = is_mine id s es in
    let all : AllByRecursion (IsSent mine id) (marks s es) =
    subst (λ (l : List ℕ). AllByRecursion (IsSent (λ run. list_any (nat_eq run) l) id) (marks s es)) (runs_its id s es)
    (owned (λ (m : Mark). m.1) (is_its id) (marks s es) (marks_distinct s es apart fresh)) in
    let running : AllByRecursion (IsSent mine id) (map mark_of (active s)) = each_first (IsSent mine id) (map mark_of (active s))
    (all_begun es) all in
    let begun : AllByRecursion (IsSent mine id) (all_begun es) = each_last (IsSent mine id) (map mark_of (active s)) (all_begun es) all in
    (each_unmap (IsSent mine id) mark_of (active s) running, begins_reported mine id es begun)

-- the running action of an entry
abbrev EntryOwn : (ℕ → Bool) → List ℕ → List ℕ × Resource → Type 0
EntryOwn mine id e = AreOwn mine id (active_in e)

stepped_own : (mine : ℕ → Bool) (id : List ℕ) (at : ℕ) (what : Step) (e : List ℕ × Resource) → BeginsOwn mine id (change.Step e.0 what)
    → EntryOwn mine id e
    → EntryOwn mine id (e.0, stepped at what e.1)
stepped_own mine id at (step.Begin call run) e own h = by e.1.history.queue (of_call call e.1.recurring)
  where
    by : (q : List Op) (m : Option Recur) → AreOwn mine id (active_of e.0 (begun_from q m run at e.1.history).running)
    by (o ∷ os) m = (own, tt)
    by [] (Some m) = (own, tt)
    by [] None = tt
stepped_own mine id at (step.Result run end) e own h = tt
stepped_own mine id at _ e own h = h

own_changed : (mine : ℕ → Bool) (id : List ℕ) (at : ℕ) (c : Change) (s : State) → IsFresh s c → BeginsOwn mine id c
    → AllByRecursion (EntryOwn mine id) s.resources
    → AllByRecursion (EntryOwn mine id) (changed at c s.resources)
own_changed mine id at (change.Register r) s fresh own h = each_append (EntryOwn mine id) s.resources (registered r ∷ []) h (tt, tt)
own_changed mine id at (change.Unregister other) s fresh own h =
    each_filter (EntryOwn mine id) (λ e. not (bytes_eq other e.0)) s.resources h
own_changed mine id at (change.Step other what) s fresh own h =
    each_map (EntryOwn mine id) (λ e. (e.0, cond (bytes_eq other e.0) (stepped at what e.1) e.1)) s.resources
    (each_weaken (EntryOwn mine id) (λ e. EntryOwn mine id (e.0, cond (bytes_eq other e.0) (stepped at what e.1) e.1))
    (λ e own_e. by e (bytes_eq other e.0) refl own_e) s.resources h)
  where
    by : (e : List ℕ × Resource) (b : Bool) → bytes_eq other e.0 ≡ b → EntryOwn mine id e
        → EntryOwn mine id (e.0, cond b (stepped at what e.1) e.1)
    by e true same h =
        stepped_own mine id at what e
        (subst (λ (k : List ℕ). BeginsOwn mine id (change.Step k what)) ((bytes_eq-Decides other e.0).0 same) own) h
    by e false differs h = h
own_changed mine id at change.Boot s fresh own h = absurd fresh

-- running actions stay known after new events
pub own_stays : (mine : ℕ → Bool) (id : List ℕ) (s : State) (es : List Event) → AreFresh s es → AllBeginOwn mine id es
    → AreOwn mine id (active s) → AreOwn mine id (active (after_all s es))
own_stays mine id s [] fresh own h = h
own_stays mine id s (e ∷ es) fresh own h = own_stays mine id (after s e) es fresh.1 own.1
    (each_out (λ a. mine a.running.run ≡ bytes_eq id a.id) active_in (after s e).resources
    (own_changed mine id e.at e.change s fresh.0 own.0 (each_into (λ a. mine a.running.run ≡ bytes_eq id a.id) active_in s.resources h)))

-- in a lawful state runs are below the next one
running_below : (next_call next_run clock : ℕ) (id : List ℕ) (o : Option Running) → IsLawfulRunning next_call next_run clock o
    → AllByRecursion (λ a. a.running.run < next_run) (active_of id o)
running_below next_call next_run clock id None h = tt
running_below next_call next_run clock id (Some x) h = (h.3, tt)

pub lemma_distinct_keys : (s : State) (live : List ℕ) → IsLawfulState s → AgentsLive s live → DistinctKeys s
lemma_distinct_keys s live lawful agents_live = record {
  ids = lawful.ids;
  runs = agents_live.distinct;
  below = each_map (λ run. run < s.next_run) (λ a. a.running.run) (active s)
      (each_out (λ a. a.running.run < s.next_run) active_in s.resources
      (each_weaken (λ e. IsLawfulResource s.next_call s.next_run s.clock e.1)
      (λ e. AllByRecursion (λ a. a.running.run < s.next_run) (active_in e))
      (λ e own. running_below s.next_call s.next_run s.clock e.0 e.1.history.running own.running) s.resources lawful.resources));
}
