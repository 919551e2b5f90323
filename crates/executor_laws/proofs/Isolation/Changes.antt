-- A resource and its due moments after an event are those of its own machine, whatever the other resources are.
use Rattle.std.proofs.Common.{◌≡◌, ◌≢◌, ℕ, ◌+◌, ◌≤◌, ◌==◌, Bool, true, false, cond, not, is_some, List, [], ◌∷◌, ◌++◌, filter, find, Option, Some, None, option_map, refl, sym, ap, subst, ◌∙◌, arith}
use Rattle.std.specs.Prelude.{⊤}
use Rattle.std.specs.Map.{lookup}
use Rattle.std.specs.Option.{option_map_or}
use Rattle.std.specs.Str.{bytes_eq}
use Rattle.std.proofs.lemmas.Bool.{both_ways}
use Rattle.std.proofs.lemmas.List.Elements.{filter-append}
use Rattle.std.proofs.lemmas.Slice.Eq.{bytes_eq-Decides}
use Rattle.std.proofs.lemmas.Map.Entries.{lookup-filter-keys}
use Rattle.ocf_model.specs.Due.{Due, due_after, or_else, sets, step_sets}
use Rattle.ocf_types.specs.Kinds.{Change, Event, Step}
use Rattle.ocf_model.specs.Resource.{Resource, of_call}
use Rattle.ocf_model.specs.State.{State, after, after_all, at_id, calls_drawn, changed, named, registered, resource_at, runs_drawn, stepped}
use Rattle.ocf_types.specs.declared.event.Change.TheVariants as change
use Rattle.ocf_types.specs.declared.event.Step.TheVariants as step
use Rattle.ocf_model.specs.RegistryLemmas.{other_id, other_stays, same_id}
use Rattle.exec_ledger.specs.BatchStarts.{due_after_all}
use Rattle.executor_laws.specs.Projections.{events_of}
use Rattle.executor_laws.specs.Isolated.{Isolated, above_call, above_run, has_monitor, isolated_after, isolated_after_all, isolated_changed, isolated_sets}

-- the numbers that a change draws are the next ones, and the id that it registers is not there; no boot
abbrev pub IsFresh : State → Change → Type 0
IsFresh s (change.Register r) = resource_at s r.id ≡ None
IsFresh s (change.Step id (step.Exec o)) = o.call ≡ s.next_call
IsFresh s (change.Step id (step.Recur m)) = m.call ≡ s.next_call
IsFresh s (change.Step id (step.Begin call run)) = run ≡ s.next_run
IsFresh s change.Boot = ⊥
IsFresh s _ = ⊤

abbrev pub AreFresh : State → List Event → Type 0
AreFresh s [] = ⊤
AreFresh s (e ∷ es) = IsFresh s e.change × AreFresh (after s e) es

module _ {A : Type 0} where
  lookup-own : (id : List ℕ) (f : A → A) (es : List (List ℕ × A))
      → lookup (bytes_eq id) (at_id id f es) ≡ option_map f (lookup (bytes_eq id) es)
  lookup-own id f [] = refl
  lookup-own id f (e ∷ es) = by (bytes_eq id e.0) (lookup-own id f es)
    where
      by : (b : Bool) → lookup (bytes_eq id) (at_id id f es) ≡ option_map f (lookup (bytes_eq id) es)
          → cond b (Some (cond b (f e.1) e.1)) (lookup (bytes_eq id) (at_id id f es))
          ≡ option_map f (cond b (Some e.1) (lookup (bytes_eq id) es))
      by true k = refl
      by false k = k

  lookup-push : (id : List ℕ) (es : List (List ℕ × A)) (e : List ℕ × A) → lookup (bytes_eq id) es ≡ None → bytes_eq id e.0 ≡ true
      → lookup (bytes_eq id) (es ++ e ∷ []) ≡ Some e.1
  lookup-push id [] e none own = rw own refl
  lookup-push id (x ∷ xs) e none own = by (bytes_eq id x.0) none (λ h. lookup-push id xs e h own)
    where
      by : (b : Bool) → cond b (Some x.1) (lookup (bytes_eq id) xs) ≡ None
          → (lookup (bytes_eq id) xs ≡ None → lookup (bytes_eq id) (xs ++ e ∷ []) ≡ Some e.1)
          → cond b (Some x.1) (lookup (bytes_eq id) (xs ++ e ∷ [])) ≡ Some e.1
      by true h k = absurd (cc)
      by false h k = k h

  -- an element found among fewer is found among all
  find_fewer : (test pass : A → Bool) (xs : List A) → is_some (find test (filter pass xs)) ≡ true → is_some (find test xs) ≡ true
  find_fewer test pass [] h = h
  find_fewer test pass (x ∷ xs) h = by (pass x) (test x) refl h (find_fewer test pass xs)
    where
      by : (p t : Bool) → test x ≡ t → is_some (find test (cond p (x ∷ filter pass xs) (filter pass xs))) ≡ true
          → (is_some (find test (filter pass xs)) ≡ true → is_some (find test xs) ≡ true) → is_some (cond t (Some x) (find test xs)) ≡ true
      by p true e h k = refl
      by true false e h k = k (rw e at h)
      by false false e h k = k h

  -- an element found with one more that does not pass is found before
  find_before : (test : A → Bool) (xs : List A) (x : A) → test x ≡ false → is_some (find test (xs ++ x ∷ [])) ≡ true
      → is_some (find test xs) ≡ true
  find_before test [] x fails h = let none : is_some (cond (test x) (Some x) None) ≡ true = h in rw fails at none
  find_before test (y ∷ ys) x fails h = by (test y) h (find_before test ys x fails)
    where
      by : (t : Bool) → is_some (cond t (Some y) (find test (ys ++ x ∷ []))) ≡ true
          → (is_some (find test (ys ++ x ∷ [])) ≡ true → is_some (find test ys) ≡ true)
          → is_some (cond t (Some y) (find test ys)) ≡ true
      by true h k = h
      by false h k = k h

-- the resource that a change names
own_changed : (at : ℕ) (c : Change) (s : State) (id : List ℕ) → named c ≡ Some id → IsFresh s c
    → lookup (bytes_eq id) (changed at c s.resources) ≡ isolated_changed at c (resource_at s id)
own_changed at (change.Register r) s id n next =
    let is : r.id ≡ id = cc in
    let absent : lookup (bytes_eq id) s.resources ≡ None = subst (λ (k : List ℕ). lookup (bytes_eq k) s.resources ≡ None) is next in
    lookup-push id s.resources (registered r) absent (rw is (same_id id))
own_changed at (change.Unregister i) s id n next =
    let is : i ≡ id = cc in
    rw is (lookup-filter-keys (bytes_eq id) (λ k. not (bytes_eq id k)) false (λ k e. rw e refl) s.resources)
own_changed at (change.Step i what) s id n next =
    let is : i ≡ id = cc in
    rw is (lookup-own id (stepped at what) s.resources)
own_changed at change.Boot s id n next = absurd next

own_sets : (at : ℕ) (c : Change) (s : State) (id : List ℕ) (call : ℕ) → named c ≡ Some id
    → sets s (record { at = at; change = c }) id call ≡ isolated_sets at c (resource_at s id) call
own_sets at (change.Register r) s id call n = refl
own_sets at (change.Unregister i) s id call n = refl
own_sets at (change.Step i what) s id call n =
    let is : i ≡ id = cc in
    rw (is, same_id id) refl
own_sets at change.Boot s id call n = refl

other_sets : (at : ℕ) (c : Change) (s : State) (id other : List ℕ) (call : ℕ) → named c ≡ Some other → other ≢ id
    → sets s (record { at = at; change = c }) id call ≡ None
other_sets at (change.Register r) s id other call n differs = refl
other_sets at (change.Unregister i) s id other call n differs = refl
other_sets at (change.Step i what) s id other call n differs =
    let no : bytes_eq i id ≡ false = other_id id i (λ e. differs (cc)) in
    rw no refl
other_sets at change.Boot s id other call n differs = refl

-- a monitor that is there after a change that set no due moment for it was there before
monitor_stepped : (at : ℕ) (what : Step) (r : Resource) (call : ℕ) → is_some (of_call call (stepped at what r).recurring) ≡ true
    → step_sets r at what call ≡ None
    → is_some (of_call call r.recurring) ≡ true
monitor_stepped at (step.Recur m) r call h none = find_before (λ x. x.call == call) r.recurring m (by (m.call == call) none) h
  where
    by : (b : Bool) → cond b (Some at) None ≡ None → b ≡ false
    by true e = absurd (cc)
    by false e = refl
monitor_stepped at (step.Cancel interval) r call h none = find_fewer (λ x. x.call == call) (λ x. not (x.interval == interval)) r.recurring h
monitor_stepped at _ r call h none = h

pub monitor_before : (at : ℕ) (c : Change) (was : Option Resource) (call : ℕ) → has_monitor (isolated_changed at c was) call ≡ true
    → isolated_sets at c was call ≡ None
    → has_monitor was call ≡ true
monitor_before at (change.Register r) was call h none = absurd (cc)
monitor_before at (change.Unregister i) was call h none = absurd (cc)
monitor_before at (change.Step i what) None call h none = h
monitor_before at (change.Step i what) (Some r) call h none = monitor_stepped at what r call h none
monitor_before at change.Boot was call h none = h

-- The machine of a resource in a state with these due moments: it has the resource, the moments of the monitors that are there, and
-- numbers that are not above the next ones.
pub record IsolatedAs (y : Isolated) (s : State) (moments : Due) (id : List ℕ) : Type 0 where
  pub resource : y.resource ≡ resource_at s id
  pub due : (call : ℕ) → has_monitor (resource_at s id) call ≡ true → y.due call ≡ moments id call
  pub calls : y.next_call ≤ s.next_call
  pub runs : y.next_run ≤ s.next_run

calls_above : (s : State) (c : Change) (n : ℕ) → IsFresh s c → n ≤ s.next_call → above_call c n ≤ s.next_call + calls_drawn c
calls_above s (change.Step i (step.Exec o)) n next h = omega arith
calls_above s (change.Step i (step.Recur m)) n next h = omega arith
calls_above s _ n next h = omega arith

runs_above : (s : State) (c : Change) (n : ℕ) → IsFresh s c → n ≤ s.next_run → above_run c n ≤ s.next_run + runs_drawn c
runs_above s (change.Step i (step.Begin call run)) n next h = omega arith
runs_above s _ n next h = omega arith

pub or_else_alike : (set a b : Option ℕ) → (set ≡ None → a ≡ b) → or_else set a ≡ or_else set b
or_else_alike None a b h = h refl
or_else_alike (Some n) a b h = refl

-- an event that names it
holds_own : (y : Isolated) (s : State) (moments : Due) (id : List ℕ) (e : Event) → IsolatedAs y s moments id → named e.change ≡ Some id
    → IsFresh s e.change
    → IsolatedAs (isolated_after y e) (after s e) (due_after s moments e) id
holds_own y s moments id e holds n next =
    let is : resource_at (after s e) id ≡ isolated_changed e.at e.change (resource_at s id) = own_changed e.at e.change s id n next in
    let has : (call : ℕ) → has_monitor (resource_at (after s e) id) call
    ≡ has_monitor (isolated_changed e.at e.change (resource_at s id)) call = λ call. ap (λ o. has_monitor o call) is in record {
      resource = ap (isolated_changed e.at e.change) holds.resource ∙ sym is;
      due = λ call there.
          let there2 : has_monitor (isolated_changed e.at e.change (resource_at s id)) call ≡ true = sym (has call) ∙ there in
          rw (holds.resource, there2, there, own_sets e.at e.change s id call n)
          (or_else_alike (isolated_sets e.at e.change (resource_at s id) call) (y.due call) (moments id call)
          (λ none. holds.due call (monitor_before e.at e.change (resource_at s id) call there2 none)));
      calls = calls_above s e.change y.next_call next holds.calls;
      runs = runs_above s e.change y.next_run next holds.runs;
    }

-- one that names another
holds_other : (y : Isolated) (s : State) (moments : Due) (id other : List ℕ) (e : Event) → IsolatedAs y s moments id
    → named e.change ≡ Some other → other ≢ id
    → IsolatedAs y (after s e) (due_after s moments e) id
holds_other y s moments id other e holds n differs =
    let is : resource_at (after s e) id ≡ resource_at s id = other_stays e.at e.change s.resources other id n differs in record {
      resource = holds.resource ∙ sym is;
      due = λ call there.
          let was : has_monitor (resource_at s id) call ≡ true = sym (ap (λ o. has_monitor o call) is) ∙ there in
          rw (there, other_sets e.at e.change s id other call n differs) (holds.due call was);
      calls = omega (arith, holds.calls);
      runs = omega (arith, holds.runs);
    }

-- an event
pub holds_on : (y : Isolated) (s : State) (moments : Due) (id : List ℕ) (e : Event) → IsolatedAs y s moments id → IsFresh s e.change
    → IsolatedAs (isolated_after_all y (events_of id (e ∷ []))) (after s e) (due_after s moments e) id
holds_on y s moments id e holds next = by_name e.change refl
  where
    goal : Bool → Type 0
    goal b = IsolatedAs (isolated_after_all y (cond b (e ∷ []) [])) (after s e) (due_after s moments e) id

    by_own : (other : List ℕ) (b : Bool) → named e.change ≡ Some other → bytes_eq id other ≡ b → goal b
    by_own other true n same = holds_own y s moments id e holds (n ∙ ap Some (sym ((bytes_eq-Decides id other).0 same))) next
    by_own other false n differs =
        holds_other y s moments id other e holds n (λ is. both_ways (bytes_eq id other) differs ((bytes_eq-Decides id other).1 (sym is)))

    by_name : (c : Change) → e.change ≡ c → goal (option_map_or (bytes_eq id) (named c) false)
    by_name (change.Register r) is = by_own r.id (bytes_eq id r.id) (ap named is) refl
    by_name (change.Unregister i) is = by_own i (bytes_eq id i) (ap named is) refl
    by_name (change.Step i what) is = by_own i (bytes_eq id i) (ap named is) refl
    by_name change.Boot is = absurd (subst (IsFresh s) is next)

pub single-append : (y : Isolated) (es fs : List Event) → isolated_after_all y (es ++ fs) ≡ isolated_after_all (isolated_after_all y es) fs
single-append y [] fs = refl
single-append y (e ∷ es) fs = single-append (isolated_after y e) es fs

-- events, each of which names one resource
pub holds_all : (y : Isolated) (s : State) (moments : Due) (id : List ℕ) (es : List Event) → IsolatedAs y s moments id → AreFresh s es
    → IsolatedAs (isolated_after_all y (events_of id es)) (after_all s es) (due_after_all s moments es) id
holds_all y s moments id [] holds next = holds
holds_all y s moments id (e ∷ es) holds next =
    let one = events_of id (e ∷ []) in
    let split : isolated_after_all y (events_of id (e ∷ es)) ≡ isolated_after_all (isolated_after_all y one) (events_of id es) =
    ap (isolated_after_all y) (filter-append (λ f. option_map_or (bytes_eq id) (named f.change) false) (e ∷ []) es)
    ∙ single-append y one (events_of id es) in
    subst (λ (z : Isolated). IsolatedAs z (after_all (after s e) es) (due_after_all (after s e) (due_after s moments e) es) id) (sym split)
    (holds_all (isolated_after_all y one) (after s e) (due_after s moments e) id es (holds_on y s moments id e holds next.0) next.1)
