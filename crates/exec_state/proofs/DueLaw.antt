-- The due moments are a finite map from resource id and call, and each event changes it as the definition says.
use Rattle.std.proofs.Common.{◌≡◌, ◌≢◌, ℕ, ◌<◌, ◌==◌, unwrap_or, Bool, true, false, cond, not, List, [], ◌∷◌, ◌++◌, map, filter, find}
use Rattle.std.proofs.Common.{Option, Some, None, is_some, refl, sym, ap, subst, ◌∙◌}
use Rattle.std.specs.Option.{option_map, option_map_or, option_and_then}
use Rattle.std.specs.List.{AllByRecursion}
use Rattle.std.specs.Map.{lookup}
use Rattle.std.specs.Str.{bytes_eq}
use Rattle.std.proofs.lemmas.Map.Entries.{lookup-filter-keys}
use Rattle.std.proofs.lemmas.Map.Made.{lookup-map_values}
use Rattle.std.proofs.lemmas.Slice.Eq.{bytes_eq-Decides}
use Rattle.ocf_types.specs.declared.operation.Recur.{Recur}
use Rattle.ocf_types.specs.declared.event.Change.TheVariants as change
use Rattle.ocf_types.specs.Kinds.{Step, Change, Event}
use Rattle.ocf_model.specs.Resource.{Resource, of_call, booted}
use Rattle.ocf_model.specs.State.{State, Registry, empty, at_id, stepped, registered, on_history}
use Rattle.ocf_model.specs.Due.{due_after, due_at}
use Rattle.ocf_model.specs.Applies.{Applies, StepApplies, ChangeApplies}
use Rattle.ocf_model.specs.LawfulState.{IsLawfulResource, IsLawfulState}
use Rattle.ocf_types.specs.Lawful.{IsLawfulRecur}
use Rattle.ocf_model.specs.RegistryLemmas.{same_id, apart, lookup-push_other, lookup-at_id_here, lookup-at_id_other, found}
use Rattle.recurring.specs.declared.monitor.Monitor.{Monitor}
use Rattle.recurring.specs.Monitors.{recurs, all_due_at}
use Rattle.exec_state.specs.StateValue.{StateValue, Monitors, monitors_at, due_of, dues, monitors_due_at}
use Rattle.exec_state.specs.MonitorsAfter.{monitors_stepped, monitors_changed, monitors_after}
use Rattle.exec_state.specs.Lawful.{recurs_by_id, recurring_by_id, IsLawfulValue}
use Rattle.exec_state.proofs.Choices.{none_before}
use Rattle.exec_state.proofs.Lookups.{found_fact, lookup-push_here}
use Rattle.exec_state.proofs.Lookups.{lookup-taken_out}
use Rattle.exec_state.proofs.Picks.{due_in, recurs-at}
use Rattle.exec_state.proofs.DueSteps.{due_where, due_there, due_stepped}

-- there is a monitor of the call
abbrev pub there_at : Option Resource → ℕ → Bool
there_at o call = option_map_or (λ r. is_some (of_call call r.recurring)) o false

-- an id without a resource has no monitors
absent_at : (rs : Registry) (all : Monitors) (id : List ℕ) → recurs_by_id all ≡ recurring_by_id rs → lookup (bytes_eq id) rs ≡ None
    → lookup (bytes_eq id) all ≡ None
absent_at rs all id same at =
    none_before recurs (lookup (bytes_eq id) all) (sym (lookup-map_values recurs (bytes_eq id) all)
    ∙ ap (lookup (bytes_eq id)) same
    ∙ lookup-map_values (λ (x : Resource). x.recurring) (bytes_eq id) rs
    ∙ ap (option_map (λ (x : Resource). x.recurring)) at)

-- the monitors of a resource are found by its id
present_at : (rs : Registry) (all : Monitors) (id : List ℕ) (r : Resource) → recurs_by_id all ≡ recurring_by_id rs
    → lookup (bytes_eq id) rs ≡ Some r
    → lookup (bytes_eq id) all ≡ Some (monitors_at all id)
present_at rs all id r same at =
    by (lookup (bytes_eq id) all) refl (sym (lookup-map_values recurs (bytes_eq id) all)
    ∙ ap (lookup (bytes_eq id)) same
    ∙ lookup-map_values (λ (x : Resource). x.recurring) (bytes_eq id) rs
    ∙ ap (option_map (λ (x : Resource). x.recurring)) at)
  where
    by : (o : Option (List Monitor)) → lookup (bytes_eq id) all ≡ o → option_map recurs o ≡ Some r.recurring → o ≡ Some (monitors_at all id)
    by None is h = absurd (let none : None ≡ Some r.recurring = h in cc)
    by (Some ms) is h = rw is refl

-- a call has a due moment only if there is a monitor of it
due_kept : (rs : Registry) (all : Monitors) (id : List ℕ) (call : ℕ) → recurs_by_id all ≡ recurring_by_id rs
    → due_of all id call ≡ cond (there_at (lookup (bytes_eq id) rs) call) (due_of all id call) None
due_kept rs all id call same = by (lookup (bytes_eq id) rs) refl
  where
    by : (o : Option Resource) → lookup (bytes_eq id) rs ≡ o → due_of all id call ≡ cond (there_at o call) (due_of all id call) None
    by None at = let none : lookup (bytes_eq id) all ≡ None = absent_at rs all id same at in rw none refl
    by (Some r) at =
        subst (λ (l : List Recur). due_in (monitors_at all id) call ≡ due_where (of_call call l) (due_in (monitors_at all id) call))
        (recurs-at rs all id r same at) (due_there (monitors_at all id) call)

-- if the resource of an id does not change, its due moments stay
unchanged : (rs new : Registry) (all after_it : Monitors) (id : List ℕ) (call : ℕ) → recurs_by_id all ≡ recurring_by_id rs
    → lookup (bytes_eq id) new ≡ lookup (bytes_eq id) rs → lookup (bytes_eq id) after_it ≡ lookup (bytes_eq id) all
    → due_of after_it id call ≡ cond (there_at (lookup (bytes_eq id) new) call) (due_of all id call) None
unchanged rs new all after_it id call same one other = rw (one, other) (due_kept rs all id call same)

-- the calls of a lawful resource's monitors are below the next one
calls_below : (n : ℕ) (xs : List Recur) → AllByRecursion (λ m. IsLawfulRecur m × (m.call < n)) xs
    → AllByRecursion (λ k. k < n) (map (λ x. x.call) xs)
calls_below n [] h = tt
calls_below n (x ∷ xs) h = (h.0.1, calls_below n xs h.1)

-- the due moments after a step of the resource of an id
due_step : (s : State) (all : Monitors) (at : ℕ) (id : List ℕ) (what : Step) (call : ℕ) → IsLawfulState s
    → recurs_by_id all ≡ recurring_by_id s.resources
    → ChangeApplies s (change.Step id what)
    → due_of (monitors_changed s at (change.Step id what) all) id call
    ≡ due_after s (due_of all) (record { at = at; change = change.Step id what }) id call
due_step s all at id what call h same a =
    let f = found (lookup (bytes_eq id) s.resources) (StepApplies s.next_call s.next_run what) a in
    let r : Resource = f.0 in
    let there : lookup (bytes_eq id) s.resources ≡ Some r = f.1 in
    let ms : List Monitor = monitors_at all id in
    let is : recurs ms ≡ r.recurring = recurs-at s.resources all id r same there in
    let lawful = found_fact (IsLawfulResource s.next_call s.next_run s.clock) (bytes_eq id) s.resources r h.resources there in
    let step = due_stepped r ms s.next_call s.next_run at what call is lawful.recurring_ascends
    (calls_below s.next_call r.recurring lawful.recurring) f.2 in
    let new_r : lookup (bytes_eq id) (at_id id (stepped at what) s.resources) ≡ Some (stepped at what r) = lookup-at_id_here id
    (stepped at what) s.resources r there in
    let old_ms : lookup (bytes_eq id) all ≡ Some ms = present_at s.resources all id r same there in
    let new_ms : lookup (bytes_eq id) (at_id id (monitors_stepped at r.history.running what) all)
    ≡ Some (monitors_stepped at r.history.running what ms)
    = lookup-at_id_here id (monitors_stepped at r.history.running what) all ms old_ms in
    rw (there, new_r, new_ms, same_id id) step

-- the due moments after a change that applies
due_changed : (s : State) (all : Monitors) (at : ℕ) (c : Change) (id : List ℕ) (call : ℕ) → IsLawfulState s
    → recurs_by_id all ≡ recurring_by_id s.resources
    → ChangeApplies s c → due_of (monitors_changed s at c all) id call ≡ due_after s (due_of all) (record { at = at; change = c }) id call
due_changed s all at (change.Register r) id call h same a = by (bytes_eq id r.id) refl
  where
    goal : Type 0
    goal =
        due_of (monitors_changed s at (change.Register r) all) id call
        ≡ due_after s (due_of all) (record { at = at; change = change.Register r }) id call

    by : (b : Bool) → bytes_eq id r.id ≡ b → goal
    by true own =
        let is : id ≡ r.id = (bytes_eq-Decides id r.id).0 own in
        let none : lookup (bytes_eq id) s.resources ≡ None = subst (λ (k : List ℕ). lookup (bytes_eq k) s.resources ≡ None) (sym is) a.0 in
        let new_r : lookup (bytes_eq id) (s.resources ++ registered r ∷ []) ≡ Some (registered r).1 = lookup-push_here
        (bytes_eq id) s.resources (registered r) none own in
        let entry : List ℕ × List Monitor = (r.id, []) in
        let new_ms : lookup (bytes_eq id) (all ++ entry ∷ []) ≡ Some [] = lookup-push_here (bytes_eq id) all entry
        (absent_at s.resources all id same none) own in
        rw (new_r, new_ms) refl
    by false other =
        let entry : List ℕ × List Monitor = (r.id, []) in
        unchanged s.resources (s.resources ++ registered r ∷ []) all (all ++ entry ∷ []) id call same
        (lookup-push_other id s.resources (registered r) other) (lookup-push_other id all entry other)
due_changed s all at (change.Unregister x) id call h same a = by (bytes_eq x id) refl
  where
    goal : Type 0
    goal =
        due_of (monitors_changed s at (change.Unregister x) all) id call
        ≡ due_after s (due_of all) (record { at = at; change = change.Unregister x }) id call

    by : (b : Bool) → bytes_eq x id ≡ b → goal
    by true own =
        let is : x ≡ id = (bytes_eq-Decides x id).0 own in
        rw (is, lookup-taken_out id s.resources, lookup-taken_out id all) refl
    by false other =
        let differ : x ≢ id = λ e. (let own : bytes_eq x id ≡ true = (bytes_eq-Decides x id).1 e in cc) in
        unchanged s.resources (filter (λ e. not (bytes_eq x e.0)) s.resources) all (filter (λ e. not (bytes_eq x e.0)) all) id call same
        (lookup-filter-keys (bytes_eq id) (λ k. not (bytes_eq x k)) true (apart x id differ) s.resources)
        (lookup-filter-keys (bytes_eq id) (λ k. not (bytes_eq x k)) true (apart x id differ) all)
due_changed s all at (change.Step x what) id call h same a = by (bytes_eq x id) refl
  where
    goal : Type 0
    goal =
        due_of (monitors_changed s at (change.Step x what) all) id call
        ≡ due_after s (due_of all) (record { at = at; change = change.Step x what }) id call

    by : (b : Bool) → bytes_eq x id ≡ b → goal
    by true own =
        let is : x ≡ id = (bytes_eq-Decides x id).0 own in
        rw is (due_step s all at id what call h same (rw is at a))
    by false other =
        let differ : x ≢ id = λ e. (let own : bytes_eq x id ≡ true = (bytes_eq-Decides x id).1 e in cc) in
        let stay = unchanged s.resources (at_id x (stepped at what) s.resources) all
        (monitors_changed s at (change.Step x what) all) id call same
        (lookup-at_id_other x id (stepped at what) s.resources differ)
        (lookup-at_id_other x id
        (monitors_stepped at (option_and_then (λ r. r.history.running) (lookup (bytes_eq x) s.resources)) what) all differ) in
        rw other stay
due_changed s all at change.Boot id call h same a =
    rw (lookup-map_values (on_history (booted at)) (bytes_eq id) s.resources)
    (by (lookup (bytes_eq id) s.resources) (due_kept s.resources all id call same))
  where
    by : (o : Option Resource) → due_of all id call ≡ cond (there_at o call) (due_of all id call) None
        → due_of all id call ≡ cond (there_at (option_map (on_history (booted at)) o) call) (due_of all id call) None
    by None k = k
    by (Some r) k = k

-- the due moments after an event that applies
pub due_by_events : (s : StateValue) (e : Event) (id : List ℕ) (call : ℕ) → IsLawfulValue s → Applies s.state e
    → due_of (monitors_after s.state e s.monitors) id call ≡ due_after s.state (due_of s.monitors) e id call
due_by_events s e id call h a = due_changed s.state s.monitors e.at e.change id call h.lawful h.monitors a.change

-- monitors made due at a moment are due at it
due_all : (at call : ℕ) (xs : List Recur) → due_in (all_due_at at xs) call ≡ cond (is_some (of_call call xs)) (Some at) None
due_all at call [] = refl
due_all at call (x ∷ xs) = by (x.call == call) (due_all at call xs)
  where
    by : (b : Bool) → due_in (all_due_at at xs) call ≡ cond (is_some (of_call call xs)) (Some at) None
        → option_map (λ (m : Monitor). m.due)
        (cond b (Some (record { recur = x; due = at })) (find (λ m. m.recur.call == call) (all_due_at at xs)))
        ≡ cond (is_some (cond b (Some x) (of_call call xs))) (Some at) None
    by true k = refl
    by false k = k

-- the same of the whole map
pub due_applied : (s : StateValue) (all : Monitors) (e : Event) → IsLawfulValue s → Applies s.state e → all ≡ monitors_after s.state e s.monitors
    → due_of all ≡ due_after s.state (dues s) e
due_applied s all e h a is = ap due_of is ∙ (λ i. λ id call. due_by_events s e id call h a i)

-- after an opening all are due at its moment
pub due_by_opening : (s : State) (at : ℕ) (id : List ℕ) (call : ℕ) → due_of (monitors_due_at at s) id call ≡ due_at s at id call
due_by_opening s at id call =
    rw (lookup-map_values (λ (r : Resource). all_due_at at r.recurring) (bytes_eq id) s.resources) (by (lookup (bytes_eq id) s.resources))
  where
    by : (o : Option Resource)
        → option_map (λ (m : Monitor). m.due)
        (find (λ m. m.recur.call == call) (unwrap_or (option_map (λ (r : Resource). all_due_at at r.recurring) o) []))
        ≡ cond (there_at o call) (Some at) None
    by None = refl
    by (Some r) = due_all at call r.recurring

-- the same of the whole map
pub due_opened : (s : State) (all : Monitors) (at : ℕ) → all ≡ monitors_due_at at s → due_of all ≡ due_at s at
due_opened s all at is = ap due_of is ∙ (λ i. λ id call. due_by_opening s at id call i)

-- without resources nothing is due
pub due_empty : (t : StateValue) → t.monitors ≡ [] → dues t ≡ due_at empty 0
due_empty t is = ap due_of is

-- if the monitors stay the same, so do their due moments
pub due_same : (s t : StateValue) → t.monitors ≡ s.monitors → dues t ≡ dues s
due_same s t is = ap due_of is
