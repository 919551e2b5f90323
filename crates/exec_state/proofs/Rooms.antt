-- Lemmas from a lawful state: each resource fits its capacity, and unchanged states stay lawful.
use Rattle.std.proofs.Common.{◌≡◌, ℕ, zero, suc, ◌-◌, ◌<◌, ◌≤◌, ◌&&◌, nat_lt, Bool, true, false, IsTrue, List, [], ◌∷◌, map, drop, length, refl, sym, ap, subst, arith, length-drop}
use Rattle.std.specs.List.{AllByRecursion, IsDistinct}
use Rattle.std.specs.Map.{keys_of}
use Rattle.std.specs.Str.{bytes_eq}
use Rattle.std.proofs.lemmas.Bool.Decides.{nat_tests}
use Rattle.ocf_types.specs.declared.operation.Recur.{Recur}
use Rattle.ocf_types.specs.declared.operation.Ended.{Ended}
use Rattle.ocf_types.specs.Names.{is_rsc_id}
use Rattle.ocf_types.specs.Layouts.{kept_in}
use Rattle.ocf_model.specs.Resource.{history_in, kept, last_in}
use Rattle.ocf_model.specs.State.{State, Registry, empty, in_first, on_history}
use Rattle.ocf_model.specs.LawfulState.{IsLawfulEnded, IsLawfulResource, IsLawfulState}
use Rattle.ocf_types.specs.declared.layout.Layout.TheVariants.{First}
use Rattle.recurring.specs.Monitors.{recurs, all_due_at}
use Rattle.exec_state.specs.Seen.{FitsRoom}
use Rattle.exec_state.specs.StateValue.{StateValue}
use Rattle.exec_state.specs.Lawful.{AreMonitorsOf, IsLawfulValue}

-- a lawful resource fits the capacity of a registered one
fit_each : (next_call next_run clock : ℕ) (rs : Registry) → AllByRecursion (λ e. IsLawfulResource next_call next_run clock e.1) rs
    → AllByRecursion (λ e. FitsRoom e.1) rs
fit_each next_call next_run clock [] h = tt
fit_each next_call next_run clock (e ∷ es) h = ((h.0.queue_len, h.0.ended_len, h.0.recurring_len), fit_each next_call next_run clock es h.1)

-- so does each resource of a lawful state
pub rooms : (s : State) → IsLawfulState s → AllByRecursion (λ e. FitsRoom e.1) s.resources
rooms s h = fit_each s.next_call s.next_run s.clock s.resources h.resources

-- each resource reduced to what the first layout keeps
abbrev first_all : Registry → Registry
first_all rs = map (λ e. (e.0, on_history (history_in First) e.1)) rs

-- a property of each element holds for the last ones
each_drop : {A : Type 0} (P : A → Type 0) (n : ℕ) (xs : List A) → AllByRecursion P xs → AllByRecursion P (drop n xs)
each_drop P zero xs h = h
each_drop P (suc n) [] h = tt
each_drop P (suc n) (x ∷ xs) h = each_drop P n xs h.1

-- the last results are no more than the second layout keeps
last_short : (xs : List Ended) → length (last_in First xs) ≤ kept
last_short xs = omega (arith, length-drop (length xs - kept_in First) xs)

first_each : (next_call next_run clock : ℕ) (rs : Registry) → AllByRecursion (λ e. IsLawfulResource next_call next_run clock e.1) rs
    → AllByRecursion (λ e. IsLawfulResource next_call next_run clock e.1) (first_all rs)
first_each next_call next_run clock [] h = tt
first_each next_call next_run clock (e ∷ es) h = (
  record {
    provider = h.0.provider;
    agent = h.0.agent;
    are_params = h.0.are_params;
    params_len = h.0.params_len;
    queue_len = h.0.queue_len;
    queue = h.0.queue;
    queue_ascends = h.0.queue_ascends;
    running = h.0.running;
    recurring_len = h.0.recurring_len;
    recurring = h.0.recurring;
    recurring_ascends = h.0.recurring_ascends;
    intervals = h.0.intervals;
    ended_len = last_short e.1.history.ended;
    ended = each_drop (IsLawfulEnded next_call next_run clock) (length e.1.history.ended - kept_in First) e.1.history.ended h.0.ended;
    failed = tt;
    known = refl;
  },
  first_each next_call next_run clock es h.1,
)

first_named : (rs : Registry) → AllByRecursion (λ e. IsTrue (is_rsc_id e.0)) rs → AllByRecursion (λ e. IsTrue (is_rsc_id e.0)) (first_all rs)
first_named [] h = tt
first_named (e ∷ es) h = (h.0, first_named es h.1)

first_keys : (rs : Registry) → keys_of (first_all rs) ≡ keys_of rs
first_keys [] = refl
first_keys (e ∷ es) = ap (λ (ks : List (List ℕ)). e.0 ∷ ks) (first_keys es)

first_length : (rs : Registry) → length (first_all rs) ≡ length rs
first_length [] = refl
first_length (e ∷ es) = ap suc (first_length es)

-- a lawful state reduced to what the first layout keeps is lawful
in_first_lawful : (s : State) → IsLawfulState s → IsLawfulState (in_first s)
in_first_lawful s h = record {
  next_call = h.next_call;
  next_run = h.next_run;
  clock = h.clock;
  at_most_256 = omega (arith, h.at_most_256, first_length s.resources);
  ids = subst (IsDistinct bytes_eq) (sym (first_keys s.resources)) h.ids;
  named = first_named s.resources h.named;
  resources = first_each s.next_call s.next_run s.clock s.resources h.resources;
}

-- the same state with its own monitors is lawful
pub lawful_same : (s : State) (t : StateValue) → IsLawfulState s → t.state ≡ s → AreMonitorsOf t.state t.monitors → IsLawfulValue t
lawful_same s t h same are = record { lawful = subst IsLawfulState (sym same) h; monitors = are }

-- the same for a state reduced to what the first layout keeps
pub lawful_first : (s : State) (t : StateValue) → IsLawfulState s → t.state ≡ in_first s → AreMonitorsOf t.state t.monitors → IsLawfulValue t
lawful_first s t h same are = lawful_same (in_first s) t (in_first_lawful s h) same are

-- the state without resources is lawful
pub lawful_new : (t : StateValue) → IsLawfulState empty → t.state ≡ empty → t.monitors ≡ [] → IsLawfulValue t
lawful_new t h same none = lawful_same empty t h same (rw (same, none) refl)

-- monitors made due are the same monitors
pub recurs_due : (at : ℕ) (xs : List Recur) → recurs (all_due_at at xs) ≡ xs
recurs_due at [] = refl
recurs_due at (x ∷ xs) = ap (λ (ys : List Recur). x ∷ ys) (recurs_due at xs)

-- the last of three tests that all hold
pub last_of_three : (a b : Bool) (n : ℕ) → IsTrue (a && (b && nat_lt 0 n)) → 0 < n
last_of_three true true n h = grind (arith, nat_tests)
last_of_three true false n h = absurd (let bad : false ≡ true = h in cc)
last_of_three false b n h = absurd (let bad : false ≡ true = h in cc)
