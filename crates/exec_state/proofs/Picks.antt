-- The pick over monitors with their due moments is the pick over the due moment of each call.
use Rattle.std.proofs.Common.{◌≡◌, ℕ, ◌==◌, ◌<◌, ◌||◌, nat_lt, true, false, length, List, [], ◌∷◌, map, find, Option, Some, None, MatchOption, is_some, unwrap_or, refl}
use Rattle.std.proofs.Common.{sym, ap, subst, ◌∙◌, arith}
use Rattle.std.specs.Option.{option_map}
use Rattle.std.specs.List.{AllByRecursion}
use Rattle.std.specs.Map.{lookup}
use Rattle.std.specs.Str.{bytes_eq}
use Rattle.std.proofs.lemmas.Bool.{false_from_ne_true}
use Rattle.std.proofs.lemmas.Bool.Decides.{Decides-eqb, nat_tests}
use Rattle.std.proofs.lemmas.Map.Made.{lookup-map_values}
use Rattle.ocf_types.specs.declared.operation.Op.{Op}
use Rattle.ocf_types.specs.declared.operation.Recur.{Recur}
use Rattle.ocf_types.specs.declared.operation.Running.{Running}
use Rattle.ocf_model.specs.Resource.{History, Resource, is_busy}
use Rattle.ocf_model.specs.State.{Registry, resource_at}
use Rattle.ocf_model.specs.Due.{due_pairs, IsLeastDue, IsPickOf, IsPick}
use Rattle.ocf_types.specs.Numbers.{IsAscending}
use Rattle.ocf_model.specs.LawfulState.{IsLawfulResource}
use Rattle.recurring.specs.declared.monitor.Monitor.{Monitor}
use Rattle.recurring.specs.Monitors.{recurs, pairs}
use Rattle.exec_state.specs.StateValue.{StateValue, Monitors, monitors_at, due_of, IsChoice}
use Rattle.exec_state.specs.Lawful.{recurs_by_id, recurring_by_id, IsLawfulValue}
use Rattle.exec_state.proofs.Lookups.{found_fact}

-- a lesser number differs
pub lesser_differs : (n k : ℕ) → n < k → (n == k) ≡ false
lesser_differs n k h = false_from_ne_true _ (λ e. omega (arith, h, (Decides-eqb n k).0 e))

-- the due moment of the monitor of a call
abbrev pub due_in : List Monitor → ℕ → Option ℕ
due_in ms call = option_map (λ m. m.due) (find (λ m. m.recur.call == call) ms)

-- a monitor does not change the due moments of greater calls
due_pairs_after : (m : Monitor) (ms : List Monitor) (xs : List Recur) → AllByRecursion (λ k. m.recur.call < k) (map (λ x. x.call) xs)
    → due_pairs xs (due_in (m ∷ ms)) ≡ due_pairs xs (due_in ms)
due_pairs_after m ms [] h = refl
due_pairs_after m ms (x ∷ xs) h =
    let other : (m.recur.call == x.call) ≡ false = lesser_differs m.recur.call x.call h.0 in
    let due : due_in (m ∷ ms) x.call ≡ due_in ms x.call = rw other refl in
    rw (due, due_pairs_after m ms xs h.1) refl

-- the pairs of the monitors are those of their calls
pub due_pairs-recurs : (ms : List Monitor) → IsAscending (map (λ x. x.call) (recurs ms)) → due_pairs (recurs ms) (due_in ms) ≡ pairs ms
due_pairs-recurs [] h = refl
due_pairs-recurs (m ∷ ms) h =
    let same : (m.recur.call == m.recur.call) ≡ true = (Decides-eqb m.recur.call m.recur.call).1 refl in
    let rest : due_pairs (recurs ms) (due_in (m ∷ ms)) ≡ pairs ms = due_pairs_after m ms (recurs ms) h.0 ∙ due_pairs-recurs ms h.1 in
    rw (same, rest) refl

-- the monitors of an id are those of its resource
pub recurs-at : (rs : Registry) (all : Monitors) (id : List ℕ) (r : Resource) → recurs_by_id all ≡ recurring_by_id rs
    → lookup (bytes_eq id) rs ≡ Some r
    → recurs (monitors_at all id) ≡ r.recurring
recurs-at rs all id r same at =
    by (lookup (bytes_eq id) all) (sym (lookup-map_values recurs (bytes_eq id) all)
    ∙ ap (lookup (bytes_eq id)) same
    ∙ lookup-map_values (λ (x : Resource). x.recurring) (bytes_eq id) rs
    ∙ ap (option_map (λ (x : Resource). x.recurring)) at)
  where
    by : (o : Option (List Monitor)) → option_map recurs o ≡ Some r.recurring → recurs (unwrap_or o []) ≡ r.recurring
    by None h = let none : None ≡ Some r.recurring = h in cc
    by (Some ms) h = let there : Some (recurs ms) ≡ Some r.recurring = h in cc

-- the pick of the monitors is that of the due moments
pub choice : (s : StateValue) (id : List ℕ) (now : ℕ) (pick : Option ℕ) → IsLawfulValue s
    → MatchOption (resource_at s.state id) (pick ≡ None)
    (λ r. IsPickOf r.history.running r.history.queue (pairs (monitors_at s.monitors id)) now pick)
    → IsChoice s id now pick
choice s id now pick h = by (resource_at s.state id) refl
  where
    ms : List Monitor
    ms = monitors_at s.monitors id

    by : (o : Option Resource) → resource_at s.state id ≡ o
        → MatchOption o (pick ≡ None) (λ r. IsPickOf r.history.running r.history.queue (pairs ms) now pick)
        → MatchOption o (pick ≡ None) (λ r. IsPick r (due_of s.monitors id) now pick)
    by None at p = p
    by (Some r) at p =
        let same : recurs ms ≡ r.recurring = recurs-at s.state.resources s.monitors id r h.monitors at in
        let lawful = found_fact (IsLawfulResource s.state.next_call s.state.next_run s.state.clock)
        (bytes_eq id) s.state.resources r h.lawful.resources at in
        let ascends : IsAscending (map (λ x. x.call) (recurs ms)) = subst (λ (l : List Recur). IsAscending (map (λ x. x.call) l))
        (sym same) lawful.recurring_ascends in
        let all : due_pairs r.recurring (due_of s.monitors id) ≡ pairs ms
        = subst (λ (l : List Recur). due_pairs l (due_in ms) ≡ pairs ms) same (due_pairs-recurs ms ascends) in
        rw all p

-- with nothing queued or running, the first due monitor is picked
pub idle_picks : (h : History) (ps : List (ℕ × ℕ)) (now : ℕ) (pick : Option ℕ) → is_busy h ≡ false → IsLeastDue ps now pick
    → IsPickOf h.running h.queue ps now pick
idle_picks h ps now pick idle least = by h.running h.queue idle
  where
    by : (x : Option Running) (queue : List Op) → (nat_lt 0 (length queue) || is_some x) ≡ false → IsPickOf x queue ps now pick
    by None [] e = least
    by None (o ∷ os) e = absurd (grind (arith, nat_tests))
    by (Some x) [] e = absurd (let bad : true ≡ false = e in cc)
    by (Some x) (o ∷ os) e = absurd (grind (arith, nat_tests))
