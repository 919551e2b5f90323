-- The due moments of one resource's monitors after a step.
use Rattle.std.proofs.Common.{◌≡◌, ℕ, ◌+◌, ◌<◌, ◌==◌, ◌&&◌, nat_lt, Bool, true, false, cond, not, List, [], ◌∷◌, ◌++◌, map, find, Option}
use Rattle.std.proofs.Common.{Some, None, is_some, refl, sym, subst, ◌∙◌, arith}
use Rattle.std.specs.Option.{option_map, option_and_then}
use Rattle.std.specs.List.{AllByRecursion}
use Rattle.std.proofs.lemmas.Bool.{false_from_ne_true}
use Rattle.std.proofs.lemmas.Bool.Decides.{Decides-eqb}
use Rattle.ocf_types.specs.declared.operation.Recur.{Recur}
use Rattle.ocf_types.specs.declared.operation.Running.{Running}
use Rattle.ocf_types.specs.declared.event.Step.TheVariants as step
use Rattle.ocf_types.specs.Kinds.{Step}
use Rattle.ocf_model.specs.Resource.{Resource, of_call, without_interval}
use Rattle.ocf_model.specs.State.{stepped}
use Rattle.ocf_model.specs.Due.{is_run_of, step_sets, or_else}
use Rattle.ocf_model.specs.Applies.{StepApplies}
use Rattle.ocf_types.specs.Numbers.{IsAscending}
use Rattle.ocf_types.specs.Lemmas.{same_number}
use Rattle.recurring.specs.declared.monitor.Monitor.{Monitor}
use Rattle.recurring.specs.Monitors.{recurs, cancelled, settled, due_at, monitor_due_at}
use Rattle.exec_state.specs.MonitorsAfter.{monitors_run_ended, monitors_stepped}
use Rattle.exec_state.proofs.Picks.{due_in}

-- the test of numbers that differ fails
greater_differs : (n k : ℕ) → n < k → (k == n) ≡ false
greater_differs n k h = false_from_ne_true _ (λ e. omega (arith, h, (Decides-eqb k n).0 e))

-- the due moment if there is a monitor of the call, else `None`
abbrev pub due_where : Option Recur → Option ℕ → Option ℕ
due_where there due = cond (is_some there) due None

-- a call is due exactly when its monitor is
pub due_there : (ms : List Monitor) (call : ℕ) → due_in ms call ≡ due_where (of_call call (recurs ms)) (due_in ms call)
due_there [] call = refl
due_there (m ∷ ms) call = by (m.recur.call == call) (due_there ms call)
  where
    by : (b : Bool) → due_in ms call ≡ due_where (of_call call (recurs ms)) (due_in ms call)
        → option_map (λ (x : Monitor). x.due) (cond b (Some m) (find (λ x. x.recur.call == call) ms))
        ≡ due_where (cond b (Some m.recur) (of_call call (recurs ms)))
        (option_map (λ (x : Monitor). x.due) (cond b (Some m) (find (λ x. x.recur.call == call) ms)))
    by true h = refl
    by false h = h

-- the same with one more monitor, whose call is above the others'
pub due_push : (ms : List Monitor) (x : Recur) (at call : ℕ) → AllByRecursion (λ k. k < x.call) (map (λ m. m.call) (recurs ms))
    → due_in (ms ++ monitor_due_at at x ∷ []) call
    ≡ due_where (of_call call (recurs ms ++ x ∷ [])) (or_else (cond (x.call == call) (Some at) None) (due_in ms call))
due_push [] x at call h = by (x.call == call)
  where
    by : (b : Bool) → option_map (λ (m : Monitor). m.due) (cond b (Some (monitor_due_at at x)) None)
        ≡ due_where (cond b (Some x) None) (or_else (cond b (Some at) None) None)
    by true = refl
    by false = refl
due_push (m ∷ ms) x at call h = by (m.recur.call == call) refl (due_push ms x at call h.1)
  where
    by : (b : Bool) → (m.recur.call == call) ≡ b
        → due_in (ms ++ monitor_due_at at x ∷ []) call
        ≡ due_where (of_call call (recurs ms ++ x ∷ [])) (or_else (cond (x.call == call) (Some at) None) (due_in ms call))
        → option_map (λ (y : Monitor). y.due) (cond b (Some m) (find (λ y. y.recur.call == call) (ms ++ monitor_due_at at x ∷ [])))
        ≡ due_where (cond b (Some m.recur) (of_call call (recurs ms ++ x ∷ [])))
        (or_else (cond (x.call == call) (Some at) None)
        (option_map (λ (y : Monitor). y.due) (cond b (Some m) (find (λ y. y.recur.call == call) ms))))
    by true is rest =
        let call_is : m.recur.call ≡ call = (Decides-eqb m.recur.call call).0 is in
        let other : (x.call == call) ≡ false = greater_differs call x.call (omega (arith, h.0, call_is)) in
        rw other refl
    by false is rest = rest

-- a call below all others is not among them
gone : (call interval : ℕ) (xs : List Recur) → AllByRecursion (λ k. call < k) (map (λ x. x.call) xs)
    → of_call call (without_interval interval xs) ≡ None
gone call interval [] h = refl
gone call interval (x ∷ xs) h = by (x.interval == interval) (gone call interval xs h.1)
  where
    by : (b : Bool) → of_call call (without_interval interval xs) ≡ None
        → of_call call (cond (not b) (x ∷ without_interval interval xs) (without_interval interval xs)) ≡ None
    by true k = k
    by false k = let other : (x.call == call) ≡ false = greater_differs call x.call h.0 in rw other k

-- the same without the monitor of an interval
pub due_cancel : (ms : List Monitor) (interval call : ℕ) → IsAscending (map (λ x. x.call) (recurs ms))
    → due_in (cancelled interval ms) call ≡ due_where (of_call call (without_interval interval (recurs ms))) (due_in ms call)
due_cancel [] interval call h = refl
due_cancel (m ∷ ms) interval call h = by (m.recur.interval == interval) (m.recur.call == call) refl (due_cancel ms interval call h.1)
  where
    by : (p b : Bool) → (m.recur.call == call) ≡ b
        → due_in (cancelled interval ms) call ≡ due_where (of_call call (without_interval interval (recurs ms))) (due_in ms call)
        → due_in (cond (not p) (m ∷ cancelled interval ms) (cancelled interval ms)) call
        ≡ due_where (of_call call (cond (not p) (m.recur ∷ without_interval interval (recurs ms)) (without_interval interval (recurs ms))))
        (option_map (λ (y : Monitor). y.due) (cond b (Some m) (find (λ y. y.recur.call == call) ms)))
    by true true is rest =
        let call_is : m.recur.call ≡ call = (Decides-eqb m.recur.call call).0 is in
        let none : of_call call (without_interval interval (recurs ms)) ≡ None
        =
        subst (λ (k : ℕ). of_call k (without_interval interval (recurs ms)) ≡ None) call_is
        (gone m.recur.call interval (recurs ms) h.0) in
        rest ∙ rw none refl
    by true false is rest = rest
    by false true is rest = rw is refl
    by false false is rest = rw is rest

-- the same after a run of a call has ended
pub due_settled : (ms : List Monitor) (own at call : ℕ)
    → due_in (settled own at ms) call
    ≡ due_where (of_call call (recurs ms))
    (or_else (cond (own == call) (option_map (λ m. at + m.interval) (of_call call (recurs ms))) None) (due_in ms call))
due_settled [] own at call = refl
due_settled (m ∷ ms) own at call = by (m.recur.call == own) (m.recur.call == call) refl refl (due_settled ms own at call)
  where
    set_for : Option Recur → Option ℕ
    set_for there = cond (own == call) (option_map (λ (x : Recur). at + x.interval) there) None

    by : (p b : Bool) → (m.recur.call == own) ≡ p → (m.recur.call == call) ≡ b
        → due_in (settled own at ms) call
        ≡ due_where (of_call call (recurs ms)) (or_else (set_for (of_call call (recurs ms))) (due_in ms call))
        → option_map (λ (y : Monitor). y.due)
        (cond ((cond p (due_at (at + m.recur.interval) m) m).recur.call == call) (Some (cond p (due_at (at + m.recur.interval) m) m))
        (find (λ y. y.recur.call == call) (settled own at ms)))
        ≡ due_where (cond b (Some m.recur) (of_call call (recurs ms)))
        (or_else (set_for (cond b (Some m.recur) (of_call call (recurs ms))))
        (option_map (λ (y : Monitor). y.due) (cond b (Some m) (find (λ y. y.recur.call == call) ms))))
    by true true its is rest =
        let own_is : (own == call) ≡ true = same_number own call
        (sym ((Decides-eqb m.recur.call own).0 its) ∙ (Decides-eqb m.recur.call call).0 is) in
        rw (is, own_is) refl
    by true false its is rest = rw is rest
    by false true its is rest =
        let other : (own == call) ≡ false = false_from_ne_true _ (λ e.
        let same : (m.recur.call == own) ≡ true = same_number m.recur.call own
        ((Decides-eqb m.recur.call call).0 is ∙ sym ((Decides-eqb own call).0 e)) in
        cc) in
        rw (is, other) refl
    by false false its is rest = rw is rest

-- the same after the running action has ended
due_ended : (ms : List Monitor) (running : Option Running) (at call : ℕ)
    → due_in (monitors_run_ended at running ms) call
    ≡ due_where (of_call call (recurs ms))
    (or_else (option_and_then
    (λ x. cond (is_run_of call x) (option_map (λ m. at + m.interval) (of_call call (recurs ms))) None) running) (due_in ms call))
due_ended ms None at call = due_there ms call
due_ended ms (Some x) at call = by (nat_lt 0 x.interval)
  where
    sets : Option ℕ
    sets = option_map (λ (m : Recur). at + m.interval) (of_call call (recurs ms))

    both : (b : Bool) → cond (b && true) sets None ≡ cond b sets None
    both true = refl
    both false = refl

    neither : (b : Bool) → cond (b && false) sets None ≡ None
    neither true = refl
    neither false = refl

    by : (long : Bool) → due_in (cond long (settled x.call at ms) ms) call
        ≡ due_where (of_call call (recurs ms)) (or_else (cond (x.call == call && long) sets None) (due_in ms call))
    by true = rw (both (x.call == call)) (due_settled ms x.call at call)
    by false = rw (neither (x.call == call)) (due_there ms call)

-- the same after a step that applies
pub due_stepped : (r : Resource) (ms : List Monitor) (next_call next_run at : ℕ) (what : Step) (call : ℕ) → recurs ms ≡ r.recurring
    → IsAscending (map (λ x. x.call) r.recurring) → AllByRecursion (λ k. k < next_call) (map (λ x. x.call) r.recurring)
    → StepApplies next_call next_run what r
    → due_in (monitors_stepped at r.history.running what ms) call
    ≡ due_where (of_call call (stepped at what r).recurring) (or_else (step_sets r at what call) (due_in ms call))
due_stepped r ms next_call next_run at (step.Recur m) call same ascends below a =
    let under : AllByRecursion (λ k. k < m.call) (map (λ x. x.call) (recurs ms))
    = subst (λ (n : ℕ). AllByRecursion (λ k. k < n) (map (λ x. x.call) (recurs ms))) (sym a.2.0) (rw same below) in
    subst (λ (l : List Recur). due_in (ms ++ monitor_due_at at m ∷ []) call
    ≡ due_where (of_call call (l ++ m ∷ [])) (or_else (cond (m.call == call) (Some at) None) (due_in ms call))) same
    (due_push ms m at call under)
due_stepped r ms next_call next_run at (step.Cancel interval) call same ascends below a =
    subst (λ (l : List Recur). due_in (cancelled interval ms) call
    ≡ due_where (of_call call (without_interval interval l)) (due_in ms call)) same (due_cancel ms interval call (rw same ascends))
due_stepped r ms next_call next_run at (step.Result run end) call same ascends below a =
    subst (λ (l : List Recur). due_in (monitors_run_ended at r.history.running ms) call
    ≡ due_where (of_call call l)
    (or_else (option_and_then
    (λ x. cond (is_run_of call x) (option_map (λ m. at + m.interval) (of_call call l)) None) r.history.running)
    (due_in ms call))) same (due_ended ms r.history.running at call)
due_stepped r ms next_call next_run at _ call same ascends below a =
    subst (λ (l : List Recur). due_in ms call ≡ due_where (of_call call l) (due_in ms call)) same (due_there ms call)
