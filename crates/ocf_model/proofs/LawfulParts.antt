-- The items of a lawful resource stay lawful at a later moment, and when one is added.
use Rattle.std.proofs.Common.{◌≡◌, nat_eq, ℕ, ◌-◌, ◌≤◌, ◌<◌, ◌==◌, Bool, true, false, cond, List, [], ◌∷◌, ◌++◌, map, length, find}
use Rattle.std.proofs.Common.{Option, Some, None, option_map, option_and_then, option_to_list, refl, ◌∙◌, arith, length-drop}
use Rattle.std.specs.List.{AllByRecursion, IsDistinct, list_any}
use Rattle.std.specs.Option.{option_or}
use Rattle.std.proofs.lemmas.Cmp.{nat_eq_equiv}
use Rattle.std.proofs.lemmas.List.{map-append}
use Rattle.std.proofs.lemmas.Map.Keys.{IsDistinct-push}
use Rattle.ocf_types.specs.declared.layout.Layout.{Layout}
use Rattle.ocf_types.specs.declared.operation.Op.{Op}
use Rattle.ocf_types.specs.declared.operation.Recur.{Recur}
use Rattle.ocf_types.specs.declared.operation.Running.{Running}
use Rattle.ocf_types.specs.declared.operation.Ended.{Ended}
use Rattle.ocf_types.specs.declared.outcome.Outcome.{Outcome}
use Rattle.ocf_types.specs.declared.outcome.RunEnd.{RunEnd}
use Rattle.ocf_types.specs.declared.outcome.Outcome.TheVariants.{Run}
use Rattle.ocf_types.specs.Limits.{event_limit}
use Rattle.ocf_types.specs.Numbers.{IsDrawn}
use Rattle.ocf_types.specs.Lawful.{IsLawfulOpIn, IsLawfulRecurIn, IsLawfulRegistration, IsRunEnd}
use Rattle.ocf_types.specs.Kinds.{Registration}
use Rattle.ocf_types.specs.Encoding.{encoded_params}
use Rattle.ocf_model.specs.State.{Registry, registered}
use Rattle.ocf_types.specs.Layouts.{kept_in, failed_in, EncodesOutcome, KnowsWithdrawal, current}
use Rattle.ocf_types.specs.Expected.{has_failed}
use Rattle.ocf_types.specs.declared.layout.Layout.TheVariants.{First, Second}
use Rattle.ocf_model.specs.Resource.{History, Resource, last_in, ended_of, dropped_of, failed_of, failed_after, run_of_op, run_of_monitor, of_interval}
use Rattle.ocf_model.specs.Resource.{cancelled_of, queued_of}
use Rattle.ocf_model.specs.LawfulState.{IsLawfulRunningIn, IsLawfulEndedIn, IsLawfulFailed, IsLawfulResourceIn, NeverBegan}
use Rattle.ocf_types.specs.Lawful.{IsOutcome}
use Rattle.ocf_types.specs.Lemmas.{distinct_none, each_append, each_weaken}
use Rattle.ocf_model.proofs.Lists.{each_drop}

-- a lawful queued action, with a call below a number
abbrev pub IsQueued : Layout → ℕ → Op → Type 0
IsQueued layout n o = IsLawfulOpIn layout o × (o.call < n)

-- a lawful recurring monitor, with a call below a number
abbrev pub IsRecurring : Layout → ℕ → Recur → Type 0
IsRecurring layout n m = IsLawfulRecurIn layout m × (m.call < n)

module _ (n k clock n' k' clock' : ℕ) (calls : n ≤ n') (runs : k ≤ k') (moments : clock ≤ clock') where
  -- results stay lawful later
  pub ended_weaken : (layout : Layout) (xs : List Ended) → AllByRecursion (IsLawfulEndedIn layout n k clock) xs
      → AllByRecursion (IsLawfulEndedIn layout n' k' clock') xs
  ended_weaken layout xs h = each_weaken (IsLawfulEndedIn layout n k clock) (IsLawfulEndedIn layout n' k' clock')
      (λ x p. record {
        drawn = p.drawn;
        call = omega (arith, p.call);
        run = omega (arith, p.run);
        unbegun = p.unbegun;
        interval = p.interval;
        since = omega (arith, p.since);
        at = omega (arith, p.at);
        outcome = p.outcome;
        known = p.known;
      })
      xs h

  -- the last failure stays lawful later
  pub failed_weaken : (o : Option Ended) → IsLawfulFailed n k clock o → IsLawfulFailed n' k' clock' o
  failed_weaken None h = tt
  failed_weaken (Some x) h = ((ended_weaken current (x ∷ []) (h.0, tt)).0, h.1)

  -- a running action stays lawful later
  pub running_weaken : (layout : Layout) (o : Option Running) → IsLawfulRunningIn layout n k clock o → IsLawfulRunningIn layout n' k' clock' o
  running_weaken layout None h = tt
  running_weaken layout (Some x) h = (h.0, omega (arith, h.1), h.2, omega (arith, h.3), h.4, h.5, omega (arith, h.6), h.7, h.8)

module _ (layout : Layout) (n k clock n' k' clock' : ℕ) (calls : n ≤ n') (runs : k ≤ k') (moments : clock ≤ clock') where
  -- a resource stays lawful later
  pub lawful_weaken : (r : Resource) → IsLawfulResourceIn layout n k clock r → IsLawfulResourceIn layout n' k' clock' r
  lawful_weaken r h = record {
    provider = h.provider;
    agent = h.agent;
    are_params = h.are_params;
    params_len = h.params_len;
    queue_len = h.queue_len;
    queue = each_weaken (IsQueued layout n) (IsQueued layout n') (λ o p. (p.0, omega (arith, p.1))) r.history.queue h.queue;
    queue_ascends = h.queue_ascends;
    running = running_weaken n k clock n' k' clock' calls runs moments layout r.history.running h.running;
    recurring_len = h.recurring_len;
    recurring = each_weaken (IsRecurring layout n) (IsRecurring layout n') (λ m p. (p.0, omega (arith, p.1))) r.recurring h.recurring;
    recurring_ascends = h.recurring_ascends;
    intervals = h.intervals;
    ended_len = h.ended_len;
    ended = ended_weaken n k clock n' k' clock' calls runs moments layout r.history.ended h.ended;
    failed = failed_weaken n k clock n' k' clock' calls runs moments r.history.failed h.failed;
    known = h.known;
  }

  -- resources stay lawful later
  pub resources_weaken : (rs : Registry) → AllByRecursion (λ e. IsLawfulResourceIn layout n k clock e.1) rs
      → AllByRecursion (λ e. IsLawfulResourceIn layout n' k' clock' e.1) rs
  resources_weaken rs h =
      each_weaken (λ e. IsLawfulResourceIn layout n k clock e.1) (λ e. IsLawfulResourceIn layout n' k' clock' e.1)
      (λ e l. lawful_weaken e.1 l) rs h

-- a layout keeps that there was no failure
pub none_known : (layout : Layout) → failed_in layout None ≡ None
none_known First = refl
none_known Second = refl

-- keeping the last failure twice in a layout is keeping it once
pub known_again : (layout : Layout) (o : Option Ended) → failed_in layout (failed_in layout o) ≡ failed_in layout o
known_again First o = refl
known_again Second o = refl

-- a newly registered resource is lawful
pub lawful_registered : (layout : Layout) (n k at : ℕ) (r : Registration) → IsLawfulRegistration r
    → length (encoded_params r.params) ≤ event_limit → IsLawfulResourceIn layout n k at (registered r).1
lawful_registered layout n k at r w short = record {
  provider = w.provider;
  agent = w.agent;
  are_params = w.params;
  params_len = short;
  queue_len = omega arith;
  queue = tt;
  queue_ascends = tt;
  running = tt;
  recurring_len = omega arith;
  recurring = tt;
  recurring_ascends = tt;
  intervals = distinct_none nat_eq;
  ended_len = omega arith;
  ended = tt;
  failed = tt;
  known = none_known layout;
}

-- the kept results are no more than a layout keeps
pub length-last : (layout : Layout) (xs : List Ended) → length (last_in layout xs) ≤ kept_in layout
length-last layout xs = omega (arith, length-drop (length xs - kept_in layout) xs)

-- the kept results of two lists of lawful ones are lawful
pub ended_push : (layout : Layout) (n k clock : ℕ) (xs ys : List Ended) → AllByRecursion (IsLawfulEndedIn layout n k clock) xs
    → AllByRecursion (IsLawfulEndedIn layout n k clock) ys
    → AllByRecursion (IsLawfulEndedIn layout n k clock) (last_in layout (xs ++ ys))
ended_push layout n k clock xs ys h g =
    each_drop (IsLawfulEndedIn layout n k clock) (length (xs ++ ys) - kept_in layout) (xs ++ ys)
    (each_append (IsLawfulEndedIn layout n k clock) xs ys h g)

-- the result of the action that ran is lawful, for an outcome of an action that began
pub ended_running : (layout : Layout) (n k at : ℕ) (outcome : Outcome) (o : Option Running) → IsOutcome outcome → (NeverBegan outcome → ⊥)
    → EncodesOutcome layout outcome → IsLawfulRunningIn layout n k at o
    → AllByRecursion (IsLawfulEndedIn layout n k at) (map (ended_of outcome at) (option_to_list o))
ended_running layout n k at outcome None is other known h = tt
ended_running layout n k at outcome (Some x) is other known h = (
  record {
    drawn = h.0;
    call = h.1;
    run = h.3;
    unbegun = (λ z. absurd (omega (arith, h.2.0)), λ e. absurd (other e));
    interval = h.5;
    since = h.6;
    at = omega arith;
    outcome = is;
    known = known;
  },
  tt,
)

-- the last failure is lawful after the running action has ended
pub failed_push : (layout : Layout) (n k at : ℕ) (end : RunEnd) (h : History) → IsRunEnd end → IsLawfulRunningIn layout n k at h.running
    → IsLawfulFailed n k at h.failed → IsLawfulFailed n k at (failed_in layout (failed_after (Run end) at h))
failed_push First n k at end h is l f = tt
failed_push Second n k at end h is l f = by h.running l
  where
    by : (o : Option Running) → IsLawfulRunningIn Second n k at o
        → IsLawfulFailed n k at (option_or (option_and_then (failed_of (Run end) at) o) h.failed)
    by None r = f
    by (Some x) r = last (has_failed x.task.action x.task.check.expect (Run end))
      where
        last : (b : Bool) → IsLawfulFailed n k at (option_or (cond b (Some (ended_of (Run end) at x)) None) h.failed)
        last true = ((ended_running Second n k at (Run end) (Some x) is (λ e. e) tt r).0, tt)
        last false = f

-- the results of the queued actions that were dropped are lawful
pub ended_dropped : (layout : Layout) (n k at : ℕ) (os : List Op) → 1 ≤ k → AllByRecursion (IsQueued layout n) os
    → AllByRecursion (IsLawfulEndedIn layout n k at) (map (dropped_of at) os)
ended_dropped layout n k at [] one h = tt
ended_dropped layout n k at (o ∷ os) one h = (
  record {
    drawn = h.0.0.0;
    call = h.0.1;
    run = one;
    unbegun = (λ z. tt, λ e. refl);
    interval = (omega arith, λ p. absurd (omega arith));
    since = omega arith;
    at = omega arith;
    outcome = tt;
    known = tt;
  },
  ended_dropped layout n k at os one h.1,
)

-- the result of a withdrawn action is lawful
pub ended_cancelled : (layout : Layout) (n k at call : ℕ) (os : List Op) → 1 ≤ k → KnowsWithdrawal layout
    → AllByRecursion (IsQueued layout n) os
    → AllByRecursion (IsLawfulEndedIn layout n k at) (map (cancelled_of at) (option_to_list (queued_of call os)))
ended_cancelled layout n k at call [] one knows h = tt
ended_cancelled layout n k at call (o ∷ os) one knows h = by (o.call == call) (ended_cancelled layout n k at call os one knows h.1)
  where
    results : Bool → List Ended
    results b = map (cancelled_of at) (option_to_list (cond b (Some o) (queued_of call os)))

    by : (b : Bool) → AllByRecursion (IsLawfulEndedIn layout n k at) (results false)
        → AllByRecursion (IsLawfulEndedIn layout n k at) (results b)
    by true rest = (
      record {
        drawn = h.0.0.0;
        call = h.0.1;
        run = one;
        unbegun = (λ z. tt, λ e. refl);
        interval = (omega arith, λ p. absurd (omega arith));
        since = omega arith;
        at = omega arith;
        outcome = tt;
        known = knows;
      },
      tt,
    )
    by false rest = rest

-- the run of a queued action is lawful
pub running_op : (layout : Layout) (n k at run : ℕ) (o : Op) → IsDrawn run → run < k → IsQueued layout n o
    → IsLawfulRunningIn layout n k at (Some (run_of_op run at o))
running_op layout n k at run o drawn lt h = (h.0.0, h.1, drawn, lt, h.0.1, (omega arith, λ p. absurd (omega arith)), omega arith, h.0.2, h.0.3)

-- the run of a recurring monitor is lawful
pub running_monitor : (layout : Layout) (n k at run : ℕ) (test : Recur → Bool) (ms : List Recur) → IsDrawn run → run < k
    → AllByRecursion (IsRecurring layout n) ms → IsLawfulRunningIn layout n k at (option_map (run_of_monitor run at) (find test ms))
running_monitor layout n k at run test [] drawn lt h = tt
running_monitor layout n k at run test (m ∷ ms) drawn lt h = by (test m) (running_monitor layout n k at run test ms drawn lt h.1)
  where
    by : (b : Bool) → IsLawfulRunningIn layout n k at (option_map (run_of_monitor run at) (find test ms))
        → IsLawfulRunningIn layout n k at (option_map (run_of_monitor run at) (cond b (Some m) (find test ms)))
    by true rest = (h.0.0.0, h.0.1, drawn, lt, h.0.0.2, (h.0.0.1.1, λ p. refl), omega arith, h.0.0.3, refl)
    by false rest = rest

-- an interval that is not found is not among the monitors' intervals
pub absent_interval : (interval : ℕ) (ms : List Recur) → of_interval interval ms ≡ None
    → list_any (nat_eq interval) (map (λ m. m.interval) ms) ≡ false
absent_interval interval [] h = refl
absent_interval interval (m ∷ ms) h = by (m.interval == interval) refl (absent_interval interval ms)
  where
    by : (b : Bool) → (m.interval == interval) ≡ b
        → (of_interval interval ms ≡ None → list_any (nat_eq interval) (map (λ x. x.interval) ms) ≡ false)
        → list_any (nat_eq interval) (map (λ x. x.interval) (m ∷ ms)) ≡ false
    by true same rest = let none : Some m ≡ None = rw same at h in absurd (cc)
    by false other rest =
        let flipped : nat_eq interval m.interval ≡ false = nat_eq_equiv.symm interval m.interval ∙ other in
        rw flipped (rest (rw other at h))

-- intervals stay distinct when a monitor is added whose interval is not found
pub intervals_push : (ms : List Recur) (m : Recur) → of_interval m.interval ms ≡ None → IsDistinct nat_eq (map (λ x. x.interval) ms)
    → IsDistinct nat_eq (map (λ x. x.interval) (ms ++ m ∷ []))
intervals_push ms m fresh h =
    let distinct = IsDistinct-push nat_eq_equiv (map (λ x. x.interval) ms) m.interval h (absent_interval m.interval ms fresh) in
    rw (map-append (λ x. x.interval) ms (m ∷ [])) distinct
