-- The running action of a resource, as events that apply change it: ends between begins, and interruptions.
use Rattle.std.proofs.Common.{◌≡◌, ℕ, ◌==◌, ◌&&◌, ◌||◌, nat_lt, length, Bool, true, false, cond, List, [], ◌∷◌, ◌++◌, Option, Some, None, option_map, option_and_then, refl, sym, ap, subst, ◌∙◌}
use Rattle.std.specs.Prelude.{IsSome, IsSomeAnd}
use Rattle.std.specs.Map.{lookup}
use Rattle.std.specs.Str.{bytes_eq}
use Rattle.std.proofs.lemmas.Bool.{false≢true, both_ways}
use Rattle.ocf_model.specs.Applies.{ChangeApplies, IsReady, StepApplies}
use Rattle.ocf_types.specs.Kinds.{Change, Event, Step}
use Rattle.ocf_types.specs.Lemmas.{same_number, some_is}
use Rattle.ocf_model.specs.RegistryLemmas.{call_of, found, same_id}
use Rattle.ocf_model.specs.Resource.{History, Resource, begun_from, booted, is_busy, of_call}
use Rattle.ocf_model.specs.State.{State, after, after_all, changed, on_history, registered, resource_at, stepped}
use Rattle.ocf_types.specs.declared.event.Change.TheVariants as change
use Rattle.ocf_types.specs.declared.event.Step.TheVariants as step
use Rattle.ocf_types.specs.declared.operation.Op.{Op}
use Rattle.ocf_types.specs.declared.operation.Recur.{Recur}
use Rattle.ocf_types.specs.declared.operation.Running.{Running}
use Rattle.executor_laws.specs.Histories.{EndsBetween, Follow, ends_run, has_end}
use Rattle.executor_laws.proofs.History.Events.{Turned, turned}

-- the running action of a resource, if it is there
abbrev pub runs_in : Option Resource → Option Running
runs_in o = option_and_then (λ r. r.history.running) o

abbrev pub running_at : State → List ℕ → Option Running
running_at s id = runs_in (resource_at s id)

-- a change, and the running action of the resource of an id
abbrev pub Ran : State → List ℕ → Change → Option Running → Option Running → Type 0
Ran s id (change.Step other (step.Begin call run)) was now =
    cond (bytes_eq id other)
    ((was ≡ None) × (x : Running) × (now ≡ Some x) × (x.call ≡ call) × (x.run ≡ run) × (run ≡ s.next_run)) (now ≡ was)
Ran s id (change.Step other (step.Result run end)) was now =
    cond (bytes_eq id other) ((x : Running) × (was ≡ Some x) × (x.run ≡ run) × (now ≡ None)) (now ≡ was)
Ran s id change.Boot was now = now ≡ None
Ran s id _ was now = now ≡ was

or_true : (a : Bool) → (a || true) ≡ true
or_true true = refl
or_true false = refl

pub rests : (h : History) → is_busy h ≡ false → h.running ≡ None
rests h idle = by h.running refl
  where
    by : (o : Option Running) → h.running ≡ o → o ≡ None
    by None is = refl
    by (Some x) is = absurd (both_ways (is_busy h) idle (rw is (or_true (nat_lt 0 (length h.queue)))))

-- the running action after a begin
begins_so : (q : List Op) (ms : List Recur) (call run at : ℕ) (h : History) → IsReady q ms call
    → (x : Running) × ((begun_from q (of_call call ms) run at h).running ≡ Some x) × (x.call ≡ call) × (x.run ≡ run)
begins_so (o ∷ os) ms call run at h ready = (record { call = o.call; run = run; task = o.task; timeout = o.timeout; interval = 0; since = at }, refl, sym ready, refl)
begins_so [] ms call run at h ready = by (of_call call ms) refl ready
  where
    by : (o : Option Recur) → of_call call ms ≡ o → IsSome o
        → (x : Running) × ((begun_from [] o run at h).running ≡ Some x) × (x.call ≡ call) × (x.run ≡ run)
    by None is some = absurd (false≢true some)
    by (Some m) is some = (_, refl, call_of call ms m is, refl)

module _ (s : State) (id : List ℕ) (at : ℕ) where
  own_step : (what : Step) (r : Resource) (was now : Option Resource) → was ≡ Some r → StepApplies s.next_call s.next_run what r
      → now ≡ Some (stepped at what r) → (other : List ℕ) → bytes_eq id other ≡ true → Ran s id (change.Step other what) (runs_in was) (runs_in now)
  own_step (step.Begin call run) r was now is applies is_now other own =
      let b = begins_so r.history.queue r.recurring call run at r.history applies.1 in
      rw own (ap runs_in is ∙ applies.0, b.0, ap runs_in is_now ∙ b.1, b.2, b.3, applies.2.0)
  own_step (step.Result run end) r was now is applies is_now other own =
      let f = found r.history.running (λ x. x.run ≡ run) applies in
      rw own (f.0, ap runs_in is ∙ f.1, f.2, ap runs_in is_now)
  own_step _ r was now is applies is_now other own = ap runs_in is_now ∙ sym (ap runs_in is)

  other_step : (what : Step) (was now : Option Resource) → now ≡ was → (other : List ℕ) → bytes_eq id other ≡ false
      → Ran s id (change.Step other what) (runs_in was) (runs_in now)
  other_step (step.Begin call run) was now same other apart = rw apart (ap runs_in same)
  other_step (step.Result run end) was now same other apart = rw apart (ap runs_in same)
  other_step _ was now same other apart = ap runs_in same

  ran_so : (c : Change) (was now : Option Resource) → Turned s id at c was now → Ran s id c (runs_in was) (runs_in now)
  ran_so (change.Register r) was now so = by (bytes_eq id r.id) so
    where
      by : (b : Bool) → cond b ((was ≡ None) × (now ≡ Some (registered r).1)) (now ≡ was) → runs_in now ≡ runs_in was
      by true h = ap runs_in h.1 ∙ sym (ap runs_in h.0)
      by false h = ap runs_in h
  ran_so (change.Unregister other) was now so = by (bytes_eq id other) so
    where
      by : (b : Bool) → cond b (IsSomeAnd was (λ r. is_busy r.history ≡ false) × (now ≡ None)) (now ≡ was) → runs_in now ≡ runs_in was
      by true h =
          let f = found was (λ r. is_busy r.history ≡ false) h.0 in
          ap runs_in h.1 ∙ sym (ap runs_in f.1 ∙ rests f.0.history f.2)
      by false h = ap runs_in h
  ran_so (change.Step other what) was now so = by (bytes_eq id other) refl so
    where
      by : (b : Bool) → bytes_eq id other ≡ b
          → cond b ((r : Resource) × (was ≡ Some r) × StepApplies s.next_call s.next_run what r × (now ≡ Some (stepped at what r))) (now ≡ was)
          → Ran s id (change.Step other what) (runs_in was) (runs_in now)
      by true own h = own_step what h.0 was now h.1 h.2 h.3 other own
      by false apart h = other_step what was now h other apart
  ran_so change.Boot was now so = ap runs_in so ∙ none was
    where
      none : (o : Option Resource) → runs_in (option_map (on_history (booted at)) o) ≡ None
      none None = refl
      none (Some r) = refl

  -- an event that applies, and the running action
  pub ran : (c : Change) → ChangeApplies s c → Ran s id c (running_at s id) (runs_in (lookup (bytes_eq id) (changed at c s.resources)))
  ran c applies = ran_so c (resource_at s id) (lookup (bytes_eq id) (changed at c s.resources)) (turned s id at c applies)

-- events that follow others
pub follow_after : (s : State) (es fs : List Event) → Follow s (es ++ fs) → Follow (after_all s es) fs
follow_after s [] fs h = h
follow_after s (e ∷ es) fs h = follow_after (after s e) es fs h.1

pub follow_first : (s : State) (es fs : List Event) → Follow s (es ++ fs) → Follow s es
follow_first s [] fs h = tt
follow_first s (e ∷ es) fs h = (h.0, follow_first (after s e) es fs h.1)

pub both_false : (a b : Bool) → (a || b) ≡ false → (a ≡ false) × (b ≡ false)
both_false true b h = absurd (false≢true (sym h))
both_false false b h = (refl, h)

module _ (id : List ℕ) (run : ℕ) where
  -- a run goes on while it has no end
  stays_one : (s : State) (c : Change) (x : Running) (now : Option Running) → Ran s id c (Some x) now → x.run ≡ run → ends_run id run c ≡ false
      → now ≡ Some x
  stays_one s (change.Step other (step.Begin call n)) x now so is none = by (bytes_eq id other) so
    where
      by : (b : Bool)
          → cond b ((Some x ≡ None) × (y : Running) × (now ≡ Some y) × (y.call ≡ call) × (y.run ≡ n) × (n ≡ s.next_run)) (now ≡ Some x)
          → now ≡ Some x
      by true h = absurd (let bad : Some x ≡ None = h.0 in cc)
      by false h = h
  stays_one s (change.Step other (step.Result n end)) x now so is none = by (bytes_eq id other) none so
    where
      by : (b : Bool) → (b && (n == run)) ≡ false
          → cond b ((y : Running) × (Some x ≡ Some y) × (y.run ≡ n) × (now ≡ None)) (now ≡ Some x) → now ≡ Some x
      by true differs h =
          let same : x ≡ h.0 = some_is x h.0 h.1 in
          let number : n ≡ run = sym h.2 ∙ ap (λ (y : Running). y.run) (sym same) ∙ is in
          absurd (both_ways (n == run) differs (same_number n run number))
      by false differs h = h
  stays_one s change.Boot x now so is none = absurd (false≢true (sym none))
  stays_one s _ x now so is none = so

  pub stays : (s : State) (es : List Event) (x : Running) → Follow s es → running_at s id ≡ Some x → x.run ≡ run → has_end id run es ≡ false
      → running_at (after_all s es) id ≡ Some x
  stays s [] x follow runs is none = runs
  stays s (e ∷ es) x follow runs is none =
      let halves = both_false (ends_run id run e.change) (has_end id run es) none in
      stays (after s e) es x follow.1
      (stays_one s e.change x (running_at (after s e) id)
      (subst (λ (o : Option Running). Ran s id e.change o (running_at (after s e) id)) runs (ran s id e.at e.change follow.0)) is halves.0)
      is halves.1

-- the running action after a begin that applies
pub begun_so : (s : State) (e : Event) (id : List ℕ) (call run : ℕ) → ChangeApplies s e.change → e.change ≡ change.Step id (step.Begin call run)
    → (running_at s id ≡ None)
    × (x : Running) × (running_at (after s e) id ≡ Some x) × (x.call ≡ call) × (x.run ≡ run) × (run ≡ s.next_run)
begun_so s e id call run applies is =
    let so : Ran s id (change.Step id (step.Begin call run)) (running_at s id) (running_at (after s e) id) =
    subst (λ (c : Change). Ran s id c (running_at s id) (running_at (after s e) id)) is (ran s id e.at e.change applies) in
    rw (same_id id) at so

-- between two begins of a resource the first one's run ends
pub ends_between : (s : State) (es : List Event) → Follow s es → EndsBetween es
ends_between s es follow before between later first second id call run next_call next_run is begins again =
    by (has_end id run between) refl
  where
    rest : List Event
    rest = between ++ second ∷ later

    by : (b : Bool) → has_end id run between ≡ b → b ≡ true
    by true none = refl
    by false none =
        let t = after_all s before in
        let following : Follow t (first ∷ (between ++ second ∷ later)) =
        follow_after s before (first ∷ (between ++ second ∷ later)) (subst (Follow s) is follow) in
        let one = begun_so t first id call run following.0 begins in
        let crash = stays id run (after t first) between one.1 (follow_first (after t first) between (second ∷ later) following.1) one.2 one.4 none in
        let last = follow_after (after t first) between (second ∷ later) following.1 in
        let two = begun_so (after_all (after t first) between) second id next_call next_run last.0 again in
        absurd (let bad : Some one.1 ≡ None = sym crash ∙ two.0 in cc)
