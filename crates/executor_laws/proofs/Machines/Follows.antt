-- The events of the machine's calls apply, each after those before it.
use Rattle.std.proofs.Common.{◌≡◌, ◌⊎◌, inl, inr, ℕ, ◌+◌, ◌≤◌, ◌<◌, Bool, true, false, List, [], ◌∷◌, ◌++◌, length, map, flat_map, Option, Some, None, Ok, option_map, is_none, is_some, leb, IsSome, IsSomeAnd, refl, sym, ap, subst, ◌∙◌, arith}
use Rattle.std.specs.List.{AllByRecursion, IsDistinct}
use Rattle.std.specs.Map.{keys_of, lookup}
use Rattle.std.specs.Option.{option_map_or}
use Rattle.std.specs.Str.{bytes_eq}
use Rattle.std.proofs.lemmas.Bool.{eqb-false, leb-false}
use Rattle.std.proofs.lemmas.Map.Keys.{IsDistinct-cons, IsDistinct-head, IsDistinct-tail}
use Rattle.std.proofs.lemmas.Slice.Eq.{bytes_eq-Decides}
use Rattle.ocf_model.specs.Answer.{asked_event, event_of, tests}
use Rattle.ocf_model.specs.Applies.{ChangeApplies, IsReady, StepApplies}
use Rattle.ocf_model.specs.Due.{Due, IsPick, IsPickOf, due_pairs}
use Rattle.ocf_types.specs.Kinds.{Change, Command, Event}
use Rattle.ocf_types.specs.Lemmas.{distinct_none, each_append, each_weaken}
use Rattle.ocf_types.specs.Limits.{num_max}
use Rattle.ocf_model.specs.RegistryLemmas.{found, none_is, other_stays, passed, same_id}
use Rattle.ocf_types.specs.Lemmas.{other_way}
use Rattle.ocf_model.specs.Resource.{Resource, is_busy, of_interval, queued_of}
use Rattle.ocf_types.specs.Encoding.{encoded_event}
use Rattle.ocf_model.specs.State.{Registry, State, after, after_all, calls_drawn, named, resource_at, stepped}
use Rattle.ocf_types.specs.declared.command.CommandOf.TheVariants as command
use Rattle.ocf_types.specs.declared.event.Change.TheVariants as change
use Rattle.ocf_types.specs.declared.event.Step.TheVariants as step
use Rattle.ocf_types.specs.declared.operation.Op.{Op}
use Rattle.ocf_types.specs.declared.operation.Running.{Running}
use Rattle.ocf_types.specs.declared.outcome.RunEnd.{RunEnd}
use Rattle.exec_ledger.specs.Actives.{Active, active, active_in, active_of, all_in}
use Rattle.exec_turn.specs.Actives.{result_of}
use Rattle.exec_turn.specs.Picks.{ArePicks, begin_of, begins, begun_in}
use Rattle.executor_laws.specs.Histories.{Follow}
use Rattle.executor_laws.proofs.Isolation.Lists.{each_both, each_first, each_map, each_unmap}
use Rattle.executor_laws.proofs.Isolation.Picks.{begun_one, next_pick, picks_ready}
use Rattle.executor_laws.proofs.History.Events.{lookup-own}
use Rattle.executor_laws.proofs.History.Runs.{running_at, runs_in}

-- events after others
pub follow_both : (s : State) (es fs : List Event) → Follow s es → Follow (after_all s es) fs → Follow s (es ++ fs)
follow_both s [] fs h k = k
follow_both s (e ∷ es) fs h k = (h.0, follow_both (after s e) es fs h.1 k)

module _ {A : Type 0} where
  there : (o : Option A) → is_none o ≡ false → IsSome o
  there None h = absurd (cc)
  there (Some x) h = refl

  -- a fact of an element, from tests that do not hold of it
  from_test : (o : Option A) (test : A → Bool) (P : A → Type 0) → ((x : A) → test x ≡ false → P x) → is_none o ≡ false
      → option_map_or test o false ≡ false → IsSomeAnd o P
  from_test None test P f n h = absurd (cc)
  from_test (Some x) test P f n h = f x h

  from_tests : (o : Option A) (test more : A → Bool) (P : A → Type 0) → ((x : A) → test x ≡ false → more x ≡ false → P x) → is_none o ≡ false
      → option_map_or test o false ≡ false → option_map_or more o false ≡ false → IsSomeAnd o P
  from_tests None test more P f n h k = absurd (cc)
  from_tests (Some x) test more P f n h k = f x h k

  from_none : (o : Option A) (P : A → Type 0) → ((x : A) → P x) → is_none o ≡ false → IsSomeAnd o P
  from_none None P f n = absurd (cc)
  from_none (Some x) P f n = f x

-- the change that a command asks for applies where no test held
asked_applies : (s : State) (now : ℕ) (c : Command) → s.next_call ≤ num_max
    → AllByRecursion (λ t. t.1 ≡ false) (tests s c (length (encoded_event (asked_event s now c)))) → ChangeApplies s (asked_event s now c).change
asked_applies s now (command.Register r) low p = (none_is (resource_at s r.id) p.0, leb-false _ _ p.1.0)
asked_applies s now (command.Unregister id) low p =
    from_test (resource_at s id) (λ r. is_busy r.history) (λ r. is_busy r.history ≡ false) (λ r idle. idle) p.0 p.1.0
asked_applies s now (command.SetParams id ps) low p = from_none (resource_at s id) (StepApplies s.next_call s.next_run (step.SetParams ps)) (λ r. tt) p.0
asked_applies s now (command.Exec id t timeout) low p =
    let unspent = eqb-false _ _ p.1.1.0 in
    from_test (resource_at s id) (λ r. leb 32 (length r.history.queue))
    (StepApplies s.next_call s.next_run (step.Exec (record { call = s.next_call; task = t; timeout = timeout })))
    (λ r room. (leb-false _ _ room, (refl, omega (arith, low, unspent)))) p.0 p.1.0
asked_applies s now (command.Recur id interval timeout check) low p =
    let unspent = eqb-false _ _ p.1.1.1.0 in
    from_tests (resource_at s id) (λ r. is_some (of_interval interval r.recurring)) (λ r. leb 8 (length r.recurring))
    (StepApplies s.next_call s.next_run (step.Recur (record { call = s.next_call; interval = interval; timeout = timeout; check = check })))
    (λ r fresh room. (leb-false _ _ room, none_is (of_interval interval r.recurring) fresh, (refl, omega (arith, low, unspent)))) p.0 p.1.0 p.1.1.0
asked_applies s now (command.Cancel id interval) low p =
    from_test (resource_at s id) (λ r. is_none (of_interval interval r.recurring)) (StepApplies s.next_call s.next_run (step.Cancel interval))
    (λ r is. there (of_interval interval r.recurring) is) p.0 p.1.0
asked_applies s now (command.Forget id) low p = from_none (resource_at s id) (StepApplies s.next_call s.next_run step.Forget) (λ r. tt) p.0
asked_applies s now (command.Withdraw id call) low p =
    from_test (resource_at s id) (λ r. is_none (queued_of call r.history.queue)) (StepApplies s.next_call s.next_run (step.Withdraw call))
    (λ r is. there (queued_of call r.history.queue) is) p.0 p.1.0

pub command_applies : (s : State) (now : ℕ) (c : Command) (e : Event) → s.next_call ≤ num_max → event_of s now c ≡ Ok e → ChangeApplies s e.change
command_applies s now c e low is =
    let p = passed (tests s c (length (encoded_event (asked_event s now c)))) (asked_event s now c) e is in
    subst (λ (x : Event). ChangeApplies s x.change) p.0 (asked_applies s now c low p.1)

-- so the next call number is never above the greatest
drawn_one : (s : State) (c : Change) → ChangeApplies s c → s.next_call ≤ num_max → s.next_call + calls_drawn c ≤ num_max
drawn_one s (change.Step id (step.Exec o)) applies low =
    let f = found (resource_at s id) (StepApplies s.next_call s.next_run (step.Exec o)) applies in
    let same = f.2.1.0 in let lt = f.2.1.1 in omega (arith, same, lt)
drawn_one s (change.Step id (step.Recur m)) applies low =
    let f = found (resource_at s id) (StepApplies s.next_call s.next_run (step.Recur m)) applies in
    let same = f.2.2.0 in let lt = f.2.2.1 in omega (arith, same, lt)
drawn_one s _ applies low = omega (arith, low)

pub drawn : (s : State) (es : List Event) → Follow s es → s.next_call ≤ num_max → (after_all s es).next_call ≤ num_max
drawn s [] h low = low
drawn s (e ∷ es) h low = drawn (after s e) es h.1 (drawn_one s e.change h.0 low)

-- ends of running actions
abbrev pub RunsHere : State → Active → Type 0
RunsHere s a = running_at s a.id ≡ Some a.running

abbrev pub ids_of : List Active → List (List ℕ)
ids_of all = map (λ a. a.id) all

end_applies : (s : State) (a : Active) (end : RunEnd) → RunsHere s a → ChangeApplies s (change.Step a.id (step.Result a.running.run end))
end_applies s a end runs = by (resource_at s a.id) runs
  where
    inside : (o : Option Running) → o ≡ Some a.running → IsSomeAnd o (λ x. x.run ≡ a.running.run)
    inside None is = absurd (let bad : None ≡ Some a.running = is in cc)
    inside (Some x) is = let same : Some x ≡ Some a.running = is in let one : x ≡ a.running = cc in ap (λ (y : Running). y.run) one

    by : (o : Option Resource) → runs_in o ≡ Some a.running → IsSomeAnd o (StepApplies s.next_call s.next_run (step.Result a.running.run end))
    by None is = absurd (let bad : None ≡ Some a.running = is in cc)
    by (Some r) is = inside r.history.running is

-- running actions of other resources stay
stays_apart : (s : State) (e : Event) (id other : List ℕ) → named e.change ≡ Some id → bytes_eq id other ≡ false
    → resource_at (after s e) other ≡ resource_at s other
stays_apart s e id other names apart =
    other_stays e.at e.change s.resources id other names
    (λ same. let own : bytes_eq id other ≡ true = (bytes_eq-Decides id other).1 same in let bad : true ≡ false = sym own ∙ apart in cc)

run_stays : (s : State) (e : Event) (id : List ℕ) (a : Active) → named e.change ≡ Some id → bytes_eq id a.id ≡ false → RunsHere s a → RunsHere (after s e) a
run_stays s e id a names apart runs = ap runs_in (stays_apart s e id a.id names apart) ∙ runs

abbrev pub AtMostOne : List RunEnd → Type 0
AtMostOne ends = (ends ≡ []) ⊎ ((end : RunEnd) × (ends ≡ end ∷ []))

module _ {X : Type 0} (at : ℕ) (who : X → Active) (ends : X → List RunEnd) (few : (x : X) → AtMostOne (ends x)) where
  pub ends_follow : (s : State) (xs : List X) → AllByRecursion (λ x. RunsHere s (who x)) xs → IsDistinct bytes_eq (map (λ x. (who x).id) xs)
      → Follow s (flat_map (λ x. map (result_of at (who x)) (ends x)) xs)
  ends_follow s [] runs apart = tt
  ends_follow s (x ∷ xs) runs apart =
      by (few x) (ends_follow s xs runs.1 tail) (λ end. ends_follow (after s (result_of at (who x) end)) xs (on end) tail)
    where
      rest : List Event
      rest = flat_map (λ x. map (result_of at (who x)) (ends x)) xs

      tail : IsDistinct bytes_eq (map (λ x. (who x).id) xs)
      tail = IsDistinct-tail bytes_eq (who x).id (map (λ x. (who x).id) xs) apart

      on : (end : RunEnd) → AllByRecursion (λ y. RunsHere (after s (result_of at (who x) end)) (who y)) xs
      on end = each_both (λ y. bytes_eq (who x).id (who y).id ≡ false) (λ y. RunsHere s (who y))
          (λ y. RunsHere (after s (result_of at (who x) end)) (who y))
          (λ y other runs. run_stays s (result_of at (who x) end) (who x).id (who y) refl other runs) xs
          (each_unmap (λ k. bytes_eq (who x).id k ≡ false) (λ y. (who y).id) xs
          (IsDistinct-head bytes_eq (who x).id (map (λ x. (who x).id) xs) apart)) runs.1

      by : AtMostOne (ends x) → Follow s rest → ((end : RunEnd) → Follow (after s (result_of at (who x) end)) rest)
          → Follow s (map (result_of at (who x)) (ends x) ++ rest)
      by (inl none) here later = rw none here
      by (inr (end, one)) here later = rw one (end_applies s (who x) end runs.0, later end)

-- each action that runs runs in its resource, where ids differ, and each of another
active_key : (key : List ℕ) (rs : Registry) → AllByRecursion (λ k. bytes_eq key k ≡ false) (keys_of rs)
    → AllByRecursion (λ a. bytes_eq key a.id ≡ false) (all_in rs)
active_key key [] h = tt
active_key key (e ∷ es) h = each_append (λ a. bytes_eq key a.id ≡ false) (active_in e) (all_in es) (by e.1.history.running) (active_key key es h.1)
  where
    by : (o : Option Running) → AllByRecursion (λ a. bytes_eq key a.id ≡ false) (active_of e.0 o)
    by None = tt
    by (Some x) = (h.0, tt)

active_runs : (rs : Registry) → IsDistinct bytes_eq (keys_of rs)
    → AllByRecursion (λ a. runs_in (lookup (bytes_eq a.id) rs) ≡ Some a.running) (all_in rs)
active_runs [] apart = tt
active_runs (e ∷ es) apart =
    each_append (λ a. runs_in (lookup (bytes_eq a.id) (e ∷ es)) ≡ Some a.running) (active_in e) (all_in es) (by e.1.history.running refl)
    (each_both (λ (a : Active). bytes_eq e.0 a.id ≡ false) (λ a. runs_in (lookup (bytes_eq a.id) es) ≡ Some a.running)
    (λ a. runs_in (lookup (bytes_eq a.id) (e ∷ es)) ≡ Some a.running)
    (λ a other runs. rw (other_way e.0 a.id other) runs) (all_in es)
    (active_key e.0 es (IsDistinct-head bytes_eq e.0 (keys_of es) apart))
    (active_runs es (IsDistinct-tail bytes_eq e.0 (keys_of es) apart)))
  where
    by : (o : Option Running) → e.1.history.running ≡ o
        → AllByRecursion (λ a. runs_in (lookup (bytes_eq a.id) (e ∷ es)) ≡ Some a.running) (active_of e.0 o)
    by None is = tt
    by (Some x) is = (rw (same_id e.0) is, tt)

active_apart : (rs : Registry) → IsDistinct bytes_eq (keys_of rs) → IsDistinct bytes_eq (ids_of (all_in rs))
active_apart [] apart = apart
active_apart (e ∷ es) apart = by e.1.history.running (active_apart es (IsDistinct-tail bytes_eq e.0 (keys_of es) apart))
  where
    by : (o : Option Running) → IsDistinct bytes_eq (ids_of (all_in es)) → IsDistinct bytes_eq (ids_of (active_of e.0 o ++ all_in es))
    by None rest = rest
    by (Some x) rest =
        IsDistinct-cons bytes_eq e.0 (ids_of (all_in es))
        (each_map (λ k. bytes_eq e.0 k ≡ false) (λ a. a.id) (all_in es) (active_key e.0 es (IsDistinct-head bytes_eq e.0 (keys_of es) apart)))
        rest

pub all_run : (s : State) → IsDistinct bytes_eq (keys_of s.resources)
    → AllByRecursion (RunsHere s) (active s) × IsDistinct bytes_eq (ids_of (active s))
all_run s apart = (active_runs s.resources apart, active_apart s.resources apart)

-- each resource is found by its id
pub entries_found : (rs : Registry) → IsDistinct bytes_eq (keys_of rs) → AllByRecursion (λ e. lookup (bytes_eq e.0) rs ≡ Some e.1) rs
entries_found [] apart = tt
entries_found (e ∷ es) apart = (
  rw (same_id e.0) refl,
  each_both (λ (x : List ℕ × Resource). bytes_eq e.0 x.0 ≡ false) (λ x. lookup (bytes_eq x.0) es ≡ Some x.1) (λ x. lookup (bytes_eq x.0) (e ∷ es) ≡ Some x.1)
      (λ x other found. rw (other_way e.0 x.0 other) found) es
      (each_unmap (λ k. bytes_eq e.0 k ≡ false) (λ x. x.0) es (IsDistinct-head bytes_eq e.0 (keys_of es) apart))
      (entries_found es (IsDistinct-tail bytes_eq e.0 (keys_of es) apart)),
)

-- the pick of a resource may begin
may_begin : (r : Resource) (due : ℕ → Option ℕ) (at call : ℕ) → IsPick r due at (Some call)
    → (r.history.running ≡ None) × IsReady r.history.queue r.recurring call
may_begin r due at call pick = by r.history.running r.history.queue refl refl pick
  where
    by : (o : Option Running) (q : List Op) → r.history.running ≡ o → r.history.queue ≡ q → IsPickOf o q (due_pairs r.recurring due) at (Some call)
        → (r.history.running ≡ None) × IsReady r.history.queue r.recurring call
    by (Some x) q is queue p = absurd (let no : Some call ≡ None = p in cc)
    by None (o ∷ os) is queue p = (is, rw queue (let same : Some call ≡ Some o.call = p in cc))
    by None [] is queue p = (is, rw queue (picks_ready r due at call p))

begun_here : (id : List ℕ) (o : Option Running) (x : Running) → active_of id o ≡ record { id = id; running = x } ∷ [] → o ≡ Some x
begun_here id None x is = absurd (let bad : [] ≡ record { id = id; running = x } ∷ [] = is in cc)
begun_here id (Some y) x is =
    let a : Active = record { id = id; running = y } in
    let b : Active = record { id = id; running = x } in
    let all : a ∷ [] ≡ b ∷ [] = is in
    let same : a ≡ b = cc in ap (λ (c : Active). Some c.running) same

-- ids of actions begun are ids of the resources
begun_key : (P : List ℕ → Type 0) (held : List (List ℕ)) (moments : Due) (at run : ℕ) (rs : Registry) (bs out : List Active)
    → ArePicks held moments at run rs (bs ++ out) → AllByRecursion P (keys_of rs) → AllByRecursion (λ a. P a.id) (bs ++ out)
begun_key P held moments at run [] bs out h keys = subst (AllByRecursion (λ a. P a.id)) (sym h) tt
begun_key P held moments at run (e ∷ es) bs out (call, rest, pick, later, is) keys =
    subst (AllByRecursion (λ a. P a.id)) (sym is)
    (each_append (λ a. P a.id) (begun_in at run e call) rest (first call)
    (begun_key P held moments at (run + length (begun_in at run e call)) es [] rest later keys.1))
  where
    one : (o : Option Running) → AllByRecursion (λ a. P a.id) (active_of e.0 o)
    one None = tt
    one (Some x) = (keys.0, tt)

    first : (c : Option ℕ) → AllByRecursion (λ a. P a.id) (begun_in at run e c)
    first None = tt
    first (Some c) = one (stepped at (step.Begin c run) e.1).history.running

others_kept : (s : State) (at : ℕ) (bs : List Active) (id : List ℕ) → AllByRecursion (λ b. bytes_eq b.id id ≡ false) bs
    → resource_at (after_all s (begins at bs)) id ≡ resource_at s id
others_kept s at [] id h = refl
others_kept s at (b ∷ bs) id h =
    others_kept (after s (begin_of at b)) at bs id h.1 ∙ stays_apart s (begin_of at b) b.id id refl h.0

-- one begin
module _ (moments : Due) (at run : ℕ) (e : List ℕ × Resource) (call : ℕ) (pick : IsPick e.1 (moments e.0) at (Some call)) (s : State)
    (next : s.next_run ≡ run) (is : resource_at s e.0 ≡ Some e.1) where
  abbrev begun : Active
  begun = record { id = e.0; running = (begun_one (moments e.0) at run e call pick).0 }

  begin_applies : run < num_max → ChangeApplies s (begin_of at begun).change
  begin_applies low =
      let one = begun_one (moments e.0) at run e call pick in
      let may = may_begin e.1 (moments e.0) at call pick in
      let number : one.0.run ≡ s.next_run = one.3 ∙ sym next in
      subst (λ (o : Option Resource). IsSomeAnd o (StepApplies s.next_call s.next_run (step.Begin one.0.call one.0.run))) (sym is) (
        may.0,
        subst (IsReady e.1.history.queue e.1.recurring) (sym one.2) may.1,
        (number, (let same = number in let same2 = next in omega (arith, low, same, same2))),
      )

  begin_runs : RunsHere (after s (begin_of at begun)) begun
  begin_runs =
      let one = begun_one (moments e.0) at run e call pick in
      let what = step.Begin one.0.call one.0.run in
      ap runs_in (lookup-own e.0 (stepped at what) s.resources ∙ ap (option_map (stepped at what)) is)
      ∙ subst (λ (n : ℕ). (stepped at (step.Begin n one.0.run) e.1).history.running ≡ Some one.0) (sym one.2)
      (subst (λ (n : ℕ). (stepped at (step.Begin call n) e.1).history.running ≡ Some one.0) (sym one.3)
      (begun_here e.0 (stepped at (step.Begin call run) e.1).history.running one.0 one.1))

-- The begins of picks apply, and the actions run then.
pub record BegunSo (s : State) (at : ℕ) (bs : List Active) : Type 0 where
  pub follow : Follow s (begins at bs)
  pub run : AllByRecursion (RunsHere (after_all s (begins at bs))) bs
  pub apart : IsDistinct bytes_eq (ids_of bs)

none_begun : (s : State) (at : ℕ) → BegunSo s at []
none_begun s at = record { follow = tt; run = tt; apart = distinct_none bytes_eq }

-- one more, of an id that is not among the others
begun_more : (s : State) (at : ℕ) (a : Active) (bs : List Active) → ChangeApplies s (begin_of at a).change → RunsHere (after s (begin_of at a)) a
    → AllByRecursion (λ b. bytes_eq a.id b.id ≡ false) bs → BegunSo (after s (begin_of at a)) at bs → BegunSo s at (a ∷ bs)
begun_more s at a bs applies runs apart rest = record {
  follow = (applies, rest.follow);
  run = (
    ap runs_in (others_kept (after s (begin_of at a)) at bs a.id
        (each_weaken (λ b. bytes_eq a.id b.id ≡ false) (λ b. bytes_eq b.id a.id ≡ false) (λ b h. other_way a.id b.id h) bs apart)) ∙ runs,
    rest.run,
  );
  apart = IsDistinct-cons bytes_eq a.id (ids_of bs) (each_map (λ k. bytes_eq a.id k ≡ false) (λ b. b.id) bs apart) rest.apart;
}

pub begins_follow : (held : List (List ℕ)) (moments : Due) (at run : ℕ) (rs : Registry) (bs out : List Active)
    → ArePicks held moments at run rs (bs ++ out) → IsDistinct bytes_eq (keys_of rs)
    → (s : State) → s.next_run ≡ run → run + length bs ≤ num_max → AllByRecursion (λ e. resource_at s e.0 ≡ Some e.1) rs → BegunSo s at bs
begins_follow held moments at run rs [] out picks apart s next fits is = none_begun s at
begins_follow held moments at run [] (b ∷ bs) out picks apart s next fits is = absurd (let bad : b ∷ (bs ++ out) ≡ [] = picks in cc)
begins_follow held moments at run (e ∷ es) (b ∷ bs) out (None, rest, pick, later, is_all) apart s next fits is =
    begins_follow held moments at (run + 0) es (b ∷ bs) out (subst (ArePicks held moments at (run + 0) es) (sym is_all) later)
    (IsDistinct-tail bytes_eq e.0 (keys_of es) apart) s (omega (arith, next)) (omega (arith, fits)) is.1
begins_follow held moments at run (e ∷ es) (b ∷ bs) out (Some call, rest, is_next, later, is_all) apart s next fits is =
    let pick = next_pick held moments at e call is_next in
    let one = begun_one (moments e.0) at run e call pick in
    let a : Active = record { id = e.0; running = one.0 } in
    let all : b ∷ (bs ++ out) ≡ a ∷ rest = is_all ∙ ap (λ (l : List Active). l ++ rest) one.1 in
    let first : b ≡ a = cc in
    let following : bs ++ out ≡ rest = cc in
    let n : ℕ = run + length (begun_in at run e (Some call)) in
    let counts : length (begun_in at run e (Some call)) ≡ 1 = ap (λ (l : List Active). length l) one.1 in
    let picks = subst (ArePicks held moments at n es) (sym following) later in
    let keys = IsDistinct-head bytes_eq e.0 (keys_of es) apart in
    let s2 = after s (begin_of at a) in
    let rest_so = begins_follow held moments at n es bs out picks (IsDistinct-tail bytes_eq e.0 (keys_of es) apart) s2
    (omega (arith, next, counts)) (omega (arith, fits, counts))
    (each_both (λ (x : List ℕ × Resource). bytes_eq e.0 x.0 ≡ false) (λ x. resource_at s x.0 ≡ Some x.1) (λ x. resource_at s2 x.0 ≡ Some x.1)
    (λ x other there. stays_apart s (begin_of at a) e.0 x.0 refl other ∙ there) es
    (each_unmap (λ k. bytes_eq e.0 k ≡ false) (λ x. x.0) es keys) is.1) in
    subst (λ (c : Active). BegunSo s at (c ∷ bs)) (sym first)
    (begun_more s at a bs (begin_applies moments at run e call pick s next is.0 (omega (arith, fits)))
    (begin_runs moments at run e call pick s next is.0)
    (each_first (λ b. bytes_eq e.0 b.id ≡ false) bs out (begun_key (λ k. bytes_eq e.0 k ≡ false) held moments at n es bs out picks keys)) rest_so)
