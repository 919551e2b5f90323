-- Queued actions of a resource begin in the order of their calls.
use Rattle.std.proofs.Common.{◌≡◌, inl, inr, ℕ, ◌==◌, ◌||◌, Bool, true, false, cond, not, List, [], ◌∷◌, ◌++◌, map, filter, nat_eq, Option, Some, None, option_map, flat_map, refl, sym, ap, subst, ◌∙◌, append_assoc}
use Rattle.std.specs.Prelude.{IsSome, IsSomeAnd}
use Rattle.std.specs.List.{AllByRecursion, list_any}
use Rattle.std.specs.Option.{option_map_or}
use Rattle.std.specs.Map.{lookup}
use Rattle.std.specs.Str.{bytes_eq}
use Rattle.std.proofs.lemmas.Bool.{false≢true}
use Rattle.std.proofs.lemmas.Bool.Decides.{Decides-eqb}
use Rattle.std.proofs.lemmas.List.{map-append}
use Rattle.std.proofs.lemmas.List.Elements.{filter-append}
use Rattle.ocf_model.specs.Applies.{IsReady, StepApplies}
use Rattle.ocf_types.specs.Kinds.{Change, Event, Step}
use Rattle.ocf_types.specs.Lemmas.{each_append, same_number}
use Rattle.ocf_model.specs.RegistryLemmas.{keys_filter}
use Rattle.ocf_model.specs.Resource.{History, Resource, begun_from, booted, is_busy, of_call}
use Rattle.ocf_model.specs.State.{State, after, changed, on_history, registered, resource_at, stepped}
use Rattle.ocf_types.specs.declared.event.Change.TheVariants as change
use Rattle.ocf_types.specs.declared.event.Step.TheVariants as step
use Rattle.ocf_types.specs.declared.operation.Op.{Op}
use Rattle.ocf_types.specs.declared.operation.Recur.{Recur}
use Rattle.executor_laws.specs.Histories.{BeginInOrder, Follow, IsWithin, call_begun, call_monitored, call_queued, monitored, monitors_at, queue_at}
use Rattle.executor_laws.proofs.History.Events.{Turned, turned}

-- one more element left out, any number of them, and some of them
left_out : (xs ys : List ℕ) (y : ℕ) → IsWithin xs ys → IsWithin xs (y ∷ ys)
left_out [] ys y h = tt
left_out (x ∷ xs) ys y h = inr h

all_left_out : (qs xs ys : List ℕ) → IsWithin xs ys → IsWithin xs (qs ++ ys)
all_left_out [] xs ys h = h
all_left_out (q ∷ qs) xs ys h = left_out xs (qs ++ ys) q (all_left_out qs xs ys h)

some_left_out : {A : Type 0} (f : A → ℕ) (test : A → Bool) (qs : List A) (xs ys : List ℕ) → IsWithin xs (map f (filter test qs) ++ ys)
    → IsWithin xs (map f qs ++ ys)
some_left_out f test [] xs ys h = h
some_left_out f test (q ∷ qs) xs ys h = by (test q) xs h (λ zs. some_left_out f test qs zs ys)
  where
    by : (b : Bool) (xs : List ℕ) → IsWithin xs (map f (cond b (q ∷ filter test qs) (filter test qs)) ++ ys)
        → ((zs : List ℕ) → IsWithin zs (map f (filter test qs) ++ ys) → IsWithin zs (map f qs ++ ys)) → IsWithin xs (f q ∷ (map f qs ++ ys))
    by false xs h later = left_out xs (map f qs ++ ys) (f q) (later xs h)
    by true [] h later = tt
    by true (x ∷ xs) (inl h) later = inl (h.0, later xs h.1)
    by true (x ∷ xs) (inr h) later = inr (later (x ∷ xs) h)

abbrev queue_of : Option Resource → List ℕ
queue_of o = option_map_or (λ r. map (λ o. o.call) r.history.queue) o []

abbrev monitors_of : Option Resource → List ℕ
monitors_of o = option_map_or (λ r. map (λ m. m.call) r.recurring) o []

module _ (is_monitor : ℕ → Bool) (id : List ℕ) where
  abbrev AreMonitors : List ℕ → Type 0
  AreMonitors calls = AllByRecursion (λ call. is_monitor call ≡ true) calls

  abbrev others : List ℕ → List ℕ
  others calls = filter (λ call. not (is_monitor call)) calls

  -- the queue and the monitors after a change, whatever begins later
  pub record Keeps (c : Change) (was now : Option Resource) : Type 0 where
    pub monitors : AreMonitors (monitors_of now)
    pub order : (rest later : List ℕ) → IsWithin rest (queue_of now ++ later)
        → IsWithin (others (call_begun id c) ++ rest) (queue_of was ++ (call_queued id c ++ later))

  monitor_found : (call : ℕ) (ms : List Recur) → IsSome (of_call call ms) → AreMonitors (map (λ m. m.call) ms) → is_monitor call ≡ true
  monitor_found call [] some h = absurd (false≢true some)
  monitor_found call (m ∷ ms) some h = by (m.call == call) refl some (λ later. monitor_found call ms later h.1)
    where
      by : (b : Bool) → (m.call == call) ≡ b → IsSome (cond b (Some m) (of_call call ms)) → (IsSome (of_call call ms) → is_monitor call ≡ true)
          → is_monitor call ≡ true
      by true own some later = subst (λ (n : ℕ). is_monitor n ≡ true) ((Decides-eqb m.call call).0 own) h.0
      by false other some later = later some

  -- a begin of the first queued action, or of a monitor
  begin_order : (q : List Op) (ms : List Recur) (call run at : ℕ) (h : History) → h.queue ≡ q → IsReady q ms call → AreMonitors (map (λ m. m.call) ms)
      → (rest later : List ℕ) → IsWithin rest (map (λ o. o.call) (begun_from q (of_call call ms) run at h).queue ++ later)
      → IsWithin (others (call ∷ []) ++ rest) (map (λ o. o.call) q ++ later)
  begin_order [] ms call run at h queue ready monitors rest later within =
      let is : is_monitor call ≡ true = monitor_found call ms ready monitors in
      rw is (rw queue at within)
  begin_order (o ∷ os) ms call run at h queue ready monitors rest later within = by (is_monitor call)
    where
      by : (b : Bool) → IsWithin (cond (not b) (call ∷ []) [] ++ rest) (o.call ∷ (map (λ o. o.call) os ++ later))
      by true = left_out rest (map (λ o. o.call) os ++ later) o.call within
      by false = inl (ready, within)

  own_keeps : (s : State) (at : ℕ) (other : List ℕ) (what : Step) (r : Resource) → bytes_eq id other ≡ true → StepApplies s.next_call s.next_run what r
      → AreMonitors (map (λ m. m.call) r.recurring) → AreMonitors (call_monitored id (change.Step other what))
      → Keeps (change.Step other what) (Some r) (Some (stepped at what r))
  own_keeps s at other (step.SetParams ps) r own applies monitors more = record { monitors = monitors; order = λ rest later within. within }
  own_keeps s at other (step.Exec o) r own applies monitors more = record {
    monitors = monitors;
    order = λ rest later within.
        rw own (subst (IsWithin rest)
        (ap (λ (l : List ℕ). l ++ later) (map-append (λ (x : Op). x.call) r.history.queue (o ∷ []))
        ∙ append_assoc (map (λ (x : Op). x.call) r.history.queue) (o.call ∷ []) later) within);
  }
  own_keeps s at other (step.Recur m) r own applies monitors more = record {
    monitors =
        subst AreMonitors (sym (map-append (λ (x : Recur). x.call) r.recurring (m ∷ [])))
        (each_append (λ call. is_monitor call ≡ true) (map (λ (x : Recur). x.call) r.recurring) (m.call ∷ []) monitors (rw own at more));
    order = λ rest later within. within;
  }
  own_keeps s at other (step.Cancel interval) r own applies monitors more = record {
    monitors = keys_filter (λ (m : Recur). m.call) (λ call. is_monitor call ≡ true) (λ m. not (m.interval == interval)) r.recurring monitors;
    order = λ rest later within. within;
  }
  own_keeps s at other step.Forget r own applies monitors more = record { monitors = monitors; order = λ rest later within. within }
  own_keeps s at other (step.Begin call run) r own applies monitors more = record {
    monitors = monitors;
    order = λ rest later within.
        rw own (begin_order r.history.queue r.recurring call run at r.history refl applies.1 monitors rest later within);
  }
  own_keeps s at other (step.Result run end) r own applies monitors more = record { monitors = monitors; order = λ rest later within. within }
  own_keeps s at other (step.Withdraw call) r own applies monitors more = record {
    monitors = monitors;
    order = λ rest later within. some_left_out (λ (o : Op). o.call) (λ o. not (o.call == call)) r.history.queue rest later within;
  }

  still : (c : Change) (was now : Option Resource) → now ≡ was → AreMonitors (monitors_of was) → call_begun id c ≡ [] → call_queued id c ≡ []
      → Keeps c was now
  still c was now same monitors none_begun none_queued = record {
    monitors = subst (λ (o : Option Resource). AreMonitors (monitors_of o)) (sym same) monitors;
    order = λ rest later within.
        rw (none_begun, none_queued) (subst (λ (o : Option Resource). IsWithin rest (queue_of o ++ later)) same within);
  }

  not_begun : (other : List ℕ) (what : Step) → bytes_eq id other ≡ false → call_begun id (change.Step other what) ≡ []
  not_begun other (step.Begin call run) apart = rw apart refl
  not_begun other _ apart = refl

  not_queued : (other : List ℕ) (what : Step) → bytes_eq id other ≡ false → call_queued id (change.Step other what) ≡ []
  not_queued other (step.Exec o) apart = rw apart refl
  not_queued other _ apart = refl

  keeps : (s : State) (at : ℕ) (c : Change) (was now : Option Resource) → Turned s id at c was now → AreMonitors (monitors_of was)
      → AreMonitors (call_monitored id c) → Keeps c was now
  keeps s at (change.Register r) was now so monitors more = by (bytes_eq id r.id) so
    where
      by : (b : Bool) → cond b ((was ≡ None) × (now ≡ Some (registered r).1)) (now ≡ was) → Keeps (change.Register r) was now
      by true h = record {
        monitors = rw h.1 tt;
        order = λ rest later within. rw h.0 (subst (λ (o : Option Resource). IsWithin rest (queue_of o ++ later)) h.1 within);
      }
      by false h = still (change.Register r) was now h monitors refl refl
  keeps s at (change.Unregister other) was now so monitors more = by (bytes_eq id other) so
    where
      by : (b : Bool) → cond b (IsSomeAnd was (λ r. is_busy r.history ≡ false) × (now ≡ None)) (now ≡ was) → Keeps (change.Unregister other) was now
      by true h = record {
        monitors = rw h.1 tt;
        order = λ rest later within.
            all_left_out (queue_of was) rest later (subst (λ (o : Option Resource). IsWithin rest (queue_of o ++ later)) h.1 within);
      }
      by false h = still (change.Unregister other) was now h monitors refl refl
  keeps s at (change.Step other what) was now so monitors more = by (bytes_eq id other) refl so
    where
      by : (b : Bool) → bytes_eq id other ≡ b
          → cond b ((r : Resource) × (was ≡ Some r) × StepApplies s.next_call s.next_run what r × (now ≡ Some (stepped at what r))) (now ≡ was)
          → Keeps (change.Step other what) was now
      by true own h =
          subst (λ (o : Option Resource). Keeps (change.Step other what) o now) (sym h.1)
          (subst (λ (o : Option Resource). Keeps (change.Step other what) (Some h.0) o) (sym h.3)
          (own_keeps s at other what h.0 own h.2 (subst (λ (o : Option Resource). AreMonitors (monitors_of o)) h.1 monitors) more))
      by false apart h = still (change.Step other what) was now h monitors (not_begun other what apart) (not_queued other what apart)
  keeps s at change.Boot was now so monitors more = by was so monitors
    where
      by : (o : Option Resource) → now ≡ option_map (on_history (booted at)) o → AreMonitors (monitors_of o) → Keeps change.Boot o now
      by None is monitors = record {
        monitors = rw is tt;
        order = λ rest later within. subst (λ (o : Option Resource). IsWithin rest (queue_of o ++ later)) is within;
      }
      by (Some r) is monitors = record {
        monitors = subst (λ (o : Option Resource). AreMonitors (monitors_of o)) (sym is) monitors;
        order = λ rest later within.
            all_left_out (map (λ (o : Op). o.call) r.history.queue) rest later
            (subst (λ (o : Option Resource). IsWithin rest (queue_of o ++ later)) is within);
      }

  in_order : (s : State) (es : List Event) → Follow s es → AreMonitors (monitors_at s id)
      → AreMonitors (flat_map (λ e. call_monitored id e.change) es)
      → IsWithin (others (flat_map (λ e. call_begun id e.change) es)) (queue_at s id ++ flat_map (λ e. call_queued id e.change) es)
  in_order s [] follow monitors more = tt
  in_order s (e ∷ es) follow monitors more =
      let parts = each_split (call_monitored id e.change) (flat_map (λ e. call_monitored id e.change) es) more in
      let k = keeps s e.at e.change (resource_at s id) (lookup (bytes_eq id) (changed e.at e.change s.resources))
      (turned s id e.at e.change follow.0) monitors parts.0 in
      subst (λ (l : List ℕ). IsWithin l (queue_at s id ++ (call_queued id e.change ++ flat_map (λ e. call_queued id e.change) es)))
      (sym (filter-append (λ call. not (is_monitor call)) (call_begun id e.change) (flat_map (λ e. call_begun id e.change) es)))
      (k.order (others (flat_map (λ e. call_begun id e.change) es)) (flat_map (λ e. call_queued id e.change) es)
      (in_order (after s e) es follow.1 k.monitors parts.1))
    where
      each_split : (xs ys : List ℕ) → AreMonitors (xs ++ ys) → AreMonitors xs × AreMonitors ys
      each_split [] ys h = (tt, h)
      each_split (x ∷ xs) ys h = let rest = each_split xs ys h.1 in ((h.0, rest.0), rest.1)

-- each of these is among them
among : (all before xs : List ℕ) → before ++ xs ≡ all → AllByRecursion (λ call. list_any (nat_eq call) all ≡ true) xs
among all before [] is = tt
among all before (x ∷ xs) is =
    (subst (λ (l : List ℕ). list_any (nat_eq x) l ≡ true) is (here before), among all (before ++ x ∷ []) xs (append_assoc before (x ∷ []) xs ∙ is))
  where
    here : (ys : List ℕ) → list_any (nat_eq x) (ys ++ x ∷ xs) ≡ true
    here [] = rw (same_number x x refl) refl
    here (y ∷ ys) = by (nat_eq x y) (here ys)
      where
        by : (b : Bool) → list_any (nat_eq x) (ys ++ x ∷ xs) ≡ true → (b || list_any (nat_eq x) (ys ++ x ∷ xs)) ≡ true
        by true h = refl
        by false h = h

-- queued actions begin in the order of their calls
pub begin_in_order : (s : State) (es : List Event) (id : List ℕ) → Follow s es → BeginInOrder s id es
begin_in_order s es id follow =
    let all = monitored s id es in
    in_order (λ call. list_any (nat_eq call) all) id s es follow
    (first (λ call. list_any (nat_eq call) all ≡ true) (monitors_at s id) (flat_map (λ e. call_monitored id e.change) es) (among all [] all refl))
    (among all (monitors_at s id) (flat_map (λ e. call_monitored id e.change) es) refl)
  where
    first : (P : ℕ → Type 0) (xs ys : List ℕ) → AllByRecursion P (xs ++ ys) → AllByRecursion P xs
    first P [] ys h = tt
    first P (x ∷ xs) ys h = (h.0, first P xs ys h.1)
