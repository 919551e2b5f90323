-- The first layout compared with the second: lawfulness, encodings and changes.
use Rattle.std.proofs.Common.{◌≡◌, ◌↔◌, ℕ, ◌-◌, ◌≤◌, Bool, true, false, cond, not, List, [], ◌∷◌, ◌++◌, map, filter, length, drop}
use Rattle.std.proofs.Common.{Option, Some, None, IsSomeAnd, option_map, option_to_list, refl, sym, ap, subst, ◌∙◌, arith, length-append}
use Rattle.std.proofs.Common.{length-drop, append_assoc, ap₂, IsTrue, ◌||◌}
use Rattle.std.specs.List.{AllByRecursion, list_any}
use Rattle.std.specs.Str.{bytes_eq}
use Rattle.std.proofs.lemmas.List.{drop-append-le, drop-drop, length-map, map-append}
use Rattle.std.proofs.lemmas.Map.Made.{lookup-map_values}
use Rattle.ocf_types.specs.declared.layout.Layout.TheVariants.{First, Second}
use Rattle.ocf_types.specs.declared.operation.Op.{Op}
use Rattle.ocf_types.specs.declared.operation.Recur.{Recur}
use Rattle.ocf_types.specs.declared.operation.Running.{Running}
use Rattle.ocf_types.specs.declared.operation.Ended.{Ended}
use Rattle.ocf_types.specs.declared.event.Step.TheVariants as step
use Rattle.ocf_types.specs.declared.event.Change.TheVariants as change
use Rattle.ocf_types.specs.declared.outcome.Outcome.{Outcome}
use Rattle.ocf_types.specs.declared.outcome.Outcome.TheVariants.{Run, Interrupted, Dropped, Cancelled}
use Rattle.ocf_types.specs.Kinds.{Step, Change, Event}
use Rattle.ocf_types.specs.Layouts.{kept_in, EncodesOutcome}
use Rattle.ocf_types.specs.Lawful.{HasEncoding, HasEncodingIn, IsLawfulChange, IsLawfulChangeIn, IsLawfulStepIn}
use Rattle.ocf_types.specs.Limits.{event_frame, event_limit}
use Rattle.ocf_types.specs.Encoding.{fields, fields_in}
use Rattle.ocf_model.specs.Resource.{History, Resource, begun_from, booted, dropped_of, ended_of, is_busy, booted_in, history_in, last_in, of_call}
use Rattle.ocf_model.specs.Resource.{cancelled_of, queued_of, without_call}
use Rattle.ocf_model.specs.State.{Registry, State, after, after_all, after_in, after_all_in, at_id, changed, changed_in, in_first, on_history}
use Rattle.ocf_model.specs.State.{others, registered, resource_at, stepped, stepped_in}
use Rattle.ocf_model.specs.Applies.{Applies, AppliesIn, ChangeApplies, StepApplies}
use Rattle.ocf_model.specs.LawfulState.{IsLawfulEnded, IsLawfulEndedIn}
use Rattle.ocf_model.specs.LawfulState.{IsLawfulResource, IsLawfulResourceIn, IsLawfulRunning, IsLawfulRunningIn, IsLawfulState, IsLawfulStateIn}
use Rattle.ocf_types.specs.Lemmas.{each_weaken}
use Rattle.ocf_model.proofs.Lengths.{fields_short, length-event}
use Rattle.ocf_model.proofs.LawfulParts.{IsQueued, IsRecurring}

-- the first layout keeps no more results than the second
keeps_less : kept_in First ≤ kept_in Second
keeps_less = omega arith

-- lawful in the first layout implies lawful in the second
step_carried : (s : Step) → IsLawfulStepIn First s → IsLawfulStepIn Second s
step_carried (step.SetParams ps) h = h
step_carried (step.Exec o) h = (h.0, h.1, tt, h.3)
step_carried (step.Recur m) h = (h.0, h.1, h.2, tt)
step_carried (step.Cancel interval) h = h
step_carried step.Forget h = h
step_carried (step.Begin call run) h = h
step_carried (step.Result run end) h = h
step_carried (step.Withdraw call) h = absurd h.1

change_carried : (c : Change) → IsLawfulChangeIn First c → IsLawfulChange c
change_carried (change.Register r) h = h
change_carried (change.Unregister id) h = h
change_carried (change.Step id s) h = (h.0, step_carried s h.1)
change_carried change.Boot h = h

-- a change with parameters has the same encoding in both, and any other is short
longer : (c : Change) → IsLawfulChange c → length (fields_in First c) ≤ event_limit - event_frame
    → length (fields c) ≤ event_limit - event_frame
longer (change.Step id (step.SetParams ps)) l h = h
longer (change.Register r) l h = h
longer (change.Step id (step.Exec o)) l h = omega (arith, fields_short (change.Step id (step.Exec o)) l tt)
longer (change.Step id (step.Recur m)) l h = omega (arith, fields_short (change.Step id (step.Recur m)) l tt)
longer (change.Step id (step.Cancel interval)) l h = h
longer (change.Step id step.Forget) l h = h
longer (change.Step id (step.Begin call run)) l h = h
longer (change.Step id (step.Result run end)) l h = h
longer (change.Step id (step.Withdraw call)) l h = h
longer (change.Unregister id) l h = h
longer change.Boot l h = h

pub encoding_carried : (e : Event) → HasEncodingIn First e → HasEncoding e
encoding_carried e h =
    let lawful : IsLawfulChange e.change = change_carried e.change h.lawful.change in
    let first : length (fields_in First e.change) ≤ event_limit - event_frame = omega (arith, h.short, length-event First e.at e.change) in
    record {
      lawful = record { at = h.lawful.at; change = lawful };
      short = omega (arith, longer e.change lawful first, length-event Second e.at e.change);
    }

running_carried : (n k clock : ℕ) (o : Option Running) → IsLawfulRunningIn First n k clock o → IsLawfulRunning n k clock o
running_carried n k clock None h = tt
running_carried n k clock (Some x) h = (h.0, h.1, h.2, h.3, h.4, h.5, h.6, tt, h.8)

end_carried : (o : Outcome) → EncodesOutcome First o → EncodesOutcome Second o
end_carried Cancelled h = tt
end_carried (Run end) h = tt
end_carried Interrupted h = tt
end_carried Dropped h = tt

ended_carried : (n k clock : ℕ) (e : Ended) → IsLawfulEndedIn First n k clock e → IsLawfulEnded n k clock e
ended_carried n k clock e h = record {
  drawn = h.drawn;
  call = h.call;
  run = h.run;
  unbegun = h.unbegun;
  interval = h.interval;
  since = h.since;
  at = h.at;
  outcome = h.outcome;
  known = end_carried e.outcome h.known;
}

resource_carried : (n k clock : ℕ) (r : Resource) → IsLawfulResourceIn First n k clock r → IsLawfulResource n k clock r
resource_carried n k clock r h = record {
  provider = h.provider;
  agent = h.agent;
  are_params = h.are_params;
  params_len = h.params_len;
  queue_len = h.queue_len;
  queue = each_weaken (IsQueued First n) (IsQueued Second n) (λ o q. ((q.0.0, q.0.1, tt, q.0.3), q.1)) r.history.queue h.queue;
  queue_ascends = h.queue_ascends;
  running = running_carried n k clock r.history.running h.running;
  recurring_len = h.recurring_len;
  recurring = each_weaken (IsRecurring First n) (IsRecurring Second n) (λ m q. ((q.0.0, q.0.1, q.0.2, tt), q.1)) r.recurring h.recurring;
  recurring_ascends = h.recurring_ascends;
  intervals = h.intervals;
  ended_len = omega (arith, h.ended_len, keeps_less);
  ended = each_weaken (IsLawfulEndedIn First n k clock) (IsLawfulEnded n k clock) (ended_carried n k clock) r.history.ended h.ended;
  failed = h.failed;
  known = refl;
}

pub state_carried : (s : State) → IsLawfulStateIn First s → IsLawfulState s
state_carried s h = record {
  next_call = h.next_call;
  next_run = h.next_run;
  clock = h.clock;
  at_most_256 = h.at_most_256;
  ids = h.ids;
  named = h.named;
  resources = each_weaken (λ e. IsLawfulResourceIn First s.next_call s.next_run s.clock e.1)
      (λ e. IsLawfulResource s.next_call s.next_run s.clock e.1)
      (λ e l. resource_carried s.next_call s.next_run s.clock e.1 l) s.resources h.resources;
}

-- the last n of the last m elements are the last n, if n is no more than m
last_shorter : {A : Type 0} (n m : ℕ) (xs : List A) → n ≤ m
    → drop (length (drop (length xs - m) xs) - n) (drop (length xs - m) xs) ≡ drop (length xs - n) xs
last_shorter n m xs le =
    drop-drop (length (drop (length xs - m) xs) - n) (length xs - m) xs
    ∙ ap (λ k. drop k xs) (omega (arith, le, length-drop (length xs - m) xs))

-- keeping the last elements before and after an append is keeping them after it
last_joined : {A : Type 0} (n : ℕ) (xs ys : List A)
    → drop (length (drop (length xs - n) xs ++ ys) - n) (drop (length xs - n) xs ++ ys) ≡ drop (length (xs ++ ys) - n) (xs ++ ys)
last_joined n xs ys =
    let k : ℕ = length xs - n in
    let prefix : drop k xs ++ ys ≡ drop k (xs ++ ys) = sym (drop-append-le k xs ys (omega arith)) in
    ap (λ zs. drop (length (drop k xs ++ ys) - n) zs) prefix
    ∙ drop-drop (length (drop k xs ++ ys) - n) k (xs ++ ys)
    ∙ ap (λ m. drop m (xs ++ ys)) (omega (arith, length-append (drop k xs) ys, length-append xs ys, length-drop k xs))

-- the results with further ones, as the first layout keeps them
results_cut : (xs ys : List Ended) → last_in First (last_in Second (xs ++ ys)) ≡ last_in First (last_in First xs ++ ys)
results_cut xs ys = last_shorter (kept_in First) (kept_in Second) (xs ++ ys) keeps_less ∙ sym (last_joined (kept_in First) xs ys)

-- a resource as the first layout keeps it
abbrev cut : Resource → Resource
cut r = on_history (history_in First) r

abbrev cut_all : Registry → Registry
cut_all rs = map (λ e. (e.0, cut e.1)) rs

begun_cut : (q : List Op) (monitor : Option Recur) (run at : ℕ) (h : History)
    → history_in First (begun_from q monitor run at h) ≡ begun_from q monitor run at (history_in First h)
begun_cut [] monitor run at h = refl
begun_cut (o ∷ os) monitor run at h = refl

-- a step and a boot in the first layout
stepped_cut : (at : ℕ) (what : Step) (r : Resource) → cut (stepped at what r) ≡ stepped_in First at what (cut r)
stepped_cut at (step.SetParams ps) r = refl
stepped_cut at (step.Exec o) r = refl
stepped_cut at (step.Recur m) r = refl
stepped_cut at (step.Cancel interval) r = refl
stepped_cut at step.Forget r = refl
stepped_cut at (step.Begin call run) r =
    ap (λ (h : History). record r { history = h }) (begun_cut r.history.queue (of_call call r.recurring) run at r.history)
stepped_cut at (step.Result run end) r =
    ap (λ (xs : List Ended). record r { history = record { queue = r.history.queue; running = None; ended = xs; failed = None } })
    (results_cut r.history.ended (map (ended_of (Run end) at) (option_to_list r.history.running)))
stepped_cut at (step.Withdraw call) r =
    ap (λ (xs : List Ended). record r {
      history = record {
        queue = without_call call r.history.queue;
        running = r.history.running;
        ended = xs;
        failed = None;
      };
    })
    (results_cut r.history.ended (map (cancelled_of at) (option_to_list (queued_of call r.history.queue))))

booted_cut : (at : ℕ) (r : Resource) → cut (on_history (booted at) r) ≡ on_history (booted_in First at) (cut r)
booted_cut at r =
    let dropped : List Ended = map (dropped_of at) r.history.queue in
    let interrupted : List Ended = map (ended_of Interrupted at) (option_to_list r.history.running) in
    let whole : last_in First (last_in Second (r.history.ended ++ dropped ++ interrupted))
    ≡ last_in First (last_in First r.history.ended ++ dropped ++ interrupted)
    = rw (append_assoc r.history.ended dropped interrupted, append_assoc (last_in First r.history.ended) dropped interrupted)
    (results_cut r.history.ended (dropped ++ interrupted)) in
    ap (λ (xs : List Ended). record r { history = record { queue = []; running = None; ended = xs; failed = None } }) whole

-- a change of each resource, a change of that of an id, and the others
each_cut : (f g : Resource → Resource) → ((r : Resource) → cut (f r) ≡ g (cut r)) → (rs : Registry)
    → cut_all (map (λ e. (e.0, f e.1)) rs) ≡ map (λ e. (e.0, g e.1)) (cut_all rs)
each_cut f g same [] = refl
each_cut f g same (e ∷ es) = ap₂ (λ (r : Resource) (rest : Registry). (e.0, r) ∷ rest) (same e.1) (each_cut f g same es)

at_id_cut : (id : List ℕ) (f g : Resource → Resource) → ((r : Resource) → cut (f r) ≡ g (cut r)) → (rs : Registry)
    → cut_all (at_id id f rs) ≡ at_id id g (cut_all rs)
at_id_cut id f g same [] = refl
at_id_cut id f g same (e ∷ es) = ap₂ (λ (r : Resource) (rest : Registry). (e.0, r) ∷ rest) (by (bytes_eq id e.0)) (at_id_cut id f g same es)
  where
    by : (b : Bool) → cut (cond b (f e.1) e.1) ≡ cond b (g (cut e.1)) (cut e.1)
    by true = same e.1
    by false = refl

others_cut : (id : List ℕ) (rs : Registry) → cut_all (others id rs) ≡ others id (cut_all rs)
others_cut id [] = refl
others_cut id (e ∷ es) = by (bytes_eq id e.0) (others_cut id es)
  where
    rest : Registry → Registry
    rest rs = filter (λ x. not (bytes_eq id x.0)) rs

    by : (b : Bool) → cut_all (rest es) ≡ rest (cut_all es)
        → cut_all (cond (not b) (e ∷ rest es) (rest es)) ≡ cond (not b) ((e.0, cut e.1) ∷ rest (cut_all es)) (rest (cut_all es))
    by true k = k
    by false k = ap (λ (rs : Registry). (e.0, cut e.1) ∷ rs) k

changed_cut : (at : ℕ) (c : Change) (rs : Registry) → cut_all (changed at c rs) ≡ changed_in First at c (cut_all rs)
changed_cut at (change.Register r) rs = map-append (λ e. (e.0, cut e.1)) rs (registered r ∷ [])
changed_cut at (change.Unregister id) rs = others_cut id rs
changed_cut at (change.Step id what) rs = at_id_cut id (stepped at what) (stepped_in First at what) (stepped_cut at what) rs
changed_cut at change.Boot rs = each_cut (on_history (booted at)) (on_history (booted_in First at)) (booted_cut at) rs

-- an event and a list of events in the first layout
pub after_cut : (s : State) (e : Event) → in_first (after s e) ≡ after_in First (in_first s) e
after_cut s e = ap (λ (rs : Registry). record (after s e) { resources = rs }) (changed_cut e.at e.change s.resources)

pub after_all_cut : (es : List Event) (s : State) → in_first (after_all s es) ≡ after_all_in First (in_first s) es
after_all_cut [] s = refl
after_all_cut (e ∷ es) s = after_all_cut es (after s e) ∙ ap (λ (x : State). after_all_in First x es) (after_cut s e)

-- whether a step applies does not depend on the results
step_applies_cut : (n k : ℕ) (what : Step) (r : Resource) → StepApplies n k what r ↔ StepApplies n k what (cut r)
step_applies_cut n k (step.SetParams ps) r = (λ h. h, λ h. h)
step_applies_cut n k (step.Exec o) r = (λ h. h, λ h. h)
step_applies_cut n k (step.Recur m) r = (λ h. h, λ h. h)
step_applies_cut n k (step.Cancel interval) r = (λ h. h, λ h. h)
step_applies_cut n k step.Forget r = (λ h. h, λ h. h)
step_applies_cut n k (step.Begin call run) r = (λ h. h, λ h. h)
step_applies_cut n k (step.Result run end) r = (λ h. h, λ h. h)
step_applies_cut n k (step.Withdraw call) r = (λ h. h, λ h. h)

-- the lookup of an id
found_cut : (s : State) (id : List ℕ) → resource_at (in_first s) id ≡ option_map cut (resource_at s id)
found_cut s id = lookup-map_values cut (bytes_eq id) s.resources

there_cut : (s : State) (id : List ℕ) (P : Resource → Type 0) → ((r : Resource) → P r ↔ P (cut r))
    → IsSomeAnd (resource_at s id) P ↔ IsSomeAnd (resource_at (in_first s) id) P
there_cut s id P same =
    subst (λ (o : Option Resource). IsSomeAnd (resource_at s id) P ↔ IsSomeAnd o P) (sym (found_cut s id)) (by (resource_at s id))
  where
    by : (o : Option Resource) → IsSomeAnd o P ↔ IsSomeAnd (option_map cut o) P
    by None = (λ h. h, λ h. h)
    by (Some r) = same r

absent_cut : (s : State) (id : List ℕ) → (resource_at s id ≡ None) ↔ (resource_at (in_first s) id ≡ None)
absent_cut s id =
    subst (λ (o : Option Resource). (resource_at s id ≡ None) ↔ (o ≡ None)) (sym (found_cut s id)) (by (resource_at s id))
  where
    by : (o : Option Resource) → (o ≡ None) ↔ (option_map cut o ≡ None)
    by None = (λ h. refl, λ h. refl)
    by (Some r) = (λ h. absurd (cc), λ h. absurd (cc))

busy_cut : (rs : Registry) → list_any (λ e. is_busy e.1.history) (cut_all rs) ≡ list_any (λ e. is_busy e.1.history) rs
busy_cut [] = refl
busy_cut (e ∷ es) = ap (λ (b : Bool). is_busy e.1.history || b) (busy_cut es)

change_applies_cut : (s : State) (c : Change) → ChangeApplies s c ↔ ChangeApplies (in_first s) c
change_applies_cut s (change.Register r) =
    let absent = absent_cut s r.id in
    let len : length (in_first s).resources ≡ length s.resources = length-map s.resources (λ e. (e.0, cut e.1)) in
    (λ h. (absent.0 h.0, omega (arith, len, h.1)), λ h. (absent.1 h.0, omega (arith, len, h.1)))
change_applies_cut s (change.Unregister id) = there_cut s id _ (λ r. (λ h. h, λ h. h))
change_applies_cut s (change.Step id what) = there_cut s id _ (step_applies_cut s.next_call s.next_run what)
change_applies_cut s change.Boot =
    let same = busy_cut s.resources in
    (subst (λ (b : Bool). IsTrue b) (sym same), subst (λ (b : Bool). IsTrue b) same)

pub applies_cut : (s : State) (e : Event) → HasEncodingIn First e → Applies s e ↔ AppliesIn First (in_first s) e
applies_cut s e encoded =
    let same = change_applies_cut s e.change in (
      λ h. record { encoded = encoded; later = h.later; change = same.0 h.change },
      λ h. record { encoded = encoding_carried e encoded; later = h.later; change = same.1 h.change },
    )

-- a state that is lawful in the first layout is unchanged by reducing it to that layout
resources_whole : (n k clock : ℕ) (rs : Registry) → AllByRecursion (λ e. IsLawfulResourceIn First n k clock e.1) rs → cut_all rs ≡ rs
resources_whole n k clock [] h = refl
resources_whole n k clock (e ∷ es) h = ap₂ (λ (r : Resource) (rest : Registry). (e.0, r) ∷ rest) whole (resources_whole n k clock es h.1)
  where
    none : length e.1.history.ended - kept_in First ≡ 0
    none = omega (arith, h.0.ended_len)

    whole : cut e.1 ≡ e.1
    whole = ap₂ (λ (m : ℕ) (last : Option Ended). on_history (λ x. record x { ended = drop m x.ended; failed = last }) e.1) none h.0.known

pub state_whole : (s : State) → IsLawfulStateIn First s → in_first s ≡ s
state_whole s h = ap (λ (rs : Registry). record s { resources = rs }) (resources_whole s.next_call s.next_run s.clock s.resources h.resources)
