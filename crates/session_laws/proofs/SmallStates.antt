-- Lawful states are small, and small states stay small and have short encodings.
use Rattle.std.proofs.Common.{◌≡◌, ℕ, ◌≤◌, ◌==◌, Bool, true, false, cond, not, List, [], ◌∷◌, ◌++◌, map, length, Option, Some, None, option_to_list, Ok, IsTrue, IsSomeAnd, subst, arith, length-append}
use Rattle.std.specs.Prelude.{nat_le}
use Rattle.std.specs.List.{AllByRecursion}
use Rattle.std.specs.Map.{keys_of}
use Rattle.std.specs.Str.{bytes_eq}
use Rattle.std.proofs.lemmas.Bool.{leb-false, ltb-false}
use Rattle.std.proofs.lemmas.Cmp.{nat_list_eq_equiv}
use Rattle.std.proofs.lemmas.List.{length-map, map-append}
use Rattle.std.proofs.lemmas.Map.Keys.{IsDistinct-push}
use Rattle.ocf_model.specs.Answer.{asked_event, event_of, moment, tests}
use Rattle.ocf_types.specs.Encoding.{encoded_event, encoded_params}
use Rattle.ocf_types.specs.Kinds.{Command, Event, Registration, Step}
use Rattle.ocf_model.specs.LawfulState.{IsLawfulResource, IsLawfulState}
use Rattle.ocf_types.specs.Layouts.{current}
use Rattle.ocf_model.specs.LengthLemmas.{failed_short, length_resource, length_running, length_state}
use Rattle.ocf_types.specs.LengthLemmas.{id_short, name_short}
use Rattle.ocf_types.specs.Lemmas.{each_append}
use Rattle.ocf_types.specs.Limits.{event_limit, longest_resource, longest_state, queue_limit, recurring_limit, running_len}
use Rattle.ocf_types.specs.Names.{is_name_byte, is_rsc_id}
use Rattle.ocf_types.specs.Params.{ParamList}
use Rattle.ocf_model.specs.RegistryLemmas.{distinct_filter, each_filter, found, keys-at_id, none_is, absent_any, passed}
use Rattle.ocf_model.specs.Resource.{History, Resource, accepted, begun_from, cancelled_of, ended_in, ended_of, forgotten, of_call, queued_of, withdrawn, without_interval}
use Rattle.ocf_model.specs.State.{Registry, State, after, at_id, registered, resource_at, stepped}
use Rattle.ocf_model.specs.StateEncoding.{encoded_resource, encoded_running, encoded_state}
use Rattle.ocf_types.specs.declared.command.CommandOf.TheVariants as command
use Rattle.ocf_types.specs.declared.event.Change.TheVariants as change
use Rattle.ocf_types.specs.declared.event.Step.TheVariants as step
use Rattle.ocf_types.specs.declared.operation.Op.{Op}
use Rattle.ocf_types.specs.declared.operation.Recur.{Recur}
use Rattle.ocf_types.specs.declared.operation.Running.{Running}
use Rattle.ocf_types.specs.declared.outcome.Outcome.TheVariants.{Run}
use Rattle.ocf_model.proofs.AskedLemmas.{fails_at}
use Rattle.ocf_model.proofs.LawfulParts.{length-last}
use Rattle.ocf_model.proofs.Lengths.{length-event, length-step, params_shorter}
use Rattle.ocf_model.proofs.Lists.{filter_shorter}
use Rattle.ocf_model.proofs.Registries.{ids-at_id, values-at_id}
use Rattle.ocf_model.proofs.StateLengths.{pieces}
use Rattle.session_laws.specs.Named.{IsNamed}
use Rattle.session_laws.specs.Small.{IsRunStep, IsSmall, IsSmallState}

-- a lawful resource is small, and so is each of a lawful state
lawful_one : (n k clock : ℕ) (r : Resource) → IsLawfulResource n k clock r → IsSmall r
lawful_one n k clock r l = record {
  provider = l.provider;
  agent = l.agent;
  params = l.params_len;
  queue = l.queue_len;
  monitors = l.recurring_len;
  results = l.ended_len;
}

lawful_each : (n k clock : ℕ) (rs : Registry) → AllByRecursion (λ e. IsLawfulResource n k clock e.1) rs → AllByRecursion (λ e. IsSmall e.1) rs
lawful_each n k clock [] l = tt
lawful_each n k clock (e ∷ es) l = (lawful_one n k clock e.1 l.0, lawful_each n k clock es l.1)

pub lawful_small : (s : State) → IsLawfulState s → IsSmallState s
lawful_small s l = record {
  few = l.at_most_256;
  ids = l.ids;
  named = l.named;
  small = lawful_each s.next_call s.next_run s.clock s.resources l.resources;
}

-- the greatest length of a small resource, and of a small state
running_short : (x : Option Running) → length (encoded_running x) ≤ running_len
running_short None = omega arith
running_short (Some x) = omega (arith, length_running x)

one_short : (e : List ℕ × Resource) → IsTrue (is_rsc_id e.0) → IsSmall e.1 → length (encoded_resource e) ≤ longest_resource
one_short e id r =
    omega (
      arith,
      length_resource e,
      id_short e.0 id,
      name_short is_name_byte e.1.provider r.provider,
      name_short is_name_byte e.1.agent r.agent,
      r.params,
      r.queue,
      running_short e.1.history.running,
      r.monitors,
      r.results,
      failed_short e.1.history.failed,
    )

each_short : (rs : Registry) → AllByRecursion (λ e. IsTrue (is_rsc_id e.0)) rs → AllByRecursion (λ e. IsSmall e.1) rs
    → AllByRecursion (λ e. length (encoded_resource e) ≤ longest_resource) rs
each_short [] named small = tt
each_short (e ∷ es) named small = (one_short e named.0 small.0, each_short es named.1 small.1)

pub small_short : (s : State) → IsSmallState s → length (encoded_state s) ≤ longest_state
small_short s h =
    let all = each_short s.resources h.named h.small in
    omega (arith, length_state s, h.few, pieces encoded_resource longest_resource s.resources all)

-- a small resource with another history
with_history : (r : Resource) (h : History) → IsSmall r → length h.queue ≤ 32 → length h.ended ≤ 64 → IsSmall (record r { history = h })
with_history r h s queue ended = record {
  provider = s.provider;
  agent = s.agent;
  params = s.params;
  queue = queue;
  monitors = s.monitors;
  results = ended;
}

-- a begin and a result keep a resource small
begin_small : (at call run : ℕ) (r : Resource) → IsSmall r → IsSmall (stepped at (step.Begin call run) r)
begin_small at call run r s = by r.history.queue s.queue
  where
    by : (queue : List Op) → length queue ≤ 32 → IsSmall (record r { history = begun_from queue (of_call call r.recurring) run at r.history })
    by [] few = with_history r (begun_from [] (of_call call r.recurring) run at r.history) s s.queue s.results
    by (o ∷ os) few = with_history r (begun_from (o ∷ os) (of_call call r.recurring) run at r.history) s (omega (arith, few)) s.results

step_small : (at : ℕ) (what : Step) (r : Resource) → IsRunStep what → IsSmall r → IsSmall (stepped at what r)
step_small at (step.Begin call run) r is s = begin_small at call run r s
step_small at (step.Result run end) r is s =
    with_history r (ended_in current (Run end) at r.history) s s.queue
    (length-last current (r.history.ended ++ map (ended_of (Run end) at) (option_to_list r.history.running)))
step_small at (step.SetParams ps) r is s = absurd is
step_small at (step.Exec o) r is s = absurd is
step_small at (step.Recur m) r is s = absurd is
step_small at (step.Cancel interval) r is s = absurd is
step_small at step.Forget r is s = absurd is
step_small at (step.Withdraw call) r is s = absurd is

-- a property of each resource after a step that keeps it
each_at_id : (P : Resource → Type 0) (id : List ℕ) (f : Resource → Resource) → ((x : Resource) → P x → P (f x)) → (es : Registry)
    → AllByRecursion (λ e. P e.1) es → AllByRecursion (λ e. P e.1) (at_id id f es)
each_at_id P id f keeps [] h = tt
each_at_id P id f keeps (e ∷ es) h = (by (bytes_eq id e.0), each_at_id P id f keeps es h.1)
  where
    by : (b : Bool) → P (cond b (f e.1) e.1)
    by true = keeps e.1 h.0
    by false = h.0

-- a state after a step that keeps each resource small
stepped_small : (s : State) (at : ℕ) (id : List ℕ) (what : Step) → IsSmallState s
    → AllByRecursion (λ e. IsSmall e.1) (at_id id (stepped at what) s.resources)
    → IsSmallState (after s (record { at = at; change = change.Step id what }))
stepped_small s at id what h small = record {
  few = rw length-map h.few;
  ids = rw (keys-at_id id (stepped at what) s.resources) h.ids;
  named = ids-at_id (λ id. IsTrue (is_rsc_id id)) id (stepped at what) s.resources h.named;
  small = small;
}

pub run_small : (s : State) (at : ℕ) (id : List ℕ) (what : Step) → IsRunStep what → IsSmallState s
    → IsSmallState (after s (record { at = at; change = change.Step id what }))
run_small s at id what is h =
    stepped_small s at id what h
    (each_at_id IsSmall id (stepped at what) (λ r small. step_small at what r is small) s.resources h.small)

-- parameters of an event that is not too long
params_fit : (at : ℕ) (id : List ℕ) (ps : ParamList)
    → length (encoded_event (record { at = at; change = change.Step id (step.SetParams ps) })) ≤ event_limit → length (encoded_params ps) ≤ event_limit
params_fit at id ps short =
    omega (arith, short, length-event current at (change.Step id (step.SetParams ps)), length-step current id (step.SetParams ps))

registered_fit : (at : ℕ) (r : Registration) → length (encoded_event (record { at = at; change = change.Register r })) ≤ event_limit
    → length (encoded_params r.params) ≤ event_limit
registered_fit at r short = omega (arith, short, length-event current at (change.Register r), params_shorter current r)

-- what the steps of commands do to a small resource
with_params : (r : Resource) (ps : ParamList) → length (encoded_params ps) ≤ event_limit → IsSmall r → IsSmall (record r { params = ps })
with_params r ps short s = record {
  provider = s.provider;
  agent = s.agent;
  params = short;
  queue = s.queue;
  monitors = s.monitors;
  results = s.results;
}

with_monitors : (r : Resource) (ms : List Recur) → length ms ≤ recurring_limit → IsSmall r → IsSmall (record r { recurring = ms })
with_monitors r ms few s = record {
  provider = s.provider;
  agent = s.agent;
  params = s.params;
  queue = s.queue;
  monitors = few;
  results = s.results;
}

-- a state after the step of a command that keeps each resource small
all_stepped : (s : State) (at : ℕ) (id : List ℕ) (what : Step) → IsSmallState s → ((r : Resource) → IsSmall r → IsSmall (stepped at what r))
    → IsSmallState (after s (record { at = at; change = change.Step id what }))
all_stepped s at id what h keeps = stepped_small s at id what h (each_at_id IsSmall id (stepped at what) keeps s.resources h.small)

-- the same where it keeps the resource of its id small, which is there
one_stepped : (s : State) (at : ℕ) (id : List ℕ) (what : Step) (test : Resource → Bool) → IsSmallState s
    → IsSomeAnd (resource_at s id) (λ r. test r ≡ false) → ((r : Resource) → test r ≡ false → IsSmall r → IsSmall (stepped at what r))
    → IsSmallState (after s (record { at = at; change = change.Step id what }))
one_stepped s at id what test h there keeps =
    let f = found (resource_at s id) (λ r. test r ≡ false) there in
    stepped_small s at id what h
    (values-at_id IsSmall IsSmall id (stepped at what) (λ r small. small) s.resources f.0 h.ids f.1 (λ small. keeps f.0 f.2 small) h.small)

-- the event of a command with valid names keeps a state small
asked_small : (s : State) (now : ℕ) (c : Command) → IsSmallState s → IsNamed c
    → AllByRecursion (λ t. t.1 ≡ false) (tests s c (length (encoded_event (asked_event s now c)))) → IsSmallState (after s (asked_event s now c))
asked_small s now (command.Register r) h n p = record {
  few = omega (arith, leb-false _ _ p.1.0, length-append s.resources (registered r ∷ []));
  ids = rw (map-append (λ (x : List ℕ × Resource). x.0) s.resources (registered r ∷ []))
      (IsDistinct-push nat_list_eq_equiv (keys_of s.resources) r.id h.ids (absent_any r.id s.resources (none_is (resource_at s r.id) p.0)));
  named = each_append (λ (x : List ℕ × Resource). IsTrue (is_rsc_id x.0)) s.resources (registered r ∷ []) h.named (n.0, tt);
  small = each_append (λ (x : List ℕ × Resource). IsSmall x.1) s.resources (registered r ∷ []) h.small (
    record {
      provider = n.1;
      agent = n.2;
      params = registered_fit (moment s now) r (ltb-false _ _ p.1.1.0);
      queue = omega arith;
      monitors = omega arith;
      results = omega arith;
    },
    tt,
  );
}
asked_small s now (command.Unregister id) h n p = record {
  few = omega (arith, h.few, filter_shorter (λ (x : List ℕ × Resource). not (bytes_eq id x.0)) s.resources);
  ids = distinct_filter bytes_eq (λ (x : List ℕ × Resource). x.0) (λ x. not (bytes_eq id x.0)) s.resources h.ids;
  named = each_filter (λ (x : List ℕ × Resource). IsTrue (is_rsc_id x.0)) (λ x. not (bytes_eq id x.0)) s.resources h.named;
  small = each_filter (λ (x : List ℕ × Resource). IsSmall x.1) (λ x. not (bytes_eq id x.0)) s.resources h.small;
}
asked_small s now (command.SetParams id ps) h n p =
    let short = params_fit (moment s now) id ps (ltb-false _ _ p.1.0) in
    all_stepped s (moment s now) id (step.SetParams ps) h (λ r small. with_params r ps short small)
asked_small s now (command.Exec id t timeout) h n p =
    let o : Op = record { call = s.next_call; task = t; timeout = timeout } in
    one_stepped s (moment s now) id (step.Exec o) (λ r. nat_le queue_limit (length r.history.queue)) h
    (fails_at (resource_at s id) (λ r. nat_le queue_limit (length r.history.queue)) p.0 p.1.0)
    (λ r free small. with_history r (accepted o r.history) small (omega (arith, leb-false _ _ free, length-append r.history.queue (o ∷ []))) small.results)
asked_small s now (command.Recur id interval timeout check) h n p =
    let m : Recur = record { call = s.next_call; interval = interval; timeout = timeout; check = check } in
    one_stepped s (moment s now) id (step.Recur m) (λ r. nat_le recurring_limit (length r.recurring)) h
    (fails_at (resource_at s id) (λ r. nat_le recurring_limit (length r.recurring)) p.0 p.1.1.0)
    (λ r free small. with_monitors r (r.recurring ++ m ∷ []) (omega (arith, leb-false _ _ free, length-append r.recurring (m ∷ []))) small)
asked_small s now (command.Cancel id interval) h n p =
    all_stepped s (moment s now) id (step.Cancel interval) h
    (λ r small. with_monitors r (without_interval interval r.recurring)
    (omega (arith, small.monitors, filter_shorter (λ (m : Recur). not (m.interval == interval)) r.recurring)) small)
asked_small s now (command.Forget id) h n p =
    all_stepped s (moment s now) id step.Forget h (λ r small. with_history r (forgotten r.history) small small.queue (omega arith))
asked_small s now (command.Withdraw id call) h n p =
    all_stepped s (moment s now) id (step.Withdraw call) h
    (λ r small. with_history r (withdrawn call (moment s now) r.history) small
    (omega (arith, small.queue, filter_shorter (λ (o : Op). not (o.call == call)) r.history.queue))
    (length-last current (r.history.ended ++ map (cancelled_of (moment s now)) (option_to_list (queued_of call r.history.queue)))))

pub command_small : (s : State) (now : ℕ) (c : Command) (e : Event) → IsSmallState s → IsNamed c → event_of s now c ≡ Ok e → IsSmallState (after s e)
command_small s now c e h n is =
    let p = passed (tests s c (length (encoded_event (asked_event s now c)))) (asked_event s now c) e is in
    subst (λ (x : Event). IsSmallState (after s x)) p.0 (asked_small s now c h n p.1)
