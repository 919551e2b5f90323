-- A step or a boot keeps a resource lawful, in each layout.
use Rattle.std.proofs.Common.{◌≡◌, nat_eq, ℕ, ◌+◌, ◌≤◌, ◌<◌, ◌==◌, not, List, [], ◌∷◌, ◌++◌, map, length, Some, option_map, option_to_list}
use Rattle.std.proofs.Common.{refl, arith, length-append}
use Rattle.std.specs.List.{AllByRecursion, IsDistinct}
use Rattle.ocf_types.specs.declared.layout.Layout.{Layout}
use Rattle.ocf_types.specs.declared.operation.Op.{Op}
use Rattle.ocf_types.specs.declared.operation.Recur.{Recur}
use Rattle.ocf_types.specs.declared.event.Step.TheVariants as step
use Rattle.ocf_types.specs.declared.event.Change.TheVariants as change
use Rattle.ocf_types.specs.declared.outcome.Outcome.TheVariants.{Run, Interrupted}
use Rattle.ocf_types.specs.Kinds.{Step}
use Rattle.ocf_types.specs.Layouts.{kept_in, failed_in}
use Rattle.ocf_types.specs.Limits.{event_limit, queue_limit, recurring_limit}
use Rattle.ocf_types.specs.Numbers.{IsDrawn}
use Rattle.ocf_types.specs.Params.{ParamList, AreParams}
use Rattle.ocf_types.specs.Lawful.{IsLawfulStepIn}
use Rattle.ocf_types.specs.Encoding.{encoded_params, step_fields_in}
use Rattle.ocf_model.specs.Resource.{Resource, History, accepted, begun, ended_in, booted_in, failed_after, forgotten, dropped_of, ended_of}
use Rattle.ocf_model.specs.Resource.{run_of_op, run_of_monitor, of_call, without_interval, cancelled_of, queued_of, withdrawn_in}
use Rattle.ocf_model.specs.State.{calls_drawn, runs_drawn, on_history, stepped_in}
use Rattle.ocf_model.specs.Applies.{StepApplies}
use Rattle.ocf_types.specs.Numbers.{IsAscending}
use Rattle.ocf_model.specs.LawfulState.{IsLawfulRunningIn, IsLawfulEndedIn, IsLawfulFailed, IsLawfulResourceIn}
use Rattle.ocf_types.specs.Lemmas.{each_append, each_weaken}
use Rattle.ocf_model.proofs.Lists.{filter_shorter, ascends_filter, ascends_push}
use Rattle.ocf_model.proofs.LawfulParts.{IsQueued, IsRecurring, lawful_weaken, length-last, ended_push, ended_running, ended_dropped}
use Rattle.ocf_model.proofs.LawfulParts.{ended_cancelled}
use Rattle.ocf_model.proofs.LawfulParts.{none_known, known_again, failed_push}
use Rattle.ocf_model.proofs.LawfulParts.{running_op, running_monitor, intervals_push}
use Rattle.ocf_model.specs.RegistryLemmas.{each_filter, distinct_filter}

-- a lawful resource with another history
with_history : (layout : Layout) (n k clock : ℕ) (r : Resource) (h : History) → IsLawfulResourceIn layout n k clock r
    → length h.queue ≤ queue_limit → AllByRecursion (IsQueued layout n) h.queue → IsAscending (map (λ o. o.call) h.queue)
    → IsLawfulRunningIn layout n k clock h.running
    → length h.ended ≤ kept_in layout → AllByRecursion (IsLawfulEndedIn layout n k clock) h.ended
    → IsLawfulFailed n k clock h.failed → failed_in layout h.failed ≡ h.failed
    → IsLawfulResourceIn layout n k clock (record r { history = h })
with_history layout n k clock r h l queue_len queue ascends running ended_len ended failed known = record {
  provider = l.provider;
  agent = l.agent;
  are_params = l.are_params;
  params_len = l.params_len;
  queue_len = queue_len;
  queue = queue;
  queue_ascends = ascends;
  running = running;
  recurring_len = l.recurring_len;
  recurring = l.recurring;
  recurring_ascends = l.recurring_ascends;
  intervals = l.intervals;
  ended_len = ended_len;
  ended = ended;
  failed = failed;
  known = known;
}

-- a lawful resource with other monitors
with_recurring : (layout : Layout) (n k clock : ℕ) (r : Resource) (ms : List Recur) → IsLawfulResourceIn layout n k clock r
    → length ms ≤ recurring_limit → AllByRecursion (IsRecurring layout n) ms → IsAscending (map (λ m. m.call) ms)
    → IsDistinct nat_eq (map (λ m. m.interval) ms)
    → IsLawfulResourceIn layout n k clock (record r { recurring = ms })
with_recurring layout n k clock r ms l recurring_len recurring ascends intervals = record {
  provider = l.provider;
  agent = l.agent;
  are_params = l.are_params;
  params_len = l.params_len;
  queue_len = l.queue_len;
  queue = l.queue;
  queue_ascends = l.queue_ascends;
  running = l.running;
  recurring_len = recurring_len;
  recurring = recurring;
  recurring_ascends = ascends;
  intervals = intervals;
  ended_len = l.ended_len;
  ended = l.ended;
  failed = l.failed;
  known = l.known;
}

-- a lawful resource with other parameters
with_params : (layout : Layout) (n k clock : ℕ) (r : Resource) (ps : ParamList) → IsLawfulResourceIn layout n k clock r → AreParams ps
    → length (encoded_params ps) ≤ event_limit
    → IsLawfulResourceIn layout n k clock (record r { params = ps })
with_params layout n k clock r ps l are short = record {
  provider = l.provider;
  agent = l.agent;
  are_params = are;
  params_len = short;
  queue_len = l.queue_len;
  queue = l.queue;
  queue_ascends = l.queue_ascends;
  running = l.running;
  recurring_len = l.recurring_len;
  recurring = l.recurring;
  recurring_ascends = l.recurring_ascends;
  intervals = l.intervals;
  ended_len = l.ended_len;
  ended = l.ended;
  failed = l.failed;
  known = l.known;
}

-- a begin keeps a resource lawful
lawful_begin : (layout : Layout) (n k at call run : ℕ) (r : Resource) → IsLawfulResourceIn layout n k at r → IsDrawn run → run < k
    → IsLawfulResourceIn layout n k at (on_history (begun (of_call call r.recurring) run at) r)
lawful_begin layout n k at call run r l drawn lt = by r.history.queue refl
  where
    by : (q : List Op) → r.history.queue ≡ q → IsLawfulResourceIn layout n k at (on_history (begun (of_call call r.recurring) run at) r)
    by [] e =
        let monitor = option_map (run_of_monitor run at) (of_call call r.recurring) in
        let runs : IsLawfulRunningIn layout n k at monitor = running_monitor layout n k at run (λ m. m.call == call) r.recurring drawn lt l.recurring in
        rw e (with_history layout n k at r (record r.history { queue = []; running = monitor }) l
        (omega arith) tt tt runs l.ended_len l.ended l.failed l.known)
    by (o ∷ os) e =
        let queued = rw e at l.queue in
        let shorter = rw e at l.queue_len in
        let ascends = rw e at l.queue_ascends in
        let runs = running_op layout n k at run o drawn lt queued.0 in
        rw e (with_history layout n k at r (record r.history { queue = os; running = Some (run_of_op run at o) }) l
        (omega (arith, shorter)) queued.1 ascends.1 runs l.ended_len l.ended l.failed l.known)

-- a step that applies keeps a resource lawful
pub lawful_step : (layout : Layout) (n k clock at : ℕ) (id : List ℕ) (s : Step) (r : Resource) → IsLawfulResourceIn layout n k clock r
    → IsLawfulStepIn layout s → length (step_fields_in layout s) ≤ event_limit → StepApplies n k s r → clock ≤ at → 1 ≤ k
    → IsLawfulResourceIn layout (n + calls_drawn (change.Step id s)) (k + runs_drawn (change.Step id s)) at (stepped_in layout at s r)
lawful_step layout n k clock at id (step.SetParams ps) r h w short a le one =
    let l = lawful_weaken layout n k clock (n + 0) (k + 0) at (omega arith) (omega arith) le r h in
    with_params layout (n + 0) (k + 0) at r ps l w short
lawful_step layout n k clock at id (step.Exec o) r h w short a le one =
    let l = lawful_weaken layout n k clock (n + 1) (k + 0) at (omega arith) (omega arith) le r h in
    let below = each_weaken (IsQueued layout n) (λ x. x.call < n) (λ x p. p.1) r.history.queue h.queue in
    with_history layout (n + 1) (k + 0) at r (accepted o r.history) l
    (omega (arith, a.0, length-append r.history.queue (o ∷ [])))
    (each_append (IsQueued layout (n + 1)) r.history.queue (o ∷ []) l.queue ((w, omega (arith, a.1.0)), tt))
    (ascends_push (λ x. x.call) n r.history.queue o below (omega (arith, a.1.0)) h.queue_ascends)
    l.running l.ended_len l.ended l.failed l.known
lawful_step layout n k clock at id (step.Recur m) r h w short a le one =
    let l = lawful_weaken layout n k clock (n + 1) (k + 0) at (omega arith) (omega arith) le r h in
    let below = each_weaken (IsRecurring layout n) (λ x. x.call < n) (λ x p. p.1) r.recurring h.recurring in
    with_recurring layout (n + 1) (k + 0) at r (r.recurring ++ m ∷ []) l
    (omega (arith, a.0, length-append r.recurring (m ∷ [])))
    (each_append (IsRecurring layout (n + 1)) r.recurring (m ∷ []) l.recurring ((w, omega (arith, a.2.0)), tt))
    (ascends_push (λ x. x.call) n r.recurring m below (omega (arith, a.2.0)) h.recurring_ascends)
    (intervals_push r.recurring m a.1 h.intervals)
lawful_step layout n k clock at id (step.Cancel interval) r h w short a le one =
    let l = lawful_weaken layout n k clock (n + 0) (k + 0) at (omega arith) (omega arith) le r h in
    let stays = λ (m : Recur). not (m.interval == interval) in
    with_recurring layout (n + 0) (k + 0) at r (without_interval interval r.recurring) l
    (omega (arith, h.recurring_len, filter_shorter stays r.recurring))
    (each_filter (IsRecurring layout (n + 0)) stays r.recurring l.recurring)
    (ascends_filter (λ m. m.call) stays r.recurring h.recurring_ascends)
    (distinct_filter nat_eq (λ m. m.interval) stays r.recurring h.intervals)
lawful_step layout n k clock at id step.Forget r h w short a le one =
    let l = lawful_weaken layout n k clock (n + 0) (k + 0) at (omega arith) (omega arith) le r h in
    with_history layout (n + 0) (k + 0) at r (forgotten r.history) l l.queue_len l.queue l.queue_ascends l.running (omega arith) tt tt (none_known layout)
lawful_step layout n k clock at id (step.Begin call run) r h w short a le one =
    let l = lawful_weaken layout n k clock (n + 0) (k + 1) at (omega arith) (omega arith) le r h in
    lawful_begin layout (n + 0) (k + 1) at call run r l w.1 (omega (arith, a.2.0))
lawful_step layout n k clock at id (step.Result run end) r h w short a le one =
    let l = lawful_weaken layout n k clock (n + 0) (k + 0) at (omega arith) (omega arith) le r h in
    let results = map (ended_of (Run end) at) (option_to_list r.history.running) in
    let lawful = ended_running layout (n + 0) (k + 0) at (Run end) r.history.running w.1 (λ e. e) tt l.running in
    with_history layout (n + 0) (k + 0) at r (ended_in layout (Run end) at r.history) l l.queue_len l.queue l.queue_ascends tt
    (length-last layout (r.history.ended ++ results)) (ended_push layout (n + 0) (k + 0) at r.history.ended results l.ended lawful)
    (failed_push layout (n + 0) (k + 0) at end r.history w.1 l.running l.failed) (known_again layout (failed_after (Run end) at r.history))
lawful_step layout n k clock at id (step.Withdraw call) r h w short a le one =
    let l = lawful_weaken layout n k clock (n + 0) (k + 0) at (omega arith) (omega arith) le r h in
    let stays = λ (o : Op). not (o.call == call) in
    let results = map (cancelled_of at) (option_to_list (queued_of call r.history.queue)) in
    let lawful = ended_cancelled layout (n + 0) (k + 0) at call r.history.queue (omega (arith, one)) w.1 l.queue in
    with_history layout (n + 0) (k + 0) at r (withdrawn_in layout call at r.history) l
    (omega (arith, h.queue_len, filter_shorter stays r.history.queue))
    (each_filter (IsQueued layout (n + 0)) stays r.history.queue l.queue)
    (ascends_filter (λ o. o.call) stays r.history.queue h.queue_ascends)
    l.running (length-last layout (r.history.ended ++ results))
    (ended_push layout (n + 0) (k + 0) at r.history.ended results l.ended lawful) l.failed l.known

-- a boot keeps a resource lawful
pub lawful_boot : (layout : Layout) (n k clock at : ℕ) (r : Resource) → 1 ≤ k → IsLawfulResourceIn layout n k clock r → clock ≤ at
    → IsLawfulResourceIn layout n k at (on_history (booted_in layout at) r)
lawful_boot layout n k clock at r one h le =
    let l = lawful_weaken layout n k clock n k at (omega arith) (omega arith) le r h in
    let dropped = map (dropped_of at) r.history.queue in
    let interrupted = map (ended_of Interrupted at) (option_to_list r.history.running) in
    let first = each_append (IsLawfulEndedIn layout n k at) r.history.ended dropped l.ended (ended_dropped layout n k at r.history.queue one l.queue) in
    let last = ended_running layout n k at Interrupted r.history.running tt (λ e. e) tt l.running in
    with_history layout n k at r (booted_in layout at r.history) l (omega arith) tt tt tt
    (length-last layout (r.history.ended ++ dropped ++ interrupted))
    (ended_push layout n k at (r.history.ended ++ dropped) interrupted first last) l.failed l.known
