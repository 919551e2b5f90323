-- Every state that events lead to is lawful, in each layout.
use Rattle.std.proofs.Common.{ℕ, ◌+◌, ◌≤◌, not, List, [], ◌∷◌, length, arith, length-append}
use Rattle.std.specs.Map.{keys_of}
use Rattle.std.specs.Str.{bytes_eq}
use Rattle.std.proofs.lemmas.Cmp.{nat_list_eq_equiv}
use Rattle.std.proofs.lemmas.List.{map-append, length-map}
use Rattle.std.proofs.lemmas.Map.Keys.{IsDistinct-push}
use Rattle.ocf_types.specs.declared.layout.Layout.{Layout}
use Rattle.ocf_types.specs.declared.event.Step.TheVariants as step
use Rattle.ocf_types.specs.declared.event.Change.TheVariants as change
use Rattle.ocf_types.specs.Kinds.{Step, Change, Event}
use Rattle.ocf_types.specs.Limits.{event_limit}
use Rattle.ocf_types.specs.Numbers.{IsDrawn, IsMoment}
use Rattle.ocf_types.specs.Lawful.{IsId, IsLawfulChangeIn}
use Rattle.ocf_types.specs.Encoding.{fields_in, step_fields_in}
use Rattle.ocf_model.specs.Resource.{Resource, booted_in}
use Rattle.ocf_model.specs.State.{State, empty, after_in, changed_in, resource_at, on_history, stepped_in, registered, calls_drawn}
use Rattle.ocf_model.specs.State.{runs_drawn}
use Rattle.ocf_model.specs.Applies.{AppliesIn, StepApplies, ChangeApplies}
use Rattle.ocf_model.specs.LawfulState.{IsLawfulResourceIn, IsLawfulStateIn}
use Rattle.ocf_model.proofs.Lengths.{length-event, length-step, params_shorter}
use Rattle.ocf_types.specs.Lemmas.{distinct_none, each_append}
use Rattle.ocf_model.proofs.Lists.{filter_shorter}
use Rattle.ocf_model.proofs.Registries.{absent_any, keys-at_id, keys-map, ids-at_id, ids-map, values-map, values-at_id}
use Rattle.ocf_model.proofs.LawfulParts.{lawful_weaken, resources_weaken, lawful_registered}
use Rattle.ocf_model.proofs.LawfulSteps.{lawful_step, lawful_boot}
use Rattle.ocf_model.specs.RegistryLemmas.{found, each_filter, distinct_filter}

-- the state with no resources is lawful
pub lawful_empty : (layout : Layout) → IsLawfulStateIn layout empty
lawful_empty layout = record {
  next_call = (omega arith, omega arith);
  next_run = (omega arith, omega arith);
  clock = omega arith;
  at_most_256 = omega arith;
  ids = distinct_none bytes_eq;
  named = tt;
  resources = tt;
}

-- the next number after a change that draws none
drawn_still : (n : ℕ) → IsDrawn n → IsDrawn (n + 0)
drawn_still n h = (omega (arith, h.0), omega (arith, h.1))

-- the next call id after a step that applies
calls_after : (n k : ℕ) (id : List ℕ) (s : Step) (r : Resource) → IsDrawn n → StepApplies n k s r
    → IsDrawn (n + calls_drawn (change.Step id s))
calls_after n k id (step.Exec o) r h a = (omega (arith, h.0), omega (arith, a.1.0, a.1.1))
calls_after n k id (step.Recur m) r h a = (omega (arith, h.0), omega (arith, a.2.0, a.2.1))
calls_after n k id _ r h a = drawn_still n h

-- the next run number after a step that applies
runs_after : (n k : ℕ) (id : List ℕ) (s : Step) (r : Resource) → IsDrawn k → StepApplies n k s r
    → IsDrawn (k + runs_drawn (change.Step id s))
runs_after n k id (step.Begin call run) r h a = (omega (arith, h.0), omega (arith, a.2.0, a.2.1))
runs_after n k id _ r h a = drawn_still k h

-- a change that applies keeps a state lawful
lawful_change : (layout : Layout) (s : State) (at : ℕ) (c : Change) → IsLawfulStateIn layout s → IsMoment at → IsLawfulChangeIn layout c
    → length (fields_in layout c) ≤ event_limit → s.clock ≤ at → ChangeApplies s c
    → IsLawfulStateIn layout (after_in layout s (record { at = at; change = c }))
lawful_change layout s at (change.Register r) h moment w short le a =
    let n : ℕ = s.next_call in
    let k : ℕ = s.next_run in
    let later = resources_weaken layout n k s.clock (n + 0) (k + 0) at (omega arith) (omega arith) le s.resources h.resources in
    let fresh = lawful_registered layout (n + 0) (k + 0) at r w (omega (arith, short, params_shorter layout r)) in
    let distinct = IsDistinct-push nat_list_eq_equiv (keys_of s.resources) r.id h.ids (absent_any r.id s.resources a.0) in
    record {
      next_call = drawn_still n h.next_call;
      next_run = drawn_still k h.next_run;
      clock = moment;
      at_most_256 = omega (arith, a.1, length-append s.resources (registered r ∷ []));
      ids = rw (map-append (λ x. x.0) s.resources (registered r ∷ [])) distinct;
      named = each_append (λ x. IsId x.0) s.resources (registered r ∷ []) h.named (w.id, tt);
      resources = each_append (λ x. IsLawfulResourceIn layout (n + 0) (k + 0) at x.1) s.resources (registered r ∷ []) later (fresh, tt);
    }
lawful_change layout s at (change.Unregister id) h moment w short le a =
    let n : ℕ = s.next_call in
    let k : ℕ = s.next_run in
    let later = resources_weaken layout n k s.clock (n + 0) (k + 0) at (omega arith) (omega arith) le s.resources h.resources in
    record {
      next_call = drawn_still n h.next_call;
      next_run = drawn_still k h.next_run;
      clock = moment;
      at_most_256 = omega (arith, h.at_most_256, filter_shorter (λ x. not (bytes_eq id x.0)) s.resources);
      ids = distinct_filter bytes_eq (λ x. x.0) (λ x. not (bytes_eq id x.0)) s.resources h.ids;
      named = each_filter (λ x. IsId x.0) (λ x. not (bytes_eq id x.0)) s.resources h.named;
      resources = each_filter (λ x. IsLawfulResourceIn layout (n + 0) (k + 0) at x.1) (λ x. not (bytes_eq id x.0)) s.resources later;
    }
lawful_change layout s at (change.Step id what) h moment w short le a =
    let n : ℕ = s.next_call in
    let k : ℕ = s.next_run in
    let f = found (resource_at s id) (StepApplies n k what) a in
    let calls : ℕ = calls_drawn (change.Step id what) in
    let runs : ℕ = runs_drawn (change.Step id what) in
    let fits : length (step_fields_in layout what) ≤ event_limit = omega (arith, short, length-step layout id what) in
    record {
      next_call = calls_after n k id what f.0 h.next_call f.2;
      next_run = runs_after n k id what f.0 h.next_run f.2;
      clock = moment;
      at_most_256 = rw length-map h.at_most_256;
      ids = rw (keys-at_id id (stepped_in layout at what) s.resources) h.ids;
      named = ids-at_id IsId id (stepped_in layout at what) s.resources h.named;
      resources = values-at_id (IsLawfulResourceIn layout n k s.clock) (IsLawfulResourceIn layout (n + calls) (k + runs) at) id
          (stepped_in layout at what)
          (λ x l. lawful_weaken layout n k s.clock (n + calls) (k + runs) at (omega arith) (omega arith) le x l)
          s.resources f.0 h.ids f.1 (λ l. lawful_step layout n k s.clock at id what f.0 l w.1 fits f.2 le h.next_run.0) h.resources;
    }
lawful_change layout s at change.Boot h moment w short le a =
    let n : ℕ = s.next_call in
    let k : ℕ = s.next_run in
    let booted_one = λ (x : Resource) (l : IsLawfulResourceIn layout n k s.clock x).
    lawful_boot layout n k s.clock at x h.next_run.0 l le in
    let all = values-map (IsLawfulResourceIn layout n k s.clock) (IsLawfulResourceIn layout n k at)
    (on_history (booted_in layout at)) booted_one s.resources h.resources in
    record {
      next_call = drawn_still n h.next_call;
      next_run = drawn_still k h.next_run;
      clock = moment;
      at_most_256 = rw length-map h.at_most_256;
      ids = rw (keys-map (on_history (booted_in layout at)) s.resources) h.ids;
      named = ids-map IsId (on_history (booted_in layout at)) s.resources h.named;
      resources =
          resources_weaken layout n k at (n + 0) (k + 0) at (omega arith) (omega arith) (omega arith)
          (changed_in layout at change.Boot s.resources) all;
    }

-- an event that applies keeps a state lawful
pub lawful_after : (layout : Layout) (s : State) (e : Event) → IsLawfulStateIn layout s → AppliesIn layout s e
    → IsLawfulStateIn layout (after_in layout s e)
lawful_after layout s e h a =
    let short : length (fields_in layout e.change) ≤ event_limit = omega (arith, a.encoded.short, length-event layout e.at e.change) in
    lawful_change layout s e.at e.change h a.encoded.lawful.at a.encoded.lawful.change short a.later a.change
