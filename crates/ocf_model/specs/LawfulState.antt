-- Lawful states: those that have an encoding. Every state that events lead to is one.
use Rattle.std.specs.Prelude.{◌≡◌, ◌↔◌, ℕ, ◌<◌, ◌≤◌, ◌^◌, nat_eq, IsTrue, List, [], ◌∷◌, map, length, Option, Some, None, ⊤}
use Rattle.std.specs.List.{AllByRecursion, IsDistinct}
use Rattle.std.specs.Map.{keys_of}
use Rattle.std.specs.Str.{bytes_eq}
use Rattle.ocf_types.specs.Limits.{event_limit, resources_limit, queue_limit, recurring_limit}
use Rattle.ocf_types.specs.Names.{is_rsc_id, is_provider, is_agent_type}
use Rattle.ocf_types.specs.Numbers.{IsAscending, IsMoment, IsDrawn, IsMillis}
use Rattle.ocf_types.specs.Params.{AreParams}
use Rattle.ocf_types.specs.Actions.{IsTask}
use Rattle.ocf_types.specs.Encoding.{encoded_params}
use Rattle.ocf_model.specs.StateEncoding.{encoded_state_in}
use Rattle.ocf_types.specs.Lawful.{IsLawfulOpIn, IsLawfulRecurIn, IsOutcome}
use Rattle.ocf_types.specs.Layouts.{kept_in, EncodesExpect, EncodesOutcome, failed_in, current}
use Rattle.ocf_model.specs.Resource.{Resource}
use Rattle.ocf_model.specs.State.{State}
use Rattle.ocf_types.specs.declared.layout.Layout.{Layout}
use Rattle.ocf_types.specs.declared.action.Action.{Action}
use Rattle.ocf_types.specs.declared.action.Action.TheVariants.{Monitor}
use Rattle.ocf_types.specs.declared.operation.Running.{Running}
use Rattle.ocf_types.specs.declared.operation.Ended.{Ended}
use Rattle.ocf_types.specs.declared.outcome.Outcome.{Outcome}
use Rattle.ocf_types.specs.declared.outcome.Outcome.TheVariants.{Run, Dropped, Cancelled}

-- an interval fits four bytes, and is 0 unless the action is a monitor
abbrev pub IsIntervalOf : ℕ → Action → Type 0
IsIntervalOf interval action = (interval < 2 ^ 32) × (0 < interval → action ≡ Monitor)

-- a running action: its numbers are below the next ones, it began no later than the clock, and the layout can encode its task
abbrev pub IsLawfulRunningIn : Layout → ℕ → ℕ → ℕ → Option Running → Type 0
IsLawfulRunningIn layout next_call next_run clock None = ⊤
IsLawfulRunningIn layout next_call next_run clock (Some x) =
    IsDrawn x.call × (x.call < next_call) × IsDrawn x.run × (x.run < next_run) × IsMillis x.timeout
    × IsIntervalOf x.interval x.task.action × (x.since ≤ clock) × EncodesExpect layout x.task.check.expect × IsTask x.task

abbrev pub IsLawfulRunning : ℕ → ℕ → ℕ → Option Running → Type 0
IsLawfulRunning next_call next_run clock x = IsLawfulRunningIn current next_call next_run clock x

-- the outcome of an action that never began
abbrev pub NeverBegan : Outcome → Type 0
NeverBegan Dropped = ⊤
NeverBegan Cancelled = ⊤
NeverBegan _ = ⊥

-- a result: its numbers are below the next ones, its moments no later than the clock, the layout can encode it, and its run is 0
-- exactly when it never began
pub record IsLawfulEndedIn (layout : Layout) (next_call next_run clock : ℕ) (e : Ended) : Type 0 where
  pub drawn : IsDrawn e.call
  pub call : e.call < next_call
  pub run : e.run < next_run
  pub unbegun : (e.run ≡ 0) ↔ NeverBegan e.outcome
  pub interval : IsIntervalOf e.interval e.action
  pub since : e.since ≤ clock
  pub at : e.at ≤ clock
  pub outcome : IsOutcome e.outcome
  pub known : EncodesOutcome layout e.outcome

abbrev pub IsLawfulEnded : ℕ → ℕ → ℕ → Ended → Type 0
IsLawfulEnded next_call next_run clock e = IsLawfulEndedIn current next_call next_run clock e

-- the outcome is the end of a run
abbrev pub IsEndOfRun : Outcome → Type 0
IsEndOfRun (Run end) = ⊤
IsEndOfRun _ = ⊥

-- the last failure: the result of a run
abbrev pub IsLawfulFailed : ℕ → ℕ → ℕ → Option Ended → Type 0
IsLawfulFailed next_call next_run clock None = ⊤
IsLawfulFailed next_call next_run clock (Some e) = IsLawfulEnded next_call next_run clock e × IsEndOfRun e.outcome

-- a resource in a layout, in a state with these next numbers and this clock
pub record IsLawfulResourceIn (layout : Layout) (next_call next_run clock : ℕ) (r : Resource) : Type 0 where
  pub provider : IsTrue (is_provider r.provider)
  pub agent : IsTrue (is_agent_type r.agent)
  pub are_params : AreParams r.params
  pub params_len : length (encoded_params r.params) ≤ event_limit
  pub queue_len : length r.history.queue ≤ queue_limit
  pub queue : AllByRecursion (λ o. IsLawfulOpIn layout o × (o.call < next_call)) r.history.queue
  pub queue_ascends : IsAscending (map (λ o. o.call) r.history.queue)
  pub running : IsLawfulRunningIn layout next_call next_run clock r.history.running
  pub recurring_len : length r.recurring ≤ recurring_limit
  pub recurring : AllByRecursion (λ m. IsLawfulRecurIn layout m × (m.call < next_call)) r.recurring
  pub recurring_ascends : IsAscending (map (λ m. m.call) r.recurring)
  pub intervals : IsDistinct nat_eq (map (λ m. m.interval) r.recurring)
  pub ended_len : length r.history.ended ≤ kept_in layout
  pub ended : AllByRecursion (IsLawfulEndedIn layout next_call next_run clock) r.history.ended
  pub failed : IsLawfulFailed next_call next_run clock r.history.failed
  pub known : failed_in layout r.history.failed ≡ r.history.failed

abbrev pub IsLawfulResource : ℕ → ℕ → ℕ → Resource → Type 0
IsLawfulResource next_call next_run clock r = IsLawfulResourceIn current next_call next_run clock r

-- a lawful state in a layout: the conditions of its encoding
pub record IsLawfulStateIn (layout : Layout) (s : State) : Type 0 where
  pub next_call : IsDrawn s.next_call
  pub next_run : IsDrawn s.next_run
  pub clock : IsMoment s.clock
  pub at_most_256 : length s.resources ≤ resources_limit
  pub ids : IsDistinct bytes_eq (keys_of s.resources)
  pub named : AllByRecursion (λ e. IsTrue (is_rsc_id e.0)) s.resources
  pub resources : AllByRecursion (λ e. IsLawfulResourceIn layout s.next_call s.next_run s.clock e.1) s.resources

abbrev pub IsLawfulState : State → Type 0
IsLawfulState s = IsLawfulStateIn current s

-- the bytes are the encoding of a lawful state in a layout
pub record EncodesIn (layout : Layout) (bytes : List ℕ) (s : State) : Type 0 where
  pub lawful : IsLawfulStateIn layout s
  pub whole : bytes ≡ encoded_state_in layout s
