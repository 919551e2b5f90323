-- States whose resources are no longer than those of lawful ones.
use Rattle.std.specs.Prelude.{◌≤◌, IsTrue, length, ⊤}
use Rattle.std.specs.List.{AllByRecursion, IsDistinct}
use Rattle.std.specs.Map.{keys_of}
use Rattle.std.specs.Str.{bytes_eq}
use Rattle.ocf_types.specs.Encoding.{encoded_params}
use Rattle.ocf_types.specs.Kinds.{Step}
use Rattle.ocf_types.specs.Limits.{ended_kept, event_limit, queue_limit, recurring_limit, resources_limit}
use Rattle.ocf_types.specs.Names.{is_agent_type, is_provider, is_rsc_id}
use Rattle.ocf_model.specs.Resource.{Resource}
use Rattle.ocf_model.specs.State.{State}
use Rattle.ocf_types.specs.declared.event.Step.TheVariants as step

-- A resource with valid names, and with no more parameters, queued actions, recurring monitors and results than a lawful one.
pub record IsSmall (r : Resource) : Type 0 where
  pub provider : IsTrue (is_provider r.provider)
  pub agent : IsTrue (is_agent_type r.agent)
  pub params : length (encoded_params r.params) ≤ event_limit
  pub queue : length r.history.queue ≤ queue_limit
  pub monitors : length r.recurring ≤ recurring_limit
  pub results : length r.history.ended ≤ ended_kept

-- A state of such resources, as many as a lawful one at most.
pub record IsSmallState (s : State) : Type 0 where
  pub few : length s.resources ≤ resources_limit
  pub ids : IsDistinct bytes_eq (keys_of s.resources)
  pub named : AllByRecursion (λ e. IsTrue (is_rsc_id e.0)) s.resources
  pub small : AllByRecursion (λ e. IsSmall e.1) s.resources

-- the step begins an action, or is the result of one
abbrev pub IsRunStep : Step → Type 0
IsRunStep (step.Begin call run) = ⊤
IsRunStep (step.Result run end) = ⊤
IsRunStep _ = ⊥
