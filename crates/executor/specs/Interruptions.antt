-- The notices of an opening: of the actions that the executor before this opening left running or queued.
use Rattle.std.specs.Prelude.{ℕ, List, map, option_to_list}
use Rattle.std.specs.List.{flat_map}
use Rattle.ocf_model.specs.Notices.{drop_notice, run_notice}
use Rattle.ocf_model.specs.Resource.{Resource}
use Rattle.ocf_model.specs.State.{State}
use Rattle.ocf_types.specs.declared.operation.Running.{Running}
use Rattle.ocf_types.specs.declared.outcome.Outcome.TheVariants.{Interrupted}
use Rattle.ocf_types.specs.declared.notice.Notice.{Notice}

-- a resource's running action is interrupted
abbrev pub interruption : List ℕ → ℕ → Running → Notice
interruption id at x = run_notice id Interrupted at x

abbrev pub interrupted_in : ℕ → List ℕ × Resource → List Notice
interrupted_in at e = map (interruption e.0 at) (option_to_list e.1.history.running)

-- a resource's queued actions are dropped
abbrev pub dropped_in : ℕ → List ℕ × Resource → List Notice
dropped_in at e = map (drop_notice e.0 at) e.1.history.queue

-- all running actions, by registration
abbrev pub interrupted : State → ℕ → List Notice
interrupted s at = flat_map (interrupted_in at) s.resources

-- all queued actions, by registration and then by call
abbrev pub dropped : State → ℕ → List Notice
dropped s at = flat_map (dropped_in at) s.resources
