-- The recurring monitors with their due moments after an event.
use Rattle.std.specs.Prelude.{ℕ, List, [], ◌∷◌, ◌++◌, filter, not, nat_lt, if◌then◌else◌, Option, Some, None, option_and_then}
use Rattle.std.specs.Str.{bytes_eq}
use Rattle.ocf_types.specs.Kinds.{Step, Change, Event}
use Rattle.ocf_model.specs.State.{State, at_id, resource_at}
use Rattle.ocf_types.specs.declared.operation.Running.{Running}
use Rattle.ocf_types.specs.declared.event.Step.TheVariants as step
use Rattle.ocf_types.specs.declared.event.Change.TheVariants as change
use Rattle.recurring.specs.declared.monitor.Monitor.{Monitor}
use Rattle.recurring.specs.Monitors.{cancelled, settled, monitor_due_at}
use Rattle.exec_state.specs.StateValue.{Monitors}

-- the monitors of a resource after the running action ended at a moment: if a recurring one ran, it is due its interval later
abbrev pub monitors_run_ended : ℕ → Option Running → List Monitor → List Monitor
monitors_run_ended at None ms = ms
monitors_run_ended at (Some x) ms = if nat_lt 0 x.interval then settled x.call at ms else ms

-- the monitors of a resource after a step at a moment, with this running action
abbrev pub monitors_stepped : ℕ → Option Running → Step → List Monitor → List Monitor
monitors_stepped at running (step.Recur m) ms = ms ++ monitor_due_at at m ∷ []
monitors_stepped at running (step.Cancel interval) ms = cancelled interval ms
monitors_stepped at running (step.Result run end) ms = monitors_run_ended at running ms
monitors_stepped at running _ ms = ms

-- the running action of the resource of an id
abbrev pub running_in : State → List ℕ → Option Running
running_in s id = option_and_then (λ r. r.history.running) (resource_at s id)

-- all monitors after a change at a moment
abbrev pub monitors_changed : State → ℕ → Change → Monitors → Monitors
monitors_changed s at (change.Register r) all = all ++ (r.id, []) ∷ []
monitors_changed s at (change.Unregister id) all = filter (λ e. not (bytes_eq id e.0)) all
monitors_changed s at (change.Step id what) all = at_id id (monitors_stepped at (running_in s id) what) all
monitors_changed s at change.Boot all = all

-- all monitors after an event
abbrev pub monitors_after : State → Event → Monitors → Monitors
monitors_after s e all = monitors_changed s e.at e.change all
