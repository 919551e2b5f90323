-- Failures, computed on examples: by the expected code, and how long they are kept.
use Rattle.std.proofs.Common.{◌≡◌, ℕ, Option, Some, None, refl}
use Rattle.ocf_model.specs.Resource.{History, no_history, accepted, begun, ended, booted, forgotten, history_in}
use Rattle.ocf_types.specs.declared.action.Level.TheVariants.{Zero}
use Rattle.ocf_types.specs.declared.action.Action.{Action}
use Rattle.ocf_types.specs.declared.action.Action.TheVariants as action
use Rattle.ocf_types.specs.declared.action.Task.{Task}
use Rattle.ocf_types.specs.Actions.{plain, task}
use Rattle.ocf_types.specs.declared.expect.Expect.{Expect}
use Rattle.ocf_types.specs.declared.expect.Expect.TheVariants.{Success, NotRunning, RunningPromoted}
use Rattle.ocf_types.specs.declared.layout.Layout.TheVariants.{First}
use Rattle.ocf_types.specs.declared.operation.Ended.{Ended}
use Rattle.ocf_types.specs.declared.outcome.Outcome.{Outcome}
use Rattle.ocf_types.specs.declared.outcome.Outcome.TheVariants.{Run}
use Rattle.ocf_types.specs.declared.outcome.RunEnd.TheVariants.{Done, TimedOut}

-- a task is accepted, begins as call 2 and run 4 at 100, and ends at 300
abbrev begins : Task → History → History
begins t h = begun None 4 100 (accepted (record { call = 2; task = t; timeout = 20000 }) h)

abbrev ends : Task → Outcome → History → History
ends t outcome h = ended outcome 300 (begins t h)

-- the result of that run
abbrev result : Action → Outcome → Ended
result a outcome = record { call = 2; run = 4; action = a; interval = 0; since = 100; at = 300; outcome = outcome }

-- a monitor that is expected to find this
abbrev check : Expect → Task
check x = task action.Monitor (record { level = Zero; expect = x })

abbrev code : ℕ → Outcome
code n = Run (Done n)

-- the last failure of a resource whose first action is that monitor and ends with a code
abbrev failed_by : Expect → ℕ → Option Ended
failed_by x n = (ends (check x) (code n) no_history).failed

expected_ends : (failed_by NotRunning 7 ≡ None) × (failed_by Success 190 ≡ None) × (failed_by RunningPromoted 191 ≡ None)
expected_ends = (refl, refl, refl)

other_ends : (failed_by Success 191 ≡ Some (result action.Monitor (code 191))) × (failed_by RunningPromoted 190 ≡ Some (result action.Monitor (code 190)))
    × (failed_by NotRunning 190 ≡ Some (result action.Monitor (code 190))) × (failed_by Success 7 ≡ Some (result action.Monitor (code 7)))
other_ends = (refl, refl, refl, refl)

-- a start that ends degraded has failed, and so has one that ran out of time
degraded_start : (ends (task action.Start plain) (code 190) no_history).failed ≡ Some (result action.Start (code 190))
degraded_start = refl

late_start : (ends (task action.Start plain) (Run TimedOut) no_history).failed ≡ Some (result action.Start (Run TimedOut))
late_start = refl

-- a failure is kept after a success and a boot, until it is forgotten; the first layout does not keep it
failure : History
failure = ends (task action.Start plain) (code 1) no_history

succeeded : (ends (check Success) (code 0) failure).failed ≡ Some (result action.Start (code 1))
unfolding failure
succeeded = refl

interrupted : (booted 500 (begins (check Success) failure)).failed ≡ Some (result action.Start (code 1))
unfolding failure
interrupted = refl

forgot : (forgotten failure).failed ≡ None
unfolding failure
forgot = refl

unknown_in_first : (history_in First failure).failed ≡ None
unfolding failure
unknown_in_first = refl
