-- The condition of a resource, by its last results: OCF Resource Agent API 1.1, actions and exit codes.
use Rattle.std.specs.Prelude.{ℕ, ◌==◌, ◌&&◌, ◌||◌, min, not, nat_le, nat_lt, Bool, true, false, List, length, fold, if◌then◌else◌, Option, Some, None}
use Rattle.std.specs.Prelude.{codes, option_map}
use Rattle.std.specs.Option.{option_map_or}
use Rattle.std.specs.Str.{bytes_eq}
use Rattle.ocf_types.specs.Layouts.{kept_in}
use Rattle.ocf_model.specs.Resource.{History}
use Rattle.ocf_types.specs.declared.action.Action.{Action}
use Rattle.ocf_types.specs.declared.action.Action.TheVariants as action
use Rattle.ocf_types.specs.declared.layout.Layout.TheVariants.{First}
use Rattle.ocf_types.specs.declared.operation.Ended.{Ended}
use Rattle.ocf_types.specs.declared.outcome.Outcome.{Outcome}
use Rattle.ocf_types.specs.declared.outcome.Outcome.TheVariants.{Run, Interrupted, Dropped, Cancelled}
use Rattle.ocf_types.specs.declared.outcome.RunEnd.TheVariants.{Done, TimedOut, Signaled, Lost, NotStarted}
use Rattle.ocf_codes.specs.ExitCodes.{code_read}
use Rattle.ocf_codes.specs.declared.exit_code.Code.{Code}
use Rattle.ocf_codes.specs.declared.exit_code.Code.TheVariants as code
use Rattle.resource_status.specs.declared.condition.Condition.{Condition}
use Rattle.resource_status.specs.declared.condition.Condition.TheVariants.{NeverRun, Started, Promoted, Stopped, Failed, Unknown}
use Rattle.resource_status.specs.declared.condition.Known.{Known}
use Rattle.resource_status.specs.declared.condition.Recorded.{Recorded}
use Rattle.resource_status.specs.declared.condition.Since.{Since}

-- the text of a condition
abbrev pub condition_word : Condition → List ℕ
condition_word NeverRun = codes "never run"
condition_word Started = codes "started"
condition_word Promoted = codes "promoted"
condition_word Stopped = codes "stopped"
condition_word Failed = codes "failed"
condition_word Unknown = codes "unknown"

-- a condition needs attention
abbrev pub is_bad : Condition → Bool
is_bad Failed = true
is_bad Unknown = true
is_bad _ = false

-- whether an action is a stop
abbrev pub is_stop : Action → Bool
is_stop action.Stop = true
is_stop _ = false

-- what a monitor found, by its exit code
abbrev pub found_by : Code → Condition
found_by code.Success = Started
found_by code.Degraded = Started
found_by code.RunningPromoted = Promoted
found_by code.DegradedPromoted = Promoted
found_by code.NotRunning = Stopped
found_by _ = Failed

-- the condition after an action that succeeded; a reload and a validation show none
abbrev pub left_by : Action → Option Condition
left_by action.Start = Some Started
left_by action.Demote = Some Started
left_by action.Monitor = Some Started
left_by action.Promote = Some Promoted
left_by action.Stop = Some Stopped
left_by action.ReloadAgent = None
left_by action.ValidateAll = None

-- the condition that an action shows by its exit code
abbrev pub written_by_code : Action → Code → Option Condition
written_by_code action.Monitor c = Some (found_by c)
written_by_code a code.Success = left_by a
written_by_code a _ = Some Failed

-- the condition that a result shows: an action that was cut off may be done or not, unless it is a monitor, which changes nothing, and
-- one that never began shows none
abbrev pub written_by : Action → Outcome → Option Condition
written_by a (Run (Done n)) = written_by_code a (code_read n)
written_by a (Run TimedOut) = Some Unknown
written_by a (Run Signaled) = Some Failed
written_by a (Run Lost) = Some Unknown
written_by a (Run (NotStarted fault)) = Some Failed
written_by action.Monitor Interrupted = None
written_by _ Interrupted = Some Unknown
written_by a Dropped = None
written_by a Cancelled = None

-- what is known shows this condition
abbrev pub is_same : Known → Condition → Bool
is_same k c = bytes_eq (condition_word k.condition) (condition_word c)

-- since when a condition holds that a result of this moment shows: since earlier results, where these show the same
abbrev pub since_in : Option Known → Condition → ℕ → ℕ
since_in None c at = at
since_in (Some k) c at = if is_same k c then k.since else at

-- a result before one that shows this condition shows another
abbrev pub changed_in : Option Known → Condition → Bool
changed_in None c = false
changed_in (Some k) c = k.changed || not (is_same k c)

-- a resource in this condition runs
abbrev pub is_up : Condition → Bool
is_up Started = true
is_up Promoted = true
is_up _ = false

-- the run of the last result that shows that the resource runs, 0 where none does
abbrev pub up_in : Option Known → Condition → ℕ → ℕ
up_in k c run = if is_up c then run else option_map_or (λ k. k.up) k 0

-- what is known after a result that shows this condition
abbrev pub shown_by : Option Known → Ended → Condition → Known
shown_by k e c =
    record { condition = c; since = since_in k c e.at; run = e.run; up = up_in k c e.run; changed = changed_in k c }

-- what is known after one more result
abbrev pub after : Option Known → Ended → Option Known
after k e = option_map_or (λ c. Some (shown_by k e c)) (written_by e.action e.outcome) k

-- what is known after all results, oldest first
abbrev pub known_of : List Ended → Option Known
known_of es = fold after None es

-- a condition, where the result that shows it is a failure: a service that is stopped and should run has failed
abbrev pub worsened : Condition → Condition
worsened Unknown = Unknown
worsened _ = Failed

abbrev pub is_stopped : Condition → Bool
is_stopped Stopped = true
is_stopped _ = false

-- a condition, where a failure lasts: a resource that was stopped after it has failed
abbrev pub given_up : Condition → Condition
given_up Stopped = Failed
given_up c = c

-- a failure lasts until a result shows that the resource runs; that of a stop does not
abbrev pub lasts : Known → Ended → Bool
lasts k e = nat_lt k.up e.run && not (is_stop e.action)

-- the condition, by the last failure: whether the result that shows it is that failure, and whether that lasts
abbrev pub judged : Known → Option Ended → Condition
judged k None = k.condition
judged k (Some e) = if e.run == k.run then worsened k.condition else (if lasts k e then given_up k.condition else k.condition)

-- the condition of a resource of which no result shows one: it never ran, unless results were dropped or forgotten
abbrev pub condition_without_result : Bool → Condition
condition_without_result cut = if cut then Unknown else NeverRun

-- the condition of a resource, by what results hold of it, and its last failure
abbrev pub condition_by : Recorded → Option Ended → Condition
condition_by r failed = option_map_or (λ k. judged k failed) r.known (condition_without_result r.cut)

-- the resource was stopped, and has failed since a failure that lasts
abbrev pub is_given_up : Known → Ended → Bool
is_given_up k e = is_stopped k.condition && lasts k e

-- since when the condition holds, by the last failure: that of a resource that was stopped after it since the failure
abbrev pub since_judged : Known → Option Ended → ℕ
since_judged k None = k.since
since_judged k (Some e) = if is_given_up k e then min e.at k.since else k.since

-- since when the condition of a resource holds: exactly, or at least where results were dropped and none shows another condition
abbrev pub since_by : Recorded → Option Ended → Option Since
since_by r failed = option_map (λ k. record { moment = since_judged k failed; at_least = r.cut && not k.changed }) r.known

-- what a history holds of its resource; a history this long may have dropped results
abbrev pub held_in : History → Recorded
held_in h = record { known = known_of h.ended; cut = nat_le (kept_in First) (length h.ended) }

-- the condition of a resource, by its history alone
abbrev pub condition_of : History → Condition
condition_of h = condition_by (held_in h) h.failed

-- since when the condition of a resource holds, by its history alone
abbrev pub since_of : History → Option Since
since_of h = since_by (held_in h) h.failed
