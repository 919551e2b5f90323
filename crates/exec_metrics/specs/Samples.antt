-- The samples of a resource, one line each.
use Rattle.std.specs.Prelude.{ℕ, ◌-◌, ◌/◌, ◌==◌, Bool, if◌then◌else◌, List, [], ◌++◌, length, slice_get, codes, decimal}
use Rattle.std.specs.Prelude.{Option, Some, None, option_map}
use Rattle.std.specs.Str.{bytes_eq}
use Rattle.ocf_types.specs.Actions.{action_word}
use Rattle.ocf_types.specs.Outcomes.{outcome_code, outcome_word}
use Rattle.ocf_types.specs.declared.operation.Ended.{Ended}
use Rattle.ocf_types.specs.declared.operation.Recur.{Recur}
use Rattle.resource_status.specs.Conditions.{condition_word}
use Rattle.resource_status.specs.Results.{is_run, last_of}
use Rattle.resource_status.specs.declared.condition.Condition.{Condition}
use Rattle.resource_status.specs.declared.condition.Condition.TheVariants.{NeverRun, Started, Promoted, Stopped, Failed, Unknown}
use Rattle.exec_metrics.specs.Families.{name}
use Rattle.exec_metrics.specs.Labels.{label, next_label}
use Rattle.exec_metrics.specs.declared.family.Family.{Family}
use Rattle.exec_metrics.specs.declared.family.Family.TheVariants as family

-- a sample's line up to its first label, which is the resource
abbrev pub begun : Family → List ℕ → List ℕ
begun f id = name f ++ codes "{" ++ label (codes "resource") id

-- the rest of a sample's line, after its last label
abbrev pub valued : ℕ → List ℕ
valued n = codes "} " ++ decimal n ++ codes "\n"

-- a sample with no other label
abbrev pub plain : Family → List ℕ → ℕ → List ℕ
plain f id n = begun f id ++ valued n

-- a sample without labels
abbrev pub bare : Family → ℕ → List ℕ
bare f n = name f ++ codes " " ++ decimal n ++ codes "\n"

-- 1 for true, 0 for false
abbrev pub bit : Bool → ℕ
bit is = if is then 1 else 0

abbrev pub is_same : Condition → Condition → Bool
is_same c d = bytes_eq (condition_word c) (condition_word d)

-- the sample for a state: whether it is the state of the resource
abbrev pub state_sample : List ℕ → Condition → Condition → List ℕ
state_sample id is c = begun family.State id ++ next_label (codes "state") (condition_word c) ++ valued (bit (is_same is c))

-- the samples for all states
abbrev pub state_samples : List ℕ → Condition → List ℕ
state_samples id is =
    state_sample id is NeverRun ++ state_sample id is Started ++ state_sample id is Promoted ++ state_sample id is Stopped
    ++ state_sample id is Failed ++ state_sample id is Unknown

-- the age of a result, if there is one, in whole seconds; 0 for one that is ahead of the clock
abbrev pub age : ℕ → Option Ended → Option ℕ
age now found = option_map (λ e. (now - e.at) / 1000) found

-- the labels of a code: the action and the outcome
abbrev pub code_labels : Ended → List ℕ
code_labels e = next_label (codes "action") (action_word e.action) ++ next_label (codes "outcome") (outcome_word e.outcome)

-- the samples for the code of a result and for its age; empty if there is no result
abbrev pub code_sample : Family → List ℕ → Option Ended → List ℕ
code_sample f id None = []
code_sample f id (Some e) = begun f id ++ code_labels e ++ valued (outcome_code e.outcome)

abbrev pub age_sample : Family → List ℕ → Option ℕ → List ℕ
age_sample f id None = []
age_sample f id (Some n) = plain f id n

-- the last one of the results
abbrev pub last_result : List Ended → Option Ended
last_result es = if length es == 0 then None else slice_get es (length es - 1)

-- the label for the interval of a recurring monitor
abbrev pub interval_label : Recur → List ℕ
interval_label m = codes ",interval_ms=\"" ++ decimal m.interval ++ codes "\""

-- the outcome of a result, and its code
abbrev pub outcome_value : Ended → List ℕ
outcome_value e = next_label (codes "outcome") (outcome_word e.outcome) ++ valued (outcome_code e.outcome)

-- the samples for the code of a monitor's last result and for its age; empty if there is no result
abbrev pub monitor_code : List ℕ → Recur → Option Ended → List ℕ
monitor_code id m None = []
monitor_code id m (Some e) = begun family.MonitorCode id ++ interval_label m ++ outcome_value e

abbrev pub monitor_age : List ℕ → Recur → Option ℕ → List ℕ
monitor_age id m None = []
monitor_age id m (Some n) = begun family.MonitorAge id ++ interval_label m ++ valued n

-- the same for a monitor, from these results of its resource
abbrev pub code_of_monitor : List ℕ → List Ended → Recur → List ℕ
code_of_monitor id es m = monitor_code id m (last_of (is_run m.call) es)

abbrev pub age_of_monitor : ℕ → List ℕ → List Ended → Recur → List ℕ
age_of_monitor now id es m = monitor_age id m (age now (last_of (is_run m.call) es))
