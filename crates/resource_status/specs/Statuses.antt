-- The status of a resource as a JSON object.
use Rattle.std.specs.Prelude.{ℕ, List, [], ◌∷◌, length, map, Option, Some, None, codes}
use Rattle.serde_json.specs.Data.{Data, null, string}
use Rattle.ocf_types.specs.Actions.{action_word}
use Rattle.ocf_types.specs.Outcomes.{outcome_code, outcome_word}
use Rattle.ocf_model.specs.Resource.{Resource}
use Rattle.ocf_model.specs.State.{State}
use Rattle.ocf_types.specs.declared.operation.Ended.{Ended}
use Rattle.ocf_types.specs.declared.operation.Running.{Running}
use Rattle.ocf_codes.specs.ExitCodes.{name_read}
use Rattle.exec_replies.specs.Objects.{natural_data, object_from}
use Rattle.resource_status.specs.Conditions.{condition_of, condition_word, since_of}
use Rattle.resource_status.specs.declared.condition.Since.{Since}
use Rattle.resource_status.specs.Reasons.{reason_of}
use Rattle.resource_status.specs.declared.reasons.RunReason.{RunReason}

-- the reason that the agent gave, where one is known
abbrev pub reason_data : Option (List ℕ) → Data
reason_data None = null
reason_data (Some text) = string text

-- a failed result, with its reason
abbrev pub failed_object : Data → Ended → Data
failed_object reason e = object_from (
    (codes "action", string (action_word e.action)) ∷ (codes "at", natural_data e.at)
    ∷ (codes "code", natural_data (outcome_code e.outcome)) ∷ (codes "name", string (name_read (outcome_code e.outcome)))
    ∷ (codes "outcome", string (outcome_word e.outcome)) ∷ (codes "reason", reason) ∷ [])

-- the last failure, with its reason
abbrev pub failure_data : Option (List ℕ) → Option Ended → Data
failure_data reason None = null
failure_data reason (Some e) = failed_object (reason_data reason) e

-- the action that runs
abbrev pub doing_data : Option Running → Data
doing_data None = null
doing_data (Some x) = object_from ((codes "action", string (action_word x.task.action)) ∷ (codes "since", natural_data x.since) ∷ [])

-- since when the condition holds
abbrev pub since_data : Option Since → Data
since_data None = null
since_data (Some since) = natural_data since.moment

-- the status of a resource: its condition, what it does now, and its last failure with this reason
abbrev pub resource_data : Option (List ℕ) → List ℕ × Resource → Data
resource_data reason e = object_from (
    (codes "failed", failure_data reason e.1.history.failed) ∷ (codes "id", string e.0)
    ∷ (codes "queued", natural_data (length e.1.history.queue)) ∷ (codes "running", doing_data e.1.history.running)
    ∷ (codes "since", since_data (since_of e.1.history)) ∷ (codes "state", string (condition_word (condition_of e.1.history))) ∷ [])

-- the reason for a failure, if it is among these
abbrev pub failure_reason : List RunReason → Option Ended → Option (List ℕ)
failure_reason reasons None = None
failure_reason reasons (Some e) = reason_of reasons e.run

-- the status of a resource, with the reason for its last failure if it is among these
abbrev pub status_of : List RunReason → List ℕ × Resource → Data
status_of reasons e = resource_data (failure_reason reasons e.1.history.failed) e

-- the status of all resources, in order of registration, with these reasons
abbrev pub statuses_of : List RunReason → State → List Data
statuses_of reasons s = map (status_of reasons) s.resources
