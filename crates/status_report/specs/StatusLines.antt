-- What a status prints for a program: what `show` prints, and then a line of JSON for each resource.
use Rattle.std.specs.Prelude.{◌≡◌, ℕ, ⊤, Bool, false, ◌==◌, ◌&&◌, not, if◌then◌else◌, List, [], ◌∷◌, ◌++◌, length, Option, Some, None, option_map}
use Rattle.std.specs.Prelude.{MatchBool, codes}
use Rattle.std.specs.List.{flat_map}
use Rattle.serde_json.specs.Data.{Data, null, string, boolean}
use Rattle.serde_json.specs.Written.{compact_text}
use Rattle.ocf_types.specs.Actions.{action_word}
use Rattle.ocf_model.specs.State.{State}
use Rattle.ocf_types.specs.declared.operation.Running.{Running}
use Rattle.exec_replies.specs.Objects.{natural_data, object_from}
use Rattle.resource_status.specs.Conditions.{condition_word}
use Rattle.resource_status.specs.Statuses.{failure_data, reason_data}
use Rattle.resource_status.specs.declared.condition.Since.{Since}
use Rattle.status_table.specs.Remarks.{reason_of, wait_of}
use Rattle.status_report.specs.Shown.{resource_lines, shown}
use Rattle.status_table.specs.declared.options.StatusOptions.{StatusOptions}
use Rattle.status_table.specs.declared.rows.Row.{Row}

-- the action that runs, since when, and after how long it is killed
abbrev pub running_data : Option Running → Data
running_data None = null
running_data (Some x) = object_from (
    (codes "action", string (action_word x.task.action)) ∷ (codes "since", natural_data x.since)
    ∷ (codes "timeout", natural_data x.timeout) ∷ [])

-- since when a condition holds, and whether at least since then
abbrev pub since_data : Option Since → Data
since_data None = null
since_data (Some since) = natural_data since.moment

abbrev pub is_at_least : Option Since → Bool
is_at_least None = false
is_at_least (Some since) = since.at_least

-- whether an executor has the journal, where that is known
abbrev pub executor_data : Option Bool → Data
executor_data None = null
executor_data (Some there) = boolean there

-- the status of a resource, with the reason that is known for its last failure, and what it waits for
abbrev pub status_data : StatusOptions → Row → Data
status_data options r = object_from (
    (codes "at_least", boolean (is_at_least r.since)) ∷ (codes "executor", executor_data options.executor)
    ∷ (codes "failed", failure_data (reason_of options r.id) r.failed) ∷ (codes "held", reason_data (wait_of options r.id))
    ∷ (codes "id", string r.id) ∷ (codes "identity", reason_data (option_map (λ t. t.now) options.identity))
    ∷ (codes "queued", natural_data r.queued) ∷ (codes "running", running_data r.running)
    ∷ (codes "since", since_data r.since) ∷ (codes "state", string (condition_word r.condition)) ∷ [])

-- the line of a resource, if it is shown
abbrev pub status_line : StatusOptions → Row → List ℕ
status_line options r = if r.is_shown then compact_text (status_data options r) ++ 10 ∷ [] else []

-- the lines of the resources that are shown, in order of registration
abbrev pub status_lines : StatusOptions → List Row → List ℕ
status_lines options rows = flat_map (status_line options) rows

-- the replies to `info` and `history` of a resource, if it is shown
abbrev pub row_lines : State → Row → List ℕ
row_lines s r = if r.is_shown then resource_lines s r.id else []

-- what `show` prints, of all resources or of those that are shown
abbrev pub prefix_lines : StatusOptions → State → List Row → List ℕ
prefix_lines options s rows =
    if (length options.ids.now == 0) && not options.only_bad then shown s else flat_map (row_lines s) rows

-- this is all that a status prints of these rows for a program
abbrev pub IsLinesOf : StatusOptions → State → List Row → List ℕ → Type 0
IsLinesOf options s rows text = text ≡ prefix_lines options s rows ++ status_lines options rows

-- this is what a status prints of these rows; no contract says the words of a table
abbrev pub IsText : StatusOptions → State → List Row → List ℕ → Type 0
IsText options s rows text = MatchBool options.json (IsLinesOf options s rows text) ⊤
