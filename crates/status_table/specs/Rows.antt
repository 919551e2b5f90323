-- What is shown of each resource, and how a status ends.
use Rattle.std.specs.Prelude.{◌==◌, ℕ, Bool, false, ◌&&◌, ◌||◌, not, List, map, length, Option, Some, None}
use Rattle.std.specs.List.{list_any}
use Rattle.std.specs.Borrow.{Bor}
use Rattle.std.specs.Str.{bytes_eq}
use Rattle.ocf_model.specs.Resource.{Resource}
use Rattle.ocf_model.specs.State.{State}
use Rattle.resource_status.specs.Conditions.{condition_by, is_bad, since_by}
use Rattle.resource_status.specs.Facts.{recorded_at}
use Rattle.resource_status.specs.declared.condition.Condition.{Condition}
use Rattle.resource_status.specs.declared.condition.Recorded.{Recorded}
use Rattle.status_table.specs.declared.options.StatusOptions.{StatusOptions}
use Rattle.status_table.specs.declared.rows.Row.{Row}

-- one of these ids is that of the resource
abbrev pub is_named : List (Bor (List ℕ)) → List ℕ → Bool
is_named ids id = list_any (λ named. bytes_eq named.now id) ids

-- the resource with this id is asked for: it is named, or none is
abbrev pub is_asked_for : StatusOptions → List ℕ → Bool
is_asked_for options id = (length options.ids.now == 0) || is_named options.ids.now id

-- the resource with this id and condition is shown
abbrev pub is_shown : StatusOptions → List ℕ → Condition → Bool
is_shown options id c = is_asked_for options id && (not options.only_bad || is_bad c)

-- the condition of a resource: by what the records hold of it, and its last failure
abbrev pub condition_in : List (List ℕ × Recorded) → List ℕ × Resource → Condition
condition_in recorded e = condition_by (recorded_at recorded e.0) e.1.history.failed

-- what is shown of a resource
abbrev pub row_of : StatusOptions → List (List ℕ × Recorded) → List ℕ × Resource → Row
row_of options recorded e = record {
  id = e.0;
  is_shown = is_shown options e.0 (condition_in recorded e);
  condition = condition_in recorded e;
  since = since_by (recorded_at recorded e.0) e.1.history.failed;
  running = e.1.history.running;
  queued = length e.1.history.queue;
  failed = e.1.history.failed;
}

-- what is shown of each resource, in order of registration
abbrev pub rows_of : StatusOptions → List (List ℕ × Recorded) → State → List Row
rows_of options recorded s = map (row_of options recorded) s.resources

-- an executor is known not to be there
abbrev pub is_left_by : Option Bool → Bool
is_left_by (Some there) = not there
is_left_by None = false

-- it is known that no executor has the journal
abbrev pub is_left : StatusOptions → Bool
is_left options = is_left_by options.executor

-- a resource that is shown needs attention
abbrev pub is_any_bad : List Row → Bool
is_any_bad rows = list_any (λ r. r.is_shown && is_bad r.condition) rows
