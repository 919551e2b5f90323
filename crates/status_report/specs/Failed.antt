-- The resources that have a failed action.
use Rattle.std.specs.Prelude.{◌≡◌, ℕ, ◌&&◌, if◌then◌else◌, List, [], ◌∷◌}
use Rattle.std.specs.List.{flat_map}
use Rattle.std.specs.Option.{is_some}
use Rattle.ocf_model.specs.Resource.{Resource}
use Rattle.ocf_model.specs.State.{State}
use Rattle.disk_model.specs.Image.{Image}
use Rattle.exec_journal.specs.Found.{FoundAs}
use Rattle.status_table.specs.Rows.{is_asked_for}
use Rattle.status_table.specs.declared.options.StatusOptions.{StatusOptions}

-- the id of a resource, if it is asked for and has a failed action
abbrev pub failed_id : StatusOptions → List ℕ × Resource → List (List ℕ)
failed_id options e = if is_asked_for options e.0 && is_some e.1.history.failed then e.0 ∷ [] else []

-- the ids of these resources, in order of registration
abbrev pub failed_ids : StatusOptions → State → List (List ℕ)
failed_ids options s = flat_map (failed_id options) s.resources

-- the ids of these resources in the state that is found on these parts
abbrev pub AreFailed : Image → StatusOptions → List (List ℕ) → Type 0
AreFailed reads options ids = (s : State) × FoundAs s reads × (ids ≡ failed_ids options s)
