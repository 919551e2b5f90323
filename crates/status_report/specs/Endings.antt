-- How a status ends.
use Rattle.std.specs.Prelude.{◌≡◌, ◌⊎◌, ℕ, ◌<◌, ◌&&◌, if◌then◌else◌, List, length, Option, Result, Ok, Err}
use Rattle.std.specs.Borrow.{Bor}
use Rattle.std.specs.List.{AllByRecursion, Any}
use Rattle.std.specs.Io.KnownBytes.{Appends}
use Rattle.ocf_model.specs.Indexes.{id_at}
use Rattle.ocf_model.specs.State.{State}
use Rattle.disk_model.specs.Image.{Image}
use Rattle.exec_journal.specs.Found.{FoundAs, HasDamage}
use Rattle.two_parts.specs.declared.damage.Damage.{Damage}
use Rattle.journal_log.specs.RecordedOn.{HasRecorded}
use Rattle.resource_status.specs.declared.condition.Recorded.{Recorded}
use Rattle.exec_faults.specs.declared.fault.Fault.{Fault}
use Rattle.exec_faults.specs.declared.fault.Fault.TheVariants as fault
use Rattle.status_table.specs.Rows.{is_any_bad, is_left, rows_of}
use Rattle.status_report.specs.StatusLines.{IsText}
use Rattle.status_table.specs.declared.options.StatusOptions.{StatusOptions}
use Rattle.status_table.specs.declared.rows.Row.{Row}

-- a resource with this id is registered
abbrev pub IsRegistered : State → List ℕ → Type 0
IsRegistered s id = (index : ℕ) × (index < length s.resources) × (id_at s index ≡ id)

-- each resource that is named is registered
abbrev pub AllRegistered : State → List (Bor (List ℕ)) → Type 0
AllRegistered s ids = AllByRecursion (λ id. IsRegistered s id.now) ids

-- a resource that is named is not registered
abbrev pub IsMissed : State → List (Bor (List ℕ)) → Type 0
IsMissed s ids = Any (λ id. ¬ IsRegistered s id.now) ids

-- how a status ends whose text is written
abbrev pub end_of : StatusOptions → List Row → Result (Unit {0}) Fault
end_of options rows =
    if options.alarms && is_left options then Err fault.NoExecutor
    else (if options.alarms && is_any_bad rows then Err fault.NotWell else Ok tt)

-- a text of this kind is written, or why it is not
abbrev pub IsWritten : (List ℕ → Type 0) → Option (List ℕ) → Option (List ℕ) → Result (Unit {0}) Fault → Type 0
IsWritten is old new ended =
    ((ended ≡ Ok tt) × ((text : List ℕ) × is text × Appends old new text))
    ⊎ ((ended ≡ Err fault.InputOrOutput) ⊎ (ended ≡ Err fault.ReplyMemory))

-- the rows of a state are written, and the status ends by them, if each resource that is named is registered
abbrev pub IsShown : StatusOptions → State → List Row → Option (List ℕ) → Option (List ℕ) → Result (Unit {0}) Fault → Type 0
IsShown options s rows old new ended =
    AllRegistered s options.ids.now × ((text : List ℕ) × IsText options s rows text × Appends old new text)
    × (ended ≡ end_of options rows)

-- nothing is written, since a resource that is named is not registered
abbrev pub IsRefused : StatusOptions → State → Option (List ℕ) → Option (List ℕ) → Result (Unit {0}) Fault → Type 0
IsRefused options s old new ended = IsMissed s options.ids.now × (new ≡ old) × (ended ≡ Err fault.NoResource)

-- what is written of a state and of what the records hold, by the result
abbrev pub EndsWith : StatusOptions → State → List (List ℕ × Recorded) → Option (List ℕ) → Option (List ℕ) → Result (Unit {0}) Fault → Type 0
EndsWith options s recorded old new ended =
    IsShown options s (rows_of options recorded s) old new ended
    ⊎ (IsRefused options s old new ended ⊎ ((ended ≡ Err fault.InputOrOutput) ⊎ (ended ≡ Err fault.ReplyMemory)))

-- nothing is written, since the journal is not read; damage that is reported is the damage that is found
abbrev pub IsUnread : Image → Option (List ℕ) → Option (List ℕ) → Result (Unit {0}) Fault → Type 0
IsUnread reads old new ended =
    (new ≡ old) × ((ended ≡ Err fault.Disk) ⊎ ((ended ≡ Err fault.Memory)
    ⊎ ((damage : Damage) × HasDamage reads damage × (ended ≡ Err (fault.Damaged damage)))))

-- what a status writes, by the result: what is shown of the state that is found on these parts and of what their records hold, or
-- nothing if they are not read
abbrev pub WritesAs : Image → StatusOptions → Option (List ℕ) → Option (List ℕ) → Result (Unit {0}) Fault → Type 0
WritesAs reads options old new ended =
    IsUnread reads old new ended
    ⊎ ((s : State) × (recorded : List (List ℕ × Recorded)) × FoundAs s reads × HasRecorded reads recorded
    × EndsWith options s recorded old new ended)
