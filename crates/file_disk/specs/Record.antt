-- The view of a record of calls.
use Rattle.std.specs.Prelude.{◌≡◌, ◌+◌, ◌≤◌, ℕ, List, [], ◌∷◌, ◌++◌, length}
use Rattle.ocf_types.specs.declared.part.Part.{Part}
use Rattle.disk_model.specs.Image.{bytes_of, other, part_limit}
use Rattle.disk_model.specs.Parts.{put}
use Rattle.disk_model.specs.Disk.{DiskView}
use Rattle.file_disk.specs.Past.{past_view}
use Rattle.file_disk.specs.declared.call.Call.{Call}
use Rattle.file_disk.specs.declared.call.Call.TheVariants.{Tried, Failed, Refused}
use Rattle.file_disk.specs.declared.record.Record.{Record}

-- the record begins with these bytes in part A and in part B
abbrev pub Begins : List ℕ → List ℕ → Record → Type 0
Begins a b r = (r.first ≡ record { a = a; b = b }) × (r.events ≡ [])

-- these bytes were found in a part, behind those that were found there before, and no call was noted
abbrev pub Found : Part → List ℕ → Record → Record → Type 0
Found part bytes old new = (new.first ≡ put part (bytes_of part old.first ++ bytes) old.first) × (new.events ≡ old.events)

-- the record has one more call: this one
abbrev pub Noted : Call → List ℕ → Record → Record → Type 0
Noted call bytes old new = (new.first ≡ old.first) × (new.events ≡ record { call = call; bytes = bytes } ∷ old.events)

-- at most one part's bytes were found in a part behind those of before, none in the other part, and no call was noted
pub record FoundIn (part : Part) (old new : Record) : Type 0 where
  pub here : length (bytes_of part new.first) ≤ length (bytes_of part old.first) + part_limit
  pub there : bytes_of (other part) new.first ≡ bytes_of (other part) old.first
  pub events : new.events ≡ old.events

-- the view of the disk that the record describes
abbrev pub view_by : Record → DiskView
view_by r = past_view r.first r.events

-- the call failed, or was not made
abbrev pub IsFault : Call → Type 0
IsFault (Tried part at) = Unit {0}
IsFault Failed = Unit {0}
IsFault Refused = Unit {0}
IsFault _ = ⊥

-- the call succeeded
abbrev pub IsDone : Call → Type 0
IsDone (Tried part at) = ⊥
IsDone Failed = ⊥
IsDone Refused = ⊥
IsDone _ = Unit {0}
