-- The view of a disk of files.
use Rattle.std.specs.Prelude.{◌≡◌, ◌⊎◌, ℕ, ◌<◌, ◌≤◌, List, length, Option, option_map, Result, OnErr, OnOk}
use Rattle.ocf_types.specs.declared.part.Part.{Part}
use Rattle.disk_model.specs.Image.{Image, part_limit}
use Rattle.disk_model.specs.Runs.{AllSynced}
use Rattle.disk_model.specs.Disk.{LAST, DiskView}
use Rattle.disk_model.specs.declared.disk.DiskFault.{DiskFault}
use Rattle.file_disk.specs.Log.{log_view}
use Rattle.file_disk.specs.Record.{Noted}
use Rattle.file_disk.specs.declared.call.Call.{Call}
use Rattle.file_disk.specs.declared.disk.FileDisk.{FileDisk}
use Rattle.file_disk.specs.declared.error.FileError.{FileError}

module _ {R M D : Type 0} where
  -- the view of the disk at this moment, by the record of its calls
  abbrev pub view_of : FileDisk R M D → DiskView
  view_of d = log_view d.log

  -- the record has one more call: this one, with the bytes that were read or written
  abbrev pub Notes : Call → List ℕ → FileDisk R M D → FileDisk R M D → Type 0
  Notes call bytes old new = Noted call bytes old.log.calls new.log.calls

  -- no further call is made: one failed, or the count of calls is at its last value
  abbrev pub IsStopped : FileDisk R M D → Type 0
  IsStopped d = (0 < (view_of d).failures) ⊎ (LAST ≤ (view_of d).clock)

  -- a disk that was just opened: it is honest, all is synced, a crash at any moment leaves what reads, and no call was made
  pub record IsFresh (d : FileDisk R M D) : Type 0 where
    pub honest : (view_of d).honest
    pub synced : AllSynced (view_of d)
    pub since : (t : ℕ) (c : Image) → (view_of d).since t c → c ≡ (view_of d).reads
    pub short_a : length (view_of d).reads.a ≤ part_limit
    pub short_b : length (view_of d).reads.b ≤ part_limit
    pub clock : (view_of d).clock ≡ 0
    pub failures : (view_of d).failures ≡ 0

  -- the first error of a system call
  abbrev pub first_error : FileDisk R M D → Option FileError
  first_error d = d.first_error

  -- the part whose file that error was of
  abbrev pub first_part : FileDisk R M D → Option Part
  first_part d = option_map (λ e. e.part) d.first_error

  -- the effect of a call on the first error: one that failed sets it, so that P holds of its part, and no other changes it
  pub record ReportsFault {T : Type 0} (P : Option Part → Type 0) (old new : FileDisk R M D) (result : Result T DiskFault) : Type 0 where
    pub done : OnOk result (first_part new ≡ first_part old)
    pub failed : (IsStopped old → ⊥) → OnErr result (P (first_part new))
    pub stopped : IsStopped old → first_part new ≡ first_part old
