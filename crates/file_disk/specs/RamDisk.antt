-- The view of a disk in memory.
use Rattle.std.specs.Prelude.{◌≡◌, ◌⊎◌, ℕ, ◌<◌, ◌≤◌}
use Rattle.disk_model.specs.Image.{Image}
use Rattle.disk_model.specs.Runs.{AllSynced}
use Rattle.disk_model.specs.Disk.{LAST, DiskView}
use Rattle.file_disk.specs.Log.{log_view}
use Rattle.file_disk.specs.declared.ram.RamDisk.{RamDisk}

module _ {M : Type 0} where
  -- the view of the disk at this moment, by the record of its calls
  abbrev pub view_of : RamDisk M → DiskView
  view_of d = log_view d.log

  -- no further call is made: one failed, or the count of calls is at its last value
  abbrev pub IsStopped : RamDisk M → Type 0
  IsStopped d = (0 < (view_of d).failures) ⊎ (LAST ≤ (view_of d).clock)

  -- a disk that was just made: it reads as this pair, all is synced, a crash at any moment leaves it, and no call was made
  pub record IsFresh (pair : Image) (d : RamDisk M) : Type 0 where
    pub reads : (view_of d).reads ≡ pair
    pub synced : AllSynced (view_of d)
    pub since : (t : ℕ) (c : Image) → (view_of d).since t c → c ≡ (view_of d).reads
    pub clock : (view_of d).clock ≡ 0
    pub failures : (view_of d).failures ≡ 0
