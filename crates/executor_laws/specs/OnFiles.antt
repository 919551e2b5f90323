-- Histories of incarnations over a pair of files: the same histories, in which each incarnation goes on from a pair of files.
use Rattle.std.specs.Prelude.{List, [], ◌∷◌}
use Rattle.ocf_model.specs.State.{State}
use Rattle.disk_model.specs.Image.{Image}
use Rattle.disk_model.specs.Disk.{DiskView}
use Rattle.exec_journal.specs.Found.{FoundAs}
use Rattle.exec_journal.specs.Journal.{JournalView}
use Rattle.exec_journal.specs.Reserve.{PairHasReserve}
use Rattle.exec_journal.specs.StoreViews.{store_view}
use Rattle.executor_laws.specs.Incarnations.{Incarnation, last_store, stop_of}

-- a history may begin on this pair: it is found as this state, and has its reserve
abbrev pub BeginsAs : State → Image → Type 0
BeginsAs start c = FoundAs start c × PairHasReserve c

-- the pairs that the crash of an incarnation may have left
abbrev pub CrashLeavesFiles : {D : Type 0} → (D → DiskView) → Incarnation (JournalView D) → Image → Type 0
CrashLeavesFiles view x c = (view (last_store x).disk).since (stop_of (store_view view) x) c

-- the pairs that a history may leave if it begins with this state; its last incarnation comes first in the list
abbrev pub FilesLeave : {D : Type 0} → (D → DiskView) → State → List (Incarnation (JournalView D)) → Image → Type 0
FilesLeave view start [] c = BeginsAs start c
FilesLeave view start (x ∷ older) c = CrashLeavesFiles view x c

-- each pair of this disk is one that a history may leave
abbrev pub FilesGoOn : {D : Type 0} → (D → DiskView) → State → List (Incarnation (JournalView D)) → JournalView D → Type 0
FilesGoOn view start older store = (c : Image) → (view store.disk).now c → FilesLeave view start older c
