-- Histories of incarnations of an executor.
use Rattle.std.specs.Prelude.{◌≡◌, ℕ, Bool, IsTrue, List, [], ◌∷◌, ◌++◌, length, map, Option, Some, None, ⊤}
use Rattle.ocf_types.specs.Kinds.{Event}
use Rattle.ocf_model.specs.Answer.{Reply}
use Rattle.ocf_model.specs.State.{after_all, empty}
use Rattle.disk_model.specs.Image.{Image}
use Rattle.disk_model.specs.Disk.{DiskView}
use Rattle.exec_journal.specs.Found.{FoundAs}
use Rattle.exec_journal.specs.Journal.{JournalView}
use Rattle.exec_journal.specs.StoreViews.{store_view}
use Rattle.store_model.specs.StoreView.{StoreView}
use Rattle.executor.specs.Exchanges.{Exchange}
use Rattle.executor_laws.specs.Incarnations.{InOpening, Up, AreIncarnations, Lasted, Incarnation, first_store, last_store}
use Rattle.executor_laws.specs.OnFiles.{CrashLeavesFiles, FilesGoOn}
use Rattle.child_model.specs.Children.{ChildrenView}
use Rattle.executor.specs.Openings.{NotOpened, closed_pair}
use Rattle.executor.specs.Sessions.{Input}
use Rattle.executor.specs.declared.opening.OpenError.{OpenError}
use Rattle.executor.specs.declared.opening.OpenError.TheVariants as why
use Rattle.executor_laws.specs.Promise.{IsKept}
use Rattle.executor_laws.specs.Behaves.{Behaves, Opening, Seen, Serving}
use Rattle.executor_laws.specs.SeenIncarnations.{seen}

-- the calls of an incarnation: none if the executor was not opened
abbrev pub calls_of : {S : Type 0} → (view : S → StoreView) → (x : Incarnation S) → Lasted view x → List Exchange
calls_of view (InOpening old new now end) sat = []
calls_of view (Up x) sat = sat.calls ++ sat.begun

-- the calls of each incarnation of a history, the last one first
abbrev pub calls_in : {S : Type 0} → (view : S → StoreView) → (goes_on : List (Incarnation S) → S → Type 0) → (incarnations : List (Incarnation S))
    → AreIncarnations view goes_on incarnations → List (List Exchange)
calls_in view goes_on [] is = []
calls_in view goes_on (x ∷ older) is = calls_of view x is.2 ∷ calls_in view goes_on older is.0

-- What a machine answered: each of its inputs got a reply, in their order; or, where its executor was not opened, none did, and there is a
-- cause for that.
abbrev pub AreAnswered : (OpenError → Type 0) → Option OpenError → List Input → List Reply → Type 0
AreAnswered cause None inputs replies = length replies ≡ length inputs
AreAnswered cause (Some fault) inputs replies = (replies ≡ []) × cause fault

-- The executor of a machine was not opened, from one disk to another: a fault of the disk, or of memory, has a cause.
pub record IsRefused {D : Type 0} (view : D → DiskView) (refuses : Bool) (old new : D) (from : ChildrenView) (now : ℕ) (fault : OpenError) : Type 0 where
  pub to : ChildrenView
  pub refused : NotOpened view old new from to now fault
  pub memory : fault ≡ why.Memory → IsTrue refuses

-- Why an executor may not be opened after a history: the device failed, memory was refused, or the agent processes are those of another
-- journal. It is never for damage, nor for lack of space.
abbrev pub MayRefuse : Bool → OpenError → Type 0
MayRefuse refuses why.Disk = ⊤
MayRefuse refuses (why.Damaged d) = ⊥
MayRefuse refuses why.Memory = IsTrue refuses
MayRefuse refuses why.Foreign = ⊤
MayRefuse refuses why.Full = ⊥

-- an incarnation with these calls, from one disk to another, which crashed at its last moment
pub record IsIncarnation {D : Type 0} (view : D → DiskView) (calls : List Exchange) (old new : D) : Type 0 where
  pub incarnation : Incarnation (JournalView D)
  pub sat : Lasted (store_view view) incarnation
  pub made : calls_of (store_view view) incarnation sat ≡ calls
  pub first : first_store incarnation ≡ closed_pair old
  pub last : (last_store incarnation).disk ≡ new
  pub leaves : (view new).honest → (c : Image) → (view new).since (view new).clock c → CrashLeavesFiles view incarnation c

-- a history that begins without a journal, whose incarnations made these calls, the last one first; the disk holds only a crash
-- image of it
pub record IsHistory {D : Type 0} (view : D → DiskView) (calls : List (List Exchange)) (disk : D) : Type 0 where
  pub incarnations : List (Incarnation (JournalView D))
  pub is : AreIncarnations (store_view view) (FilesGoOn view empty) incarnations
  pub made : calls_in (store_view view) (FilesGoOn view empty) incarnations is ≡ calls
  pub goes_on : FilesGoOn view empty incarnations (closed_pair disk)

-- the calls that were seen of an incarnation
abbrev pub seen_calls : Seen → List Exchange
seen_calls (Opening now end) = []
seen_calls (Serving x) = map (λ l. l.exchange) (x.calls ++ x.begun)

-- The promise for such a history: the disk holds the state after a list of events; what was seen of the history, which is these very
-- calls, is a behaviour of the machine with these events, and keeps the promise.
pub record IsPromised {D : Type 0} (view : D → DiskView) (calls : List (List Exchange)) (disk : D) : Type 0 where
  pub history : IsHistory view calls disk
  pub events : List Event
  pub found : FoundAs (after_all empty events) (view disk).reads
  pub calls_seen : map seen_calls (seen (store_view view) (FilesGoOn view empty) history.incarnations history.is) ≡ calls
  pub runs : Behaves empty (seen (store_view view) (FilesGoOn view empty) history.incarnations history.is) events
  pub kept : IsKept empty (seen (store_view view) (FilesGoOn view empty) history.incarnations history.is) events
