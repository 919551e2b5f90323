-- Openings over a pair of files: what is found, and the effect on the disk.
use Rattle.std.specs.Prelude.{◌≡◌, ◌⊎◌, ℕ, ◌<◌, ◌≤◌, false, List}
use Rattle.ocf_model.specs.Boot.{any_busy}
use Rattle.ocf_model.specs.State.{State}
use Rattle.ocf_types.specs.declared.notice.Notice.{Notice}
use Rattle.disk_model.specs.Image.{Image}
use Rattle.disk_model.specs.Runs.{CrashesTo}
use Rattle.disk_model.specs.Disk.{Increased, Passed, Unwritten, DiskView}
use Rattle.two_parts.specs.declared.damage.Damage.{Damage}
use Rattle.child_model.specs.Children.{AllEnded, ChildrenView}
use Rattle.exec_journal.specs.Found.{FoundAs, HasDamage, IsToWrite, JournalAt}
use Rattle.exec_journal.specs.Journal.{JournalView}
use Rattle.exec_journal.specs.Opening.{Opens, OpensLike}
use Rattle.exec_journal.specs.Position.{Position, first_position}
use Rattle.exec_journal.specs.Reserve.{AllHaveReserve}
use Rattle.exec_journal.specs.StoreViews.{store_view, unopened}
use Rattle.exec_journal.specs.declared.fault.JournalFault.{JournalFault}
use Rattle.exec_journal.specs.declared.fault.JournalFault.TheVariants as journal
use Rattle.store_model.specs.Crashes.{CrashesTo as StoreCrashesTo}
use Rattle.exec_ledger.specs.Boots.{LacksBoot}
use Rattle.executor.specs.ExecutorView.{ExecutorInvariant, ExecutorView, due_in}
use Rattle.executor.specs.OnStores.{IsOver, Starts, StartsLike}
use Rattle.executor.specs.declared.opening.OpenError.{OpenError}
use Rattle.executor.specs.declared.opening.OpenError.TheVariants as why

-- a pair of files that is not open, as a store
abbrev pub closed_pair : {D : Type 0} → D → JournalView D
closed_pair disk = record { disk = disk; position = first_position }

-- on these parts something is queued or running, and a boot does not fit after the last record
pub record PairLacksReserve (c : Image) : Type 0 where
  pub position : Position
  pub state : State
  pub holds : JournalAt position state c
  pub lacks : LacksBoot position.tail state

-- these parts hold a journal of the second layout in which nothing is queued or running, or a damaged one of either
abbrev pub IsQuietPair : Image → Type 0
IsQuietPair c = (IsToWrite c → ⊥) × ((s : State) → FoundAs s c → any_busy s ≡ false)

-- this pair is found as the state that is found on these parts, or as that state's boot
abbrev pub BootsLike : Image → ℕ → Image → Type 0
BootsLike reads now c = (x : State) × StartsLike (λ s. FoundAs s reads) now x × FoundAs x c

-- The effect of an opening on the disk, done or failed: the journal is opened, if it can be, and then the boot recorded.
pub record OpensDisk {D : Type 0} (view : D → DiskView) (old : D) (new : JournalView D) (now : ℕ) : Type 0 where
  -- at any moment of the first half a crash leaves a pair that it might have left before, or one that is found as the state that
  -- the parts held; from its end on, a pair that it might have left then, or one that is found as that state or its boot
  pub mid : D
  pub opens : Opens (view old) (view mid)
  pub later : Passed (view mid) (view new.disk)
  pub booted : (view new.disk).honest → (c : Image) → (view new.disk).since (view mid).clock c
      → (view mid).now c ⊎ BootsLike (view old).reads now c
  -- as a store, at any moment of both: a state that a crash might have left before, or its boot. The pair opens, with its reserve,
  -- where each pair that a crash might have left before does
  pub crash : StoreCrashesTo (unopened (view old)) (store_view view new) (StartsLike ((unopened (view old)).leaves (view old).clock) now)
  -- nothing is written on a journal of the second layout in which nothing is queued or running, nor on a damaged pair
  pub unwritten : ((view old).honest → IsQuietPair (view old).reads) → Unwritten (view old) (view new.disk)

-- The executor was opened: from one disk and these children, and with these notices, which it remembers.
pub record Opened {D : Type 0} (view : D → DiskView) (old : D) (from : ChildrenView) (now : ℕ) (x : ExecutorView (JournalView D))
    (was_running was_queued : List Notice) : Type 0 where
  pub over : IsOver from x
  pub sound : ExecutorInvariant (store_view view) x
  pub starts : (view x.store.disk).honest → Starts (λ s. FoundAs s (view old).reads) now x.state (due_in x) was_running was_queued
  pub opening_report : x.opening_report ≡ record { interrupted = was_running; dropped = was_queued }
  pub did : OpensDisk view old x.store now
  -- the boot fitted
  pub fits : (view x.store.disk).honest → PairLacksReserve (view old).reads → ⊥

-- the children were started for another journal: the last run is not below the next one of the state that is found
pub record IsForeign (c : Image) (from : ChildrenView) : Type 0 where
  pub state : State
  pub found : FoundAs state c
  pub later : state.next_run ≤ from.last_run

-- the children were started for the journal that is found: the last run is below its next one
pub record IsOwn (c : Image) (from : ChildrenView) : Type 0 where
  pub state : State
  pub found : FoundAs state c
  pub earlier : from.last_run < state.next_run

-- The executor was not opened: from one disk and one view of the children to others.
pub record NotOpened {D : Type 0} (view : D → DiskView) (old new : D) (from to : ChildrenView) (now : ℕ) (fault : OpenError) : Type 0 where
  pub did : OpensDisk view old (closed_pair new) now
  -- the children are as they were, or given up; they are not given up where the pair is damaged, nor where they are another
  -- journal's
  pub children : (to ≡ from) ⊎ AllEnded from to
  pub untouched : (d : Damage) → fault ≡ why.Damaged d → to ≡ from
  pub foreign : fault ≡ why.Foreign → (to ≡ from) × ((view new).honest → IsForeign (view old).reads from)
  pub spared : (view new).honest → IsForeign (view old).reads from → to ≡ from
  -- they were given up where a boot did not fit
  pub full_given_up : fault ≡ why.Full → AllEnded from to
  -- they are as they were and no boot was recorded, or they were given up as those of the journal that is found
  pub kept_unbooted : ((to ≡ from) × Opens (view old) (view new)) ⊎ (AllEnded from to × ((view new).honest → IsOwn (view old).reads from))
  -- damage is reported as it was found, and a disk fault has a cause
  pub damaged : (view new).honest → (d : Damage) → fault ≡ why.Damaged d → HasDamage (view old).reads d
  pub cause : fault ≡ why.Disk → Increased (view old).failures (view new).failures
  -- full only where a boot is needed and does not fit, and the children are this journal's; so never where each pair that a
  -- crash might have left before has its reserve
  pub full : (view new).honest → fault ≡ why.Full → PairLacksReserve (view old).reads
  pub not_foreign : (view new).honest → fault ≡ why.Full → IsForeign (view old).reads from → ⊥
  pub never_full : ((view old).honest → AllHaveReserve (view old)) → (view new).honest → fault ≡ why.Full → ⊥
  -- a boot may be recorded only where the device failed, and not before foreign children are refused: otherwise the journal was
  -- opened at most, which writes only where a journal is made, or one of the first layout is migrated
  pub unbooted : (fault ≡ why.Disk → ⊥) → Opens (view old) (view new)
  pub foreign_unbooted : ((view new).honest → IsForeign (view old).reads from) → CrashesTo (view old) (view new) (OpensLike (view old))

-- why the journal was not opened, as the executor reports it
abbrev pub reported_fault : JournalFault → OpenError
reported_fault journal.Disk = why.Disk
reported_fault (journal.Damaged damage) = why.Damaged damage
reported_fault journal.Memory = why.Memory
