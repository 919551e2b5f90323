-- The promise of one run over a pair of files, whatever was before it, and at whatever moment it was stopped.
use Rattle.std.specs.Prelude.{◌≡◌, ◌≤◌, ℕ, List, ◌∷◌, ◌++◌, Some}
use Rattle.ocf_types.specs.Kinds.{Event}
use Rattle.ocf_model.specs.State.{State, after_all}
use Rattle.disk_model.specs.Disk.{DiskView}
use Rattle.disk_model.specs.Image.{Image}
use Rattle.exec_journal.specs.Found.{FoundAs}
use Rattle.exec_journal.specs.Journal.{JournalView}
use Rattle.exec_journal.specs.StoreViews.{store_view}
use Rattle.executor.specs.Openings.{closed_pair}
use Rattle.executor.specs.declared.opening.OpenError.{OpenError}
use Rattle.executor_laws.specs.Behaves.{Behaves}
use Rattle.executor_laws.specs.Incarnations.{AreIncarnations, InOpening, Incarnation, Lasted, SurvivingEvents, first_store, last_store}
use Rattle.executor.specs.Exchanges.{Exchange}
use Rattle.executor_laws.specs.OnFiles.{FilesGoOn, FilesLeave}
use Rattle.executor_laws.specs.Promise.{IsKept}
use Rattle.executor_laws.specs.Runs.{IsRun, Returned, Run, in_opening, stopped, stopped_lasts}
use Rattle.executor_laws.specs.SeenIncarnations.{seen}

-- The promise of one pair that a history may have left, as `promise` says it: there is one list of events after which the pair is found; it
-- is what remains of the history and of its behaviour, and it keeps what was said.
abbrev pub IsPromised : {D : Type 0} → (view : D → DiskView) → (start : State) → (xs : List (Incarnation (JournalView D)))
    → AreIncarnations (store_view view) (FilesGoOn view start) xs → Image → Type 0
IsPromised view start xs are c = (zs : List Event) × FoundAs (after_all start zs) c
    × Behaves start (seen (store_view view) (FilesGoOn view start) xs are) zs × SurvivingEvents start xs zs
    × IsKept start (seen (store_view view) (FilesGoOn view start) xs are) zs

-- After whatever history may have left the pair that it was handed, this incarnation is the next one, if its disk was honest to its end;
-- and each pair that its crash may leave has the promise of the longer history.
abbrev pub KeepsPromiseNext : {D : Type 0} → (view : D → DiskView) → (x : Incarnation (JournalView D)) → Lasted (store_view view) x → Type 0
KeepsPromiseNext {D} view x lasts = (start : State) (older : List (Incarnation (JournalView D)))
    (are : AreIncarnations (store_view view) (FilesGoOn view start) older) (files : FilesGoOn view start older (first_store x))
    (honest : (view (last_store x).disk).honest) (c : Image)
    → FilesLeave view start (x ∷ older) c → IsPromised view start (x ∷ older) (are, files, lasts, honest) c

-- Each pair of this disk is one that the crash of the incarnation may have left: so what opens it goes on from the longer history.
abbrev pub LeavesFiles : {D : Type 0} → (D → DiskView) → Incarnation (JournalView D) → D → Type 0
LeavesFiles {D} view x disk =
    (start : State) (older : List (Incarnation (JournalView D))) → (view disk).honest → FilesGoOn view start (x ∷ older) (closed_pair disk)

-- A run over a pair of files keeps the promise.
pub record KeepsPromise {D : Type 0} (view : D → DiskView) (r : Run (JournalView D)) : Type 0 where
  -- its executor was opened over the pair, and these were its calls
  pub is : IsRun (store_view view) r
  -- if it was stopped in its opening
  pub opening_lasts : Lasted (store_view view) (in_opening r)
  pub opening_keeps : KeepsPromiseNext view (in_opening r) opening_lasts
  -- if it was stopped later: some of its calls had returned by then, and these may be any of the first ones
  pub returned : (first later : List Exchange) → first ++ later ≡ r.calls → Returned (store_view view) r first later
  pub keeps : (first later : List Exchange) (x : Returned (store_view view) r first later) (stop : ℕ)
      (following : (view x.executor.store.disk).clock ≤ stop)
      → KeepsPromiseNext view (stopped (store_view view) r first later x stop) (stopped_lasts (store_view view) r first later is x stop following)
  -- and what opens the pair that it left at its end goes on from it, whenever it counts as stopped
  pub left : (first later : List Exchange) (x : Returned (store_view view) r first later) (stop : ℕ)
      → stop ≤ (view r.last.store.disk).clock → LeavesFiles view (stopped (store_view view) r first later x stop) r.last.store.disk

-- an opening that was refused, as an incarnation: from one disk to another, at this moment and for this cause
abbrev pub refused : {D : Type 0} → D → D → ℕ → OpenError → Incarnation (JournalView D)
refused disk last now why = InOpening (closed_pair disk) (closed_pair last) now (Some why)

-- An opening over a pair of files that was refused keeps the promise, at whatever moment it was stopped.
pub record RefusalKeepsPromise {D : Type 0} (view : D → DiskView) (disk last : D) (now : ℕ) (why : OpenError) : Type 0 where
  pub lasts : Lasted (store_view view) (refused disk last now why)
  pub keeps : KeepsPromiseNext view (refused disk last now why) lasts
  pub left : LeavesFiles view (refused disk last now why) last
