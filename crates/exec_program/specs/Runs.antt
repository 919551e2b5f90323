-- A session over a store, which in this program is a journal of two files, and how it ends.
use Rattle.std.specs.Prelude.{◌≡◌, ◌⊎◌, ◌&&◌, ℕ, Bool, true, if◌then◌else◌, List, Result, Ok, Err, is_some}
use Rattle.std.specs.declared.alloc.Global.{Global}
use Rattle.disk_model.specs.Disk.{DiskView}
use Rattle.exec_journal.specs.Journal.{JournalView}
use Rattle.exec_journal.specs.StoreViews.{store_view}
use Rattle.child_model.specs.Children.{ChildrenView}
use Rattle.executor.specs.Openings.{NotOpened, Opened, closed_pair}
use Rattle.executor.specs.ExecutorView.{ExecutorView}
use Rattle.executor.specs.declared.opening.OpenError.{OpenError}
use Rattle.executor.specs.declared.report.Report.{Report}
use Rattle.executor_laws.specs.KeepsPromise.{KeepsPromise, RefusalKeepsPromise}
use Rattle.executor_laws.specs.Runs.{Run}
use Rattle.ocf_types.specs.declared.orphan.Orphan.{Orphan}
use Rattle.exec_options.specs.declared.options.Options.{Options}
use Rattle.exec_faults.specs.declared.fault.Fault.{Fault}
use Rattle.exec_faults.specs.declared.fault.Fault.TheVariants as fault
use Rattle.exec_session.specs.Ends.{ClosesByCalls}
use Rattle.exec_client.specs.ClientView.{ClientView}
use Rattle.exec_client.specs.Failures.{tell_failure}
use Rattle.exec_host.specs.Asked.{AreFresh, Asked, System}
use Rattle.exec_host.specs.Limits.{book_room}
use Rattle.exec_host.specs.declared.lines.LineParts.{LineParts}
use Rattle.exec_program.specs.Starts.{opening_fault}
use Rattle.exec_host.specs.Sites.{site_of}
use Rattle.exec_host.specs.Upkeeps.{upkeep_of}
use Rattle.exec_host.specs.Services.{served_directory, disk_line}
use Rattle.exec_host.specs.Lines.{SessionEnd, RunsLines}

-- how a session counts that ended so, in which something failed or not: with `--strict` a failure is a fault
abbrev pub judged : Options → Bool → Result Unit Fault → Result Unit Fault
judged o failed (Ok done) = if o.strict && failed then Err fault.Failed else Ok done
judged o failed (Err f) = Err f

-- How the program ends after its session: in the same way, which it does after one that broke off only where the served journal is still
-- there; or by its disk where the session broke off and the served journal is gone.
abbrev pub EndsBy : {F L A S R W K H : Type 0} → Asked F L A S R W K H → Options → H → Result Unit Fault → Result Unit Fault → Type 0
EndsBy asked o watch ran ended =
    ((ended ≡ ran) × (ran ≡ Err fault.InputOrOutput → is_some (served_directory o) ≡ true → asked.stays watch))
    ⊎ ((ran ≡ Err fault.InputOrOutput) × (ended ≡ Err fault.Disk) × (is_some (served_directory o) ≡ true) × asked.moved watch × asked.line disk_line)

-- What a session is given before its executor is opened: its agents, which are looked after as the options say and write to this log, with
-- a book of the capacity that a turn needs; the processes that live on; and the time of the opening, which was read after all of these.
pub record PreparedRun (s : System) (o : Options) (log : s.Log) (agents : s.Agents) (lives : List Orphan) (now : ℕ) : Type 0 where
  pub looked_after : s.asked.agents (upkeep_of o) log lives agents
  pub fresh : AreFresh book_room (s.tend agents)
  pub shown : s.asked.moment now

-- the run that the calls of a session were, over a disk, from an opening at some moment
abbrev pub run_of : {D : Type 0} (view : D → DiskView) (disk : D) (now : ℕ) (executor : ExecutorView (JournalView D))
    {client : ClientView (JournalView D)} {last : JournalView D} {children : ChildrenView}
    → ClosesByCalls (store_view view) executor client last children → Run (JournalView D)
run_of view disk now executor closes = record {
  store = closed_pair disk;
  now = now;
  opened = executor;
  calls = closes.holds.calls;
  last = closes.last;
  effects = closes.holds.effects;
}

-- A session over an executor that was just opened: it left this disk, and the program ends like this.
pub record Serves {D : Type 0} (s : System) (view : D → DiskView) (o : Options) (parts : LineParts s.Reader) (watch : s.Watch)
    (executor : ExecutorView (JournalView D)) (left : D) (ended : Result Unit Fault) : Type 0 where
  pub end : SessionEnd (JournalView D) s.Agents
  pub lines : RunsLines s (store_view view) o parts.reader parts.left.items executor end
  pub leaves : left ≡ end.store.disk
  pub ends : EndsBy s.asked o watch (judged o (tell_failure end.sent) end.ran) ended

-- An executor was opened over this disk, at the site that the options name; the session that began then left the other disk, and ended like
-- this. After whatever history may have left the disk, the run is one more incarnation, at whatever moment it is stopped, and keeps the
-- promise (`KeepsPromise`).
pub record Runs {D : Type 0} (s : System) (view : D → DiskView) (o : Options) (log : s.Log) (disk left : D)
    (ended : Result Unit Fault) : Type 0 where
  pub agents : s.Agents
  pub parts : LineParts s.Reader
  pub watch : s.Watch
  pub now : ℕ
  pub executor : ExecutorView (JournalView D)
  pub report : Report Global
  pub holds : PreparedRun s o log agents parts.left.items now
  pub opened : Opened view disk (s.tend agents) now executor report.interrupted.items report.dropped.items
  pub at_site : executor.site ≡ site_of o
  pub reads : s.asked.reader parts.reader
  pub watches : s.asked.watch (served_directory o) watch
  pub serves : Serves s view o parts watch executor left ended
  pub keeps : KeepsPromise view (run_of view disk now executor serves.lines.runs.closes)

-- No executor was opened over this disk, for this cause; the opening left the other disk. It keeps the promise, too.
pub record RunsNot {D : Type 0} (s : System) (view : D → DiskView) (o : Options) (log : s.Log) (disk left : D)
    (ended : Result Unit Fault) : Type 0 where
  pub agents : s.Agents
  pub last_agents : s.Agents
  pub lives : List Orphan
  pub now : ℕ
  pub why : OpenError
  pub holds : PreparedRun s o log agents lives now
  pub refused : NotOpened view disk left (s.tend agents) (s.tend last_agents) now why
  pub ends : ended ≡ Err (opening_fault why)
  pub keeps : RefusalKeepsPromise view disk left now why

-- How the program ends over a disk, and the disk that it leaves: with a session; because no executor was opened; or for lack of memory
-- before the disk was asked for anything.
abbrev pub RunsOn : {D : Type 0} → (s : System) → (D → DiskView) → Options → s.Log → D → D → Result Unit Fault → Type 0
RunsOn s view o log disk left ended =
    Runs s view o log disk left ended ⊎ (RunsNot s view o log disk left ended ⊎ ((ended ≡ Err fault.Memory) × (left ≡ disk)))
