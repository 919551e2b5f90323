-- The faults that end the program: their exit statuses, and what they come from.
use Rattle.std.specs.Prelude.{ℕ, ⊤, Bool, IsTrue, Result, Ok, Err}
use Rattle.exec_journal.specs.declared.fault.JournalFault.{JournalFault}
use Rattle.exec_journal.specs.declared.fault.JournalFault.TheVariants as journal
use Rattle.exec_lines.specs.declared.io_fault.IoFault.{IoFault}
use Rattle.exec_lines.specs.declared.io_fault.IoFault.TheVariants as io
use Rattle.exec_faults.specs.declared.fault.Fault.{Fault}
use Rattle.exec_faults.specs.declared.fault.Fault.TheVariants as fault

-- the exit status of the process
abbrev pub status_of : Fault → ℕ
status_of fault.Failed = 1
status_of fault.Usage = 2
status_of fault.Choice = 2
status_of fault.NotText = 2
status_of fault.NoResource = 2
status_of fault.Log = 7
status_of (fault.Damaged damage) = 3
status_of fault.Memory = 4
status_of fault.NotOpened = 5
status_of fault.NoJournal = 9
status_of fault.NotExisting = 9
status_of fault.NotWell = 9
status_of fault.NoExecutor = 10
status_of fault.Disk = 5
status_of fault.Full = 6
status_of fault.InputOrOutput = 7
status_of fault.ReplyMemory = 7
status_of fault.ChildrenIgnored = 8

-- the fault of the program for a journal that was not opened
abbrev pub opening_fault : JournalFault → Fault
opening_fault journal.Disk = fault.Disk
opening_fault (journal.Damaged damage) = fault.Damaged damage
opening_fault journal.Memory = fault.Memory

-- the fault of the program for messages that were not sent
abbrev pub output_fault : IoFault → Fault
output_fault io.InputOrOutput = fault.InputOrOutput
output_fault io.Memory = fault.ReplyMemory

-- how a subcommand may end once it has a disk: well, or by a fault that is neither one of the command line nor one of opening the files
-- of the journal and the log
abbrev pub IsRunEnd : {T : Type 0} → Result T Fault → Type 0
IsRunEnd (Ok done) = ⊤
IsRunEnd (Err fault.Usage) = ⊥
IsRunEnd (Err fault.Choice) = ⊥
IsRunEnd (Err fault.NotText) = ⊥
IsRunEnd (Err fault.Log) = ⊥
IsRunEnd (Err fault.NotOpened) = ⊥
IsRunEnd (Err fault.NoJournal) = ⊥
IsRunEnd (Err fault.NotExisting) = ⊥
IsRunEnd (Err _) = ⊤

-- a fault of memory occurs only where the allocator refuses growths
abbrev pub HasCause : Bool → Fault → Type 0
HasCause refuses fault.Memory = IsTrue refuses
HasCause refuses fault.ReplyMemory = IsTrue refuses
HasCause refuses _ = ⊤
