-- What the program does.
use Rattle.std.specs.Prelude.{◌≡◌, ◌⊎◌, ◌||◌, ℕ, ⊤, true, false, IfErr, IsTrue, List, [], Option, Some, None, option_map, is_some, Result, Ok, Err}
use Rattle.std.specs.declared.alloc.Global.{Global}
use Rattle.file_disk.specs.RamDisk.{IsFresh, view_of}
use Rattle.file_disk.specs.declared.ram.RamDisk.{RamDisk}
use Rattle.exec_options.specs.Faults.{IsFault}
use Rattle.exec_options.specs.Arguments.{Gives, GivesOnce, is_once}
use Rattle.exec_options.specs.declared.fault.ArgumentsFault.{ArgumentsFault}
use Rattle.exec_options.specs.declared.fault.ArgumentsFault.TheVariants as arguments_fault
use Rattle.exec_options.specs.declared.once.OnceOptions.{OnceOptions}
use Rattle.exec_options.specs.declared.options.JournalLocation.{JournalLocation}
use Rattle.exec_options.specs.declared.options.JournalLocation.TheVariants.{Directory, Memory}
use Rattle.exec_options.specs.declared.options.Options.{Options}
use Rattle.exec_options.specs.declared.options.Subcommand.{Subcommand}
use Rattle.exec_options.specs.declared.options.Subcommand.TheVariants as subcommand
use Rattle.exec_faults.specs.Faults.{HasCause}
use Rattle.exec_faults.specs.declared.fault.Fault.{Fault}
use Rattle.exec_faults.specs.declared.fault.Fault.TheVariants as fault
use Rattle.exec_host.specs.Asked.{Asked, System}
use Rattle.exec_program.specs.Runs.{RunsOn}
use Rattle.exec_program.specs.Starts.{IsWrittenAs, with_status}

-- a view of a journal shows what the options ask for, of that directory or of memory, and ends as that did
abbrev pub Looks : {F L A S R W K H : Type 0} → Asked F L A S R W K H → Options → JournalLocation → Result Unit Fault → Type 0
Looks asked o (Directory directory) ended = asked.shown o (Some directory.now) ended
Looks asked o Memory ended = asked.shown o None ended

-- How the program ends in `run` and `serve`, with agents that write to this log: over the files of the directory, which may not be there,
-- and which were closed as the run left them; or over a fresh disk in memory. Over a disk it ends for lack of memory only where the
-- allocator refuses growths.
abbrev pub RunsAt : (s : System) → Options → s.Log → JournalLocation → Result Unit Fault → Type 0
RunsAt s o log (Directory directory) ended =
    ((disk left : s.Files) × s.asked.files directory.now o.any_owner disk × s.asked.closed left × RunsOn s s.disk o log disk left ended
    × IfErr ended (HasCause s.refuses))
    ⊎ ((f : Fault) × s.asked.no_files directory.now o.any_owner f × (ended ≡ Err f))
RunsAt s o log Memory ended =
    (disk left : RamDisk Global) × IsFresh (record { a = []; b = [] }) disk × RunsOn s view_of o log disk left ended × IfErr ended (HasCause s.refuses)

-- the same where the end of an agent process would be seen, and agents write where the options say
abbrev pub RunsFor : System → Options → Result Unit Fault → Type 0
RunsFor s o ended =
    ((ended ≡ Err fault.ChildrenIgnored) × s.asked.ignored true)
    ⊎ (((ended ≡ Err fault.Log) × ((is_some o.log || is_some o.logs) ≡ true)
    × s.asked.no_log (option_map (λ t. t.now) o.log) (option_map (λ t. t.now) o.logs))
    ⊎ ((log : s.Log) × s.asked.ignored false × s.asked.log (option_map (λ t. t.now) o.log) (option_map (λ t. t.now) o.logs) log
    × RunsAt s o log o.journal ended))

-- what a subcommand does with a journal, by these options
abbrev pub DoesAs : System → Options → Subcommand → Result Unit Fault → Type 0
DoesAs s o subcommand.Run ended = RunsFor s o ended
DoesAs s o subcommand.Serve ended = RunsFor s o ended
DoesAs s o _ ended = Looks s.asked o o.journal ended

-- where arguments give no options and a text answers them, that text is printed
abbrev pub Prints : {F L A S R W K H : Type 0} → Asked F L A S R W K H → ArgumentsFault → Type 0
Prints asked (arguments_fault.Help text) = asked.printed text
Prints asked (arguments_fault.Usage text) = asked.printed text
Prints asked _ = ⊤

-- What the program does with these arguments, where the environment names this directory for a journal, and how it ends: with a journal;
-- by one action, whose exit status it takes; or, where they give no options, with a text or a fault. The fault is lack of memory only
-- where the allocator refuses growths.
abbrev pub Does : System → Option (List ℕ) → List (List ℕ) → Result ℕ Fault → Type 0
Does s named arguments ended =
    ((o : Options) × Gives named arguments o × ((r : Result Unit Fault) × DoesAs s o o.subcommand r × (ended ≡ with_status r)))
    ⊎ (((o : OnceOptions) × GivesOnce named arguments o × ((status : ℕ) × s.asked.once o status × (ended ≡ Ok status)))
    ⊎ ((f : ArgumentsFault) × IsFault named arguments f × (f ≡ arguments_fault.Memory → IsTrue s.refuses)
    × IsWrittenAs (is_once arguments) f ended × Prints s.asked f))
