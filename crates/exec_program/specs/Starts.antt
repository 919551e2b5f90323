-- From the arguments to a session.
use Rattle.std.specs.Prelude.{◌≡◌, ◌⊎◌, ◌||◌, ℕ, ⊤, Bool, true, false, List, Option, is_some, Result, Ok, Err}
use Rattle.exec_options.specs.Faults.{IsFault}
use Rattle.exec_options.specs.Arguments.{Gives, GivesOnce, directory_of, is_once}
use Rattle.exec_options.specs.declared.fault.ArgumentsFault.{ArgumentsFault}
use Rattle.exec_options.specs.declared.fault.ArgumentsFault.TheVariants as arguments_fault
use Rattle.exec_options.specs.declared.once.OnceOptions.{OnceOptions}
use Rattle.exec_options.specs.declared.options.Options.{Options}
use Rattle.exec_faults.specs.Faults.{IsRunEnd, status_of}
use Rattle.exec_faults.specs.declared.fault.Fault.{Fault}
use Rattle.exec_faults.specs.declared.fault.Fault.TheVariants as fault
use Rattle.executor.specs.declared.opening.OpenError.{OpenError}
use Rattle.executor.specs.declared.opening.OpenError.TheVariants as opening
use Rattle.journal_files.specs.Ends.{IsDirectoryEnd}

-- the exit status: the one that was asked for, or that of the fault
abbrev pub status_of_end : Result ℕ Fault → ℕ
status_of_end (Ok status) = status
status_of_end (Err f) = status_of f

-- a success is status 0
abbrev pub with_status : {T : Type 0} → Result T Fault → Result ℕ Fault
with_status (Ok done) = Ok 0
with_status (Err f) = Err f

-- the fault of an executor that was not opened; fresh agents are never of another journal
abbrev pub opening_fault : OpenError → Fault
opening_fault opening.Disk = fault.Disk
opening_fault (opening.Damaged damage) = fault.Damaged damage
opening_fault opening.Memory = fault.Memory
opening_fault opening.Foreign = fault.Disk
opening_fault opening.Full = fault.Full

-- the end for wrong arguments: those of an action that is run once have a status that no agent has
abbrev pub misused : Bool → Result ℕ Fault
misused true = Ok 125
misused false = Err fault.Usage

-- how the program ends where arguments, of an action that is run once or not, give no options: a text that was asked for is written, or
-- output fails
abbrev pub IsWrittenAs : Bool → ArgumentsFault → Result ℕ Fault → Type 0
IsWrittenAs once (arguments_fault.Help text) (Ok status) = status ≡ 0
IsWrittenAs once (arguments_fault.Help text) (Err f) = f ≡ fault.InputOrOutput
IsWrittenAs once (arguments_fault.Usage text) ended = ended ≡ misused once
IsWrittenAs once arguments_fault.Choice ended = ended ≡ Err fault.Choice
IsWrittenAs once (arguments_fault.Value value) ended = ended ≡ misused once
IsWrittenAs once arguments_fault.Memory ended = ended ≡ Err fault.Memory

-- the arguments ask for a session over a journal or a view of one, where the environment names this directory
abbrev pub AsksForJournal : Option (List ℕ) → List (List ℕ) → Type 0
AsksForJournal named arguments = (o : Options) × Gives named arguments o

-- the arguments ask for a journal in the files of a directory
abbrev pub IsInDirectory : Option (List ℕ) → List (List ℕ) → Type 0
IsInDirectory named arguments = (o : Options) × Gives named arguments o × (is_some (directory_of o.journal) ≡ true)

-- the arguments name a file or a directory for the output of agents
abbrev pub AsksForLog : Option (List ℕ) → List (List ℕ) → Type 0
AsksForLog named arguments = (o : Options) × Gives named arguments o × ((is_some o.log || is_some o.logs) ≡ true)

-- how a session over a journal, or a view of one, ends with these options: as on any disk; because the file for the output of agents is
-- not opened; or because the files of the journal are not, or hold none
abbrev pub IsEndOf : {T : Type 0} → Options → Result T Fault → Type 0
IsEndOf o ended =
    IsRunEnd ended
    ⊎ (((ended ≡ Err fault.Log) × ((is_some o.log || is_some o.logs) ≡ true)) ⊎ ((is_some (directory_of o.journal) ≡ true) × IsDirectoryEnd ended))

-- why the program ends like this where the arguments ask for a journal
abbrev pub EndsFor : {T : Type 0} → Option (List ℕ) → List (List ℕ) → Result T Fault → Type 0
EndsFor named arguments (Ok done) = AsksForJournal named arguments
EndsFor named arguments (Err fault.Usage) = ⊥
EndsFor named arguments (Err fault.Choice) = ⊥
EndsFor named arguments (Err fault.NotText) = ⊥
EndsFor named arguments (Err fault.Memory) = ⊤
EndsFor named arguments (Err fault.Log) = AsksForLog named arguments
EndsFor named arguments (Err fault.NotOpened) = IsInDirectory named arguments
EndsFor named arguments (Err fault.NoJournal) = IsInDirectory named arguments
EndsFor named arguments (Err fault.NotExisting) = IsInDirectory named arguments
EndsFor named arguments (Err _) = AsksForJournal named arguments

-- why the program ends like this with these arguments; one action by itself ends with a status of its own, and arguments that give no
-- options by their fault
abbrev pub StartEndsFor : Option (List ℕ) → List (List ℕ) → Result ℕ Fault → Type 0
StartEndsFor named arguments ended =
    ((o : OnceOptions) × GivesOnce named arguments o)
    ⊎ (((r : Result (Unit {0}) Fault) × (ended ≡ with_status r) × EndsFor named arguments r)
    ⊎ ((f : ArgumentsFault) × IsFault named arguments f × IsWrittenAs (is_once arguments) f ended))
