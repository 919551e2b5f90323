-- The ends of a program that is asked for the journal of a directory.
use Rattle.std.specs.Prelude.{◌≡◌, ◌⊎◌, IfErr, Result, Err}
use Rattle.exec_faults.specs.Faults.{IsRunEnd}
use Rattle.exec_faults.specs.declared.fault.Fault.{Fault}
use Rattle.exec_faults.specs.declared.fault.Fault.TheVariants as fault

-- why the files of a journal are not opened
abbrev pub IsNotOpened : {T : Type 0} → Result T Fault → Type 0
IsNotOpened ended = IfErr ended (λ f. f ≡ fault.Memory ⊎ (f ≡ fault.NotOpened ⊎ f ≡ fault.NotExisting))

-- why the files of a journal are not printed
abbrev pub IsNotFound : {T : Type 0} → Result T Fault → Type 0
IsNotFound ended = IfErr ended (λ f. f ≡ fault.Memory ⊎ (f ≡ fault.NotOpened ⊎ (f ≡ fault.NoJournal ⊎ f ≡ fault.NotExisting)))

-- how a session or a show of a journal in files may end: as on any disk, or because the files cannot be opened or hold no journal
abbrev pub IsDirectoryEnd : {T : Type 0} → Result T Fault → Type 0
IsDirectoryEnd ended = IsRunEnd ended ⊎ (ended ≡ Err fault.NotOpened ⊎ (ended ≡ Err fault.NoJournal ⊎ ended ≡ Err fault.NotExisting))
