-- Why files are not opened.
use Rattle.std.specs.Prelude.{◌≡◌, ⊤}
use Rattle.ocf_types.specs.declared.part.Part.{Part}
use Rattle.file_disk.specs.declared.fault.OpenFault.{OpenFault}
use Rattle.file_disk.specs.declared.fault.OpenFault.TheVariants.{Directory, File, NotPlain, DirectoryDistrusted, Distrusted, Locked, InUse, Gone, NoJournal, Emptied, Cleared, Absent, Changing, Memory}

-- the fault is of the file of this part, or memory was refused
abbrev pub IsOfPart : Part → OpenFault → Type 0
IsOfPart part (Directory error) = ⊥
IsOfPart part (File p error) = p ≡ part
IsOfPart part (NotPlain p) = p ≡ part
IsOfPart part (DirectoryDistrusted why) = ⊥
IsOfPart part (Distrusted p why) = p ≡ part
IsOfPart part (Locked p) = p ≡ part
IsOfPart part InUse = ⊥
IsOfPart part (Gone p) = p ≡ part
IsOfPart part (NoJournal p) = p ≡ part
IsOfPart part (Emptied p) = p ≡ part
IsOfPart part (Cleared p) = p ≡ part
IsOfPart part Absent = ⊥
IsOfPart part Changing = ⊥
IsOfPart part Memory = ⊤
