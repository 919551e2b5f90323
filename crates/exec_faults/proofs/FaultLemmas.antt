-- The causes of faults that are renamed.
use Rattle.std.proofs.Common.{◌≡◌, Bool, IsTrue, refl}
use Rattle.exec_journal.specs.declared.fault.JournalFault.{JournalFault}
use Rattle.exec_journal.specs.declared.fault.JournalFault.TheVariants as journal
use Rattle.exec_lines.specs.declared.io_fault.IoFault.{IoFault}
use Rattle.exec_lines.specs.declared.io_fault.IoFault.TheVariants as io
use Rattle.exec_faults.specs.Faults.{HasCause, opening_fault, output_fault}

-- where an opening was refused memory, the fault of the program has the same cause
pub opening_cause : (refuses : Bool) (f : JournalFault) → (f ≡ journal.Memory → IsTrue refuses) → HasCause refuses (opening_fault f)
opening_cause refuses journal.Disk cause = tt
opening_cause refuses (journal.Damaged damage) cause = tt
opening_cause refuses journal.Memory cause = cause refl

-- where messages were refused memory, the fault of the program has the same cause
pub output_cause : (refuses : Bool) (f : IoFault) → (f ≡ io.Memory → IsTrue refuses) → HasCause refuses (output_fault f)
output_cause refuses io.InputOrOutput cause = tt
output_cause refuses io.Memory cause = cause refl
