-- Nothing was written, and each turn found that a write is to be made again.
use Rattle.std.proofs.Common.{◌≤◌}
use Rattle.std.specs.Io.KnownBytes.{Keeps}
use Rattle.exec_lines.proofs.patient.PatientOutput.put.Given as goal

abbrev pub invariant-loop : goal.invariant-loop
invariant-loop g l =
    Keeps (g.W.Write.contents l.fn.self.polled.inner) (g.W.Write.contents l.self.polled.inner)
    × (l.counter ≤ l.self.polled.note.answers.again)
