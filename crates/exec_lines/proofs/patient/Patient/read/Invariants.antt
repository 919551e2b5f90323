-- Nothing was read, and each turn found that a read is to be made again.
use Rattle.std.proofs.Common.{◌≤◌}
use Rattle.std.specs.Io.KnownBytes.{Keeps}
use Rattle.exec_lines.proofs.patient.Patient.read.Given as goal

abbrev pub invariant-loop : goal.invariant-loop
invariant-loop g l =
    Keeps (g.R.Read.remaining l.fn.self.polled.inner) (g.R.Read.remaining l.self.polled.inner)
    × (l.counter ≤ l.self.polled.note.answers.again)
