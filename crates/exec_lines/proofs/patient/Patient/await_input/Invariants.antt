-- The reader is the same, and each turn found that a read is to be made again.
use Rattle.std.proofs.Common.{◌≡◌, ◌≤◌}
use Rattle.exec_lines.proofs.patient.Patient.await_input.Given as goal

abbrev pub invariant-loop : goal.invariant-loop
invariant-loop g l =
    (l.self.polled.inner ≡ l.fn.self.polled.inner) × (l.fn.self.polled.note.answers.again ≤ l.self.polled.note.answers.again)
    × (l.counter ≤ l.self.polled.note.answers.again)
