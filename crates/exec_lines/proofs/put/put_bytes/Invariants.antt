-- A prefix of the bytes is put, and each turn put one more.
use Rattle.std.proofs.Common.{◌≡◌, ◌≤◌, length, take}
use Rattle.std.specs.Io.KnownBytes.{Appends}
use Rattle.exec_lines.proofs.put.put_bytes.Given as goal

abbrev pub invariant-loop : goal.invariant-loop
invariant-loop g l =
    (l.done ≤ length l.bytes) × Appends (g.W.Output.contents l.fn.writer) (g.W.Output.contents l.writer) (take l.done l.bytes)
    × (l.counter ≤ l.done) × (l.end ≡ length l.bytes)
