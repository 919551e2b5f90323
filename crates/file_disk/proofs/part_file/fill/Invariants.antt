use Rattle.std.proofs.Common.{◌≤◌, length}
use Rattle.file_disk.proofs.part_file.fill.Given as goal

abbrev pub invariant-loop : goal.invariant-loop
invariant-loop l = l.filled ≤ length l.buf
