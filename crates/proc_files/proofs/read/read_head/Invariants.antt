-- No more bytes were read than the buffer has, and its length does not change.
use Rattle.std.proofs.Common.{◌≡◌, ◌≤◌, ◌-◌, length}
use Rattle.proc_files.proofs.read.read_head.Given as goal

abbrev pub invariant-loop-read : goal.invariant-loop-read
invariant-loop-read g l = (l.read ≤ length l.room) × (length l.room ≡ length l.fn.room)

abbrev pub decreases-loop-read : goal.decreases-loop-read
decreases-loop-read g l = length l.room - l.read
