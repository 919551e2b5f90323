-- The line is at none of the offsets so far.
use Rattle.std.proofs.Common.{ℕ, ◌<◌, take, drop}
use Rattle.proc_files.specs.Pieces.{IsPieces}
use Rattle.proc_files.specs.Signals.{BeginsWithBit}
use Rattle.proc_files.proofs.signal.is_ignored.Given as goal

abbrev pub invariant-loop-at : goal.invariant-loop-at
invariant-loop-at l = (k : ℕ) → k < l.at → IsPieces 10 (take k l.status) → BeginsWithBit l.signal (drop k l.status) → ⊥
