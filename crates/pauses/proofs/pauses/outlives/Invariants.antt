use Rattle.std.specs.Bool.{⊤}
use Rattle.pauses.proofs.pauses.outlives.Given as goal

abbrev pub invariant-loop-pauses : goal.invariant-loop-pauses
invariant-loop-pauses g l = ⊤

abbrev pub decreases-loop-pauses : goal.decreases-loop-pauses
decreases-loop-pauses g l = l.pauses.left
