use Rattle.std.proofs.Common.{◌≡◌, ℕ, ◌*◌, ◌<◌, ◌≤◌, length, drop}
use Rattle.recurring.specs.FirstMoments.{IsWon}
use Rattle.recurring.proofs.first_moments.lay.Given as goal

abbrev pub invariant-loop-node : goal.invariant-loop-node
invariant-loop-node l = record {
  long : length l.nodes ≡ 2 * l.indexes;
  high : l.node ≤ l.indexes;
  won : (i : ℕ) → l.node ≤ i → i < l.indexes → IsWon l.nodes i;
  moments : drop l.indexes l.nodes ≡ drop l.indexes l.initial.nodes;
}

abbrev pub decreases-loop-node : goal.decreases-loop-node
decreases-loop-node l = l.node
