use Rattle.std.proofs.Common.{◌≡◌, ◌≢◌, ℕ, ◌*◌, ◌/◌, ◌<◌, ◌≤◌, length, drop}
use Rattle.recurring.specs.FirstMoments.{IsWon}
use Rattle.recurring.proofs.first_moments.climb.Given as goal

abbrev pub invariant-loop-node : goal.invariant-loop-node
invariant-loop-node l = record {
  long : length l.nodes ≡ 2 * l.indexes;
  low : 1 ≤ l.node;
  high : l.node < 2 * l.indexes;
  won : (i : ℕ) → 1 ≤ i → i < l.indexes → i ≢ l.node / 2 → IsWon l.nodes i;
  moments : drop l.indexes l.nodes ≡ drop l.indexes l.initial.nodes;
}

abbrev pub decreases-loop-node : goal.decreases-loop-node
decreases-loop-node l = l.node
