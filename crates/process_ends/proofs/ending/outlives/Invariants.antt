use Rattle.process_ends.specs.Endings.{IsChangedAt, IsSameAction, OnlyEnds}
use Rattle.process_ends.proofs.ending.outlives.Given as goal

abbrev pub invariant-loop-alloc : goal.invariant-loop-alloc
invariant-loop-alloc g l = record {
  given_up : IsChangedAt g.R.AgentSystem.process_of (g.R.AgentSystem.view l.fn.rt).sights (g.R.AgentSystem.view l.rt).sights 0 l.action;
  same : IsSameAction l.fn.action l.action;
  ends : OnlyEnds (g.R.AgentSystem.view l.fn.rt) (g.R.AgentSystem.view l.rt);
}

abbrev pub decreases-loop-alloc : goal.decreases-loop-alloc
decreases-loop-alloc g l = l.pauses.left
