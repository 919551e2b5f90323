-- The agent lives, nothing but its end was asked for, and each pause leaves less.
use Rattle.std.proofs.Common.{◌≡◌}
use Rattle.agent_metadata.specs.Asking.{IsAlone, OnlyPolls}
use Rattle.exec_once.proofs.run.await_end.Given as goal

abbrev pub invariant-loop-end : goal.invariant-loop-end
invariant-loop-end g l = record {
  same : g.R.AgentSystem.process_of l.child ≡ g.R.AgentSystem.process_of l.fn.child;
  alone : IsAlone (g.R.AgentSystem.view l.rt).sights (g.R.AgentSystem.process_of l.child);
  polls : OnlyPolls (g.R.AgentSystem.view l.fn.rt) (g.R.AgentSystem.view l.rt);
}

abbrev pub decreases-loop-end : goal.decreases-loop-end
decreases-loop-end g l = l.pauses.left
