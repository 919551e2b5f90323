use Rattle.std.proofs.Common.{◌≡◌, map, take}
use Rattle.process_ends.specs.Endings.{AllDue, AreGivenUp, AreSameActions, IsKilled, OnlySignals, given_up_of}
use Rattle.process_ends.proofs.kill.kill_due.Given as goal

abbrev pub invariant-loop-at : goal.invariant-loop-at
invariant-loop-at g l = record {
  given_up : AreGivenUp g.R.AgentSystem.process_of (g.R.AgentSystem.view l.rt).sights l.actions;
  signals : OnlySignals (g.R.AgentSystem.view l.fn.rt) (g.R.AgentSystem.view l.rt);
  same : AreSameActions l.fn.actions l.actions;
  known : map given_up_of l.actions ≡ map given_up_of l.fn.actions;
  killed : AllDue (IsKilled (g.R.AgentSystem.view l.fn.rt) (g.R.AgentSystem.view l.rt)) (take l.at l.actions);
}
