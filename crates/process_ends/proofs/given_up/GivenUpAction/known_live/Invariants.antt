use Rattle.std.proofs.Common.{take}
use Rattle.process_ends.specs.Endings.{AreEnded, OnlySignals}
use Rattle.process_ends.proofs.given_up.GivenUpAction.known_live.Given as goal

abbrev pub invariant-loop-process : goal.invariant-loop-process
invariant-loop-process g l = record {
  signals : OnlySignals (g.R.AgentSystem.view l.fn.rt) (g.R.AgentSystem.view l.rt);
  ended : AreEnded (g.R.AgentSystem.view l.rt).sights.looks (take l.process-index l.process-items);
}
