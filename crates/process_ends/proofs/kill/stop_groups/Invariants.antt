use Rattle.process_ends.specs.Endings.{OnlySignals}
use Rattle.process_ends.proofs.kill.stop_groups.Given as goal

abbrev pub invariant-loop-action : goal.invariant-loop-action
invariant-loop-action g l = record {
  signals : OnlySignals (g.R.AgentSystem.view l.fn.rt) (g.R.AgentSystem.view l.rt);
}
