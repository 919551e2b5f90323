use Rattle.process_ends.specs.Endings.{OnlySignals}
use Rattle.process_ends.proofs.ending.report_left.Given as goal

abbrev pub invariant-loop-process : goal.invariant-loop-process
invariant-loop-process g l = record {
  signals : OnlySignals (g.R.AgentSystem.view l.fn.rt) (g.R.AgentSystem.view l.rt);
}
