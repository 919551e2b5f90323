use Rattle.std.proofs.Common.{All, take}
use Rattle.process_ends.specs.Endings.{IsKilledBeside, OnlySignals}
use Rattle.process_ends.proofs.given_up.GivenUpAction.kill_known.Given as goal

abbrev pub invariant-loop-process : goal.invariant-loop-process
invariant-loop-process g l = record {
  signals : OnlySignals (g.R.AgentSystem.view l.fn.rt) (g.R.AgentSystem.view l.rt);
  killed : All (IsKilledBeside (g.R.AgentSystem.view l.fn.rt) (g.R.AgentSystem.view l.rt) l.self.process.pid l.has_group)
      (take l.process-index l.process-items);
}
