use Rattle.std.proofs.Common.{subst}
use Rattle.agent_system.specs.Commands.{leader_of}
use Rattle.child_keeper.specs.Processes.{ProcessesInvariant}
use Rattle.child_keeper.proofs.Knowing.{known}
use Rattle.child_keeper.proofs.processes.Processes.lemma_known.Goals as goal

pub returns : goal.returns
returns g c = record {
  known = subst ProcessesInvariant c.self.view_is
      (known g.R.AgentSystem.view g.R.AgentSystem.process_of c.self.inside.keeper (leader_of c.self.inside.keeper.leading) c.self.invariant);
}
