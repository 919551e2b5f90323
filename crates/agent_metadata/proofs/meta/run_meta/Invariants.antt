-- The agent that was asked still lives, and no signal was sent.
use Rattle.agent_metadata.specs.Asking.{AsksFor, IsAlone, SendsNone}
use Rattle.agent_metadata.specs.MetaCalls.{IsMetaCall}
use Rattle.agent_metadata.specs.MetaChildren.{asked_process}
use Rattle.agent_system.specs.Commands.{leader_of}
use Rattle.agent_metadata.proofs.meta.run_meta.Given as goal

abbrev pub invariant-loop : goal.invariant-loop
invariant-loop g l = let p = asked_process g.R.AgentSystem.process_of l.child in record {
  asked : AsksFor (leader_of l.call.leading.now) (IsMetaCall l.call.site.now l.call.provider.now l.call.agent.now)
      (g.R.AgentSystem.view l.fn.rt) (g.R.AgentSystem.view l.rt) p;
  alone : IsAlone (g.R.AgentSystem.view l.rt).sights p;
  quiet : SendsNone (g.R.AgentSystem.view l.fn.rt) (g.R.AgentSystem.view l.rt);
}
