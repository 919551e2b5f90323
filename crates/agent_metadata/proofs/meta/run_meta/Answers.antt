use Rattle.agent_metadata.proofs.RunLemmas.{answered}
use Rattle.agent_metadata.specs.MetaCalls.{IsMetaCall}
use Rattle.agent_metadata.specs.MetaChildren.{asked_process}
use Rattle.agent_system.specs.Commands.{leader_of}
use Rattle.std.specs.Prelude.{Err}
use Rattle.ocf_types.specs.declared.outcome.MetaFault.TheVariants.{Read}
use Rattle.agent_metadata.proofs.meta.run_meta.Goals as goal

-- src/meta.rt:43:43
pub returns-in-Answered-clause-asked : goal.returns-in-Answered-clause-asked
returns-in-Answered-clause-asked g c =
    answered g.row.A.Denot (leader_of c.args.call.now.leading.now)
    (IsMetaCall c.args.call.now.site.now c.args.call.now.provider.now c.args.call.now.agent.now)
    (g.R.AgentSystem.view c.args.rt.now) (g.R.AgentSystem.view c.loop.rt) (g.R.AgentSystem.view c.poll.new.rt)
    (asked_process g.R.AgentSystem.process_of c.loop.child) c.in-Answered.answer
    c.loop.invariant.asked c.loop.invariant.quiet c.in-Answered.ensures.ended.0 c.in-Answered.ensures.ended.2

-- src/meta.rt:24:1
pub returns-clause-asked : goal.returns-clause-asked
returns-clause-asked g c =
    answered g.row.A.Denot (leader_of c.args.call.now.leading.now)
    (IsMetaCall c.args.call.now.site.now c.args.call.now.provider.now c.args.call.now.agent.now)
    (g.R.AgentSystem.view c.args.rt.now) (g.R.AgentSystem.view c.loop.rt) (g.R.AgentSystem.view c.give_up.new.rt)
    (asked_process g.R.AgentSystem.process_of c.loop.child) (Err Read)
    c.loop.invariant.asked c.loop.invariant.quiet c.give_up.ensures.ended.none c.give_up.ensures.ended.killed
