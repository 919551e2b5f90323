use Rattle.agent_metadata.proofs.RunLemmas.{stopped}
use Rattle.agent_metadata.proofs.meta_child.MetaChild.poll.Goals as goal

pub returns-in-Err-clause-ended : goal.returns-in-Err-clause-ended
returns-in-Err-clause-ended g c = stopped g.row.A.Denot (g.R.AgentSystem.view c.args.rt.now) (g.R.AgentSystem.view c.code_now.new.rt)
    (g.R.AgentSystem.view c.give_up.new.rt) (g.R.AgentSystem.process_of c.args.self.child) (g.R.AgentSystem.process_of c.code_now.new.child)
    c.in-Err.fault c.code_now.ensures.polls c.code_now.ensures.same c.in-Err.ensures.failed c.give_up.ensures.ended
