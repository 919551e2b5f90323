use Rattle.process_ends.specs.Endings.{given_up_of}
use Rattle.process_ends.proofs.EndingLemmas.{ends_release, ends_trans, has_killed}
use Rattle.process_ends.proofs.ending.end_agent.Goals as goal

pub returns-then-outlives-clause-killed : goal.returns-then-outlives-clause-killed
returns-then-outlives-clause-killed g c =
    has_killed (g.R.AgentSystem.view c.args.rt.now) (g.R.AgentSystem.view c.give_up.new.self) (g.R.AgentSystem.view c.killed-action.new.rt)
    (g.R.AgentSystem.view c.report_left.new.rt) (g.R.AgentSystem.process_of c.args.child) c.process-process.result
    (given_up_of c.killed-action.result) c.give_up.ensures.given_up c.killed-action.ensures.killed
    (ends_trans c.outlives.ensures.ends c.report_left.ensures.signals.ends) c.killed-action.ensures.process c.process-process.ensures.value

pub returns-clause-killed : goal.returns-clause-killed
returns-clause-killed g c =
    has_killed (g.R.AgentSystem.view c.args.rt.now) (g.R.AgentSystem.view c.give_up.new.self) (g.R.AgentSystem.view c.killed-action.new.rt)
    (g.R.AgentSystem.view c.release.new.self) (g.R.AgentSystem.process_of c.args.child) c.process-process.result
    (given_up_of c.killed-action.result) c.give_up.ensures.given_up c.killed-action.ensures.killed
    (ends_trans c.outlives.ensures.ends (ends_release _ _ 0 c.release.ensures.released)) c.killed-action.ensures.process
    c.process-process.ensures.value
