use Rattle.agent_system.specs.Commands.{leader_of}
use Rattle.exec_once.proofs.RunLemmas.{run_by}
use Rattle.exec_once.proofs.run.run_once.Goals as goal

-- src/run.rt:121:1
pub returns-in-Ok-asked-clause-run : goal.returns-in-Ok-asked-clause-run
returns-in-Ok-asked-clause-run g c =
    run_by (leader_of c.args.at.now.leading.now) c.args.at.now.site.now c.args.call.now (g.R.AgentSystem.view c.args.rt.now)
    (g.R.AgentSystem.view c.asked.new.rt) (g.R.AgentSystem.view c.await_end-end.new.rt) (g.R.AgentSystem.view c.end_left.new.rt)
    (g.R.AgentSystem.process_of c.in-Ok-asked.child) (g.R.AgentSystem.process_of c.await_end-end.new.child) c.await_end-end.result
    (_, c.in-Ok.ensures.call, c.in-Ok-asked.ensures.asked) c.in-Ok-asked.ensures.quiet c.await_end-end.ensures.polls
    c.await_end-end.ensures.same c.await_end-end.ensures.ended c.end_left.ensures.none c.end_left.ensures.polled c.end_left.ensures.killed
