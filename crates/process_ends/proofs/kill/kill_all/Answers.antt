use Rattle.process_ends.proofs.EndingLemmas.{killed_earlier}
use Rattle.process_ends.proofs.kill.kill_all.Goals as goal

pub returns-in-Err-clause-killed : goal.returns-in-Err-clause-killed
returns-in-Err-clause-killed g c = λ k d within due.
    killed_earlier (g.R.AgentSystem.view c.args.rt.now) (g.R.AgentSystem.view c.kill_due.new.rt) (g.R.AgentSystem.view c.kill_due-in-Err.new.rt)
    _ c.kill_due.ensures.signals.ends (c.kill_due-in-Err.ensures.killed k d within due)
