use Rattle.std.proofs.Common.{subst, sym}
use Rattle.process_ends.specs.Endings.{IsKilled, given_up_of}
use Rattle.process_ends.proofs.EndingLemmas.{killed_all}
use Rattle.process_ends.proofs.given_up.GivenUpAction.kill.Goals as goal

pub returns-clause-killed : goal.returns-clause-killed
returns-clause-killed g c =
    let before = g.R.AgentSystem.view c.args.rt.now in
    let grouped = g.R.AgentSystem.view c.kill_group-has_group.new.rt in
    let known = g.R.AgentSystem.view c.kill_known.new.rt in
    let now = g.R.AgentSystem.view c.kill_child.new.rt in
    subst (IsKilled before now) (sym c.kill_child.ensures.given_up)
    (killed_all before grouped known now (given_up_of c.args.self.now) c.kill_group-has_group.result
    c.kill_group-has_group.ensures.signals.ends c.kill_known.ensures.signals.ends c.kill_child.ensures.signals.ends
    c.kill_group-has_group.ensures.killed c.kill_group-has_group.ensures.none c.kill_known.ensures.killed c.kill_child.ensures.killed)
