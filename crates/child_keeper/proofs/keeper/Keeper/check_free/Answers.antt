use Rattle.std.proofs.Common.{sym}
use Rattle.child_keeper.proofs.Launching.{free_now}
use Rattle.child_keeper.proofs.keeper.Keeper.check_free.Goals as goal

pub returns-clause-free : goal.returns-clause-free
returns-clause-free g c =
    free_now g.R.AgentSystem.process_of (g.R.AgentSystem.view c.args.self.now.rt).sights c.args.id.now c.args.self.now.waits.waits.items
    c.args.self.now.agents.agents.items c.args.self.now.agents.given_up.items c.requires.kept.live c.requires.kept.given_up c.requires.ended
    (sym c.if-holds.ensures.value) (sym c.if-has_of.ensures.value)
