use Rattle.std.proofs.Common.{ap}
use Rattle.agent_system.specs.SystemView.{SystemView}
use Rattle.child_keeper.proofs.WaitLemmas.{released_at}
use Rattle.child_keeper.proofs.waits.end_wait.Goals as goal

pub returns-clause-given_up : goal.returns-clause-given_up
returns-clause-given_up g c =
    rw (c.clear.ensures.same, c.remove-wait.ensures.items)
    (released_at g.R.AgentSystem.process_of _ _ c.args.waits.now.items c.args.at c.requires.given_up
    (ap (λ (v : SystemView). v.sights.given_up) c.release.ensures.released))
