-- Those that were given up so far.
use Rattle.std.proofs.Common.{◌+◌, ◌≤◌, vec_len}
use Rattle.child_keeper.specs.Keepers.{AreDistinct, AreLive}
use Rattle.child_keeper.proofs.GivingUp.{GivesUp}
use Rattle.child_keeper.proofs.keeper.give_up_each.Given as goal

abbrev pub invariant-loop-run : goal.invariant-loop-run
invariant-loop-run g l = record {
  live : AreLive g.R.AgentSystem.process_of (g.R.AgentSystem.view l.rt).sights l.agents.agents.items;
  distinct : AreDistinct (g.R.AgentSystem.view l.rt).sights.live;
  given_up : GivesUp g.R.AgentSystem.process_of (g.R.AgentSystem.view l.fn.rt) (g.R.AgentSystem.view l.rt) l.fn.agents.given_up.items
      l.agents.given_up.items;
  few : vec_len l.agents.agents + vec_len l.agents.given_up ≤ vec_len l.fn.agents.agents + vec_len l.fn.agents.given_up;
}

abbrev pub decreases-loop-run : goal.decreases-loop-run
decreases-loop-run g l = vec_len l.agents.agents
