-- A wait began for each agent that was taken so far.
use Rattle.std.proofs.Common.{◌≡◌, ◌++◌, ◌+◌, ◌≤◌, ◌*◌, List, vec_len}
use Rattle.child_keeper.specs.Keepers.{AreWaitsFor}
use Rattle.child_keeper.specs.declared.agents.Agent.{Agent}
use Rattle.child_model.specs.Children.{live_limit}
use Rattle.child_keeper.proofs.keeper.begin_waits.Given as goal

abbrev pub invariant-loop-agent : goal.invariant-loop-agent
invariant-loop-agent g l = record {
  live : l.agents.agents ≡ l.fn.agents.agents;
  room : vec_len l.waits.waits + vec_len l.agents.given_up ≤ 3 * live_limit;
  waits : (taken : List (Agent g.row.C.Denot))
      × (taken ++ l.agents.given_up.items ≡ l.fn.agents.given_up.items) × AreWaitsFor taken l.fn.waits.waits.items l.waits.waits.items;
}

abbrev pub decreases-loop-agent : goal.decreases-loop-agent
decreases-loop-agent g l = vec_len l.agents.given_up
