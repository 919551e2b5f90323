use Rattle.std.proofs.Common.{◌≡◌, ◌-◌, vec_len}
use Rattle.std.specs.Vec.{vec_capacity}
use Rattle.child_keeper.specs.Waits.{IsPart}
use Rattle.process_ends.specs.Endings.{AreGivenUp, OnlyEnds, processes}
use Rattle.child_keeper.proofs.waits.remove_ended.Given as goal

abbrev pub invariant-loop-at : goal.invariant-loop-at
invariant-loop-at g l = record {
  given_up : AreGivenUp g.R.AgentSystem.process_of (g.R.AgentSystem.view l.rt).sights l.waits.items;
  ends : OnlyEnds (g.R.AgentSystem.view l.fn.rt) (g.R.AgentSystem.view l.rt);
  rest : IsPart (processes l.waits.items) (processes l.fn.waits.items);
  capacity : vec_capacity l.waits ≡ vec_capacity l.fn.waits;
}

abbrev pub decreases-loop-at : goal.decreases-loop-at
decreases-loop-at g l = vec_len l.waits - l.at
