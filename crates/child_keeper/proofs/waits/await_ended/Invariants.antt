use Rattle.std.proofs.Common.{◌≡◌}
use Rattle.std.specs.Vec.{vec_capacity}
use Rattle.child_keeper.specs.Waits.{IsPart}
use Rattle.process_ends.specs.Endings.{AreGivenUp, OnlyEnds, processes}
use Rattle.child_keeper.proofs.waits.await_ended.Given as goal

abbrev pub invariant-loop-pauses : goal.invariant-loop-pauses
invariant-loop-pauses g l = record {
  given_up : AreGivenUp g.R.AgentSystem.process_of (g.R.AgentSystem.view l.rt).sights l.waits.items;
  ends : OnlyEnds (g.R.AgentSystem.view l.fn.rt) (g.R.AgentSystem.view l.rt);
  rest : IsPart (processes l.waits.items) (processes l.fn.waits.items);
  capacity : vec_capacity l.waits ≡ vec_capacity l.fn.waits;
}

abbrev pub decreases-loop-pauses : goal.decreases-loop-pauses
decreases-loop-pauses g l = l.pauses.left
