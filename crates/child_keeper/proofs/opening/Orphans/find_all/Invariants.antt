-- What was found so far.
use Rattle.std.proofs.Common.{◌≤◌, map, take, vec_len}
use Rattle.child_keeper.specs.Openings.{AreFound, OnlyAdopts}
use Rattle.process_ends.specs.Endings.{AreGivenUp, processes}
use Rattle.child_keeper.proofs.opening.Orphans.find_all.Given as goal

abbrev pub invariant-loop-kept : goal.invariant-loop-kept
invariant-loop-kept g l = record {
  given_up : AreGivenUp g.R.AgentSystem.process_of (g.R.AgentSystem.view l.rt).sights l.self.waits.waits.items;
  adopts : OnlyAdopts (g.R.AgentSystem.view l.fn.rt) (g.R.AgentSystem.view l.rt);
  found : AreFound (g.R.AgentSystem.view l.fn.rt) (g.R.AgentSystem.view l.rt) l.upkeep.leave (map (λ k. k.entry) (take l.kept-index l.fn.entries))
      (processes l.self.waits.waits.items) l.self.left.items;
  len : vec_len l.self.waits.waits ≤ l.kept-index;
}
