use Rattle.std.proofs.Common.{◌≡◌, Some, take}
use Rattle.process_ends.specs.Endings.{AllDue, AreGivenUp, AreSameActions, IsSearched, OnlyEnds}
use Rattle.process_ends.proofs.search.find_all.Given as goal

abbrev pub invariant-loop-at : goal.invariant-loop-at
invariant-loop-at g l = record {
  given_up : AreGivenUp g.R.AgentSystem.process_of (g.R.AgentSystem.view l.rt).sights l.actions;
  same : AreSameActions l.fn.actions l.actions;
  ends : OnlyEnds (g.R.AgentSystem.view l.fn.rt) (g.R.AgentSystem.view l.rt);
  listed : (g.R.AgentSystem.view l.rt).sights.table ≡ Some l.table.items;
  searched : AllDue (IsSearched (g.R.AgentSystem.view l.rt).sights.table) (take l.at l.actions);
}
