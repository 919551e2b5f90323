use Rattle.process_ends.specs.Endings.{AllDue, AreGivenUp, AreSameActions, IsSearched, OnlyEnds}
use Rattle.process_ends.proofs.search.search.Given as goal

abbrev pub invariant-loop-round : goal.invariant-loop-round
invariant-loop-round g l = record {
  given_up : AreGivenUp g.R.AgentSystem.process_of (g.R.AgentSystem.view l.rt).sights l.actions;
  same : AreSameActions l.fn.actions l.actions;
  ends : OnlyEnds (g.R.AgentSystem.view l.fn.rt) (g.R.AgentSystem.view l.rt);
  searched : AllDue (IsSearched (g.R.AgentSystem.view l.rt).sights.table) l.actions;
}
