use Rattle.std.proofs.Common.{OnOk, subst, sym}
use Rattle.process_ends.specs.Endings.{AllDue, IsSearched}
use Rattle.process_ends.proofs.EndingLemmas.{ends_trans, killed_earlier}
use Rattle.process_ends.proofs.IndexLemmas.{due_along}
use Rattle.process_ends.proofs.OverLemmas.{always_ok}
use Rattle.process_ends.proofs.ending.kill_actions.Goals as goal

pub returns-in_err-found-clause-killed : goal.returns-in_err-found-clause-killed
returns-in_err-found-clause-killed g c = λ k d within due.
    killed_earlier (g.R.AgentSystem.view c.args.rt.now) (g.R.AgentSystem.view c.search-found.new.rt) (g.R.AgentSystem.view c.kill_all-sent.new.rt)
    _ (ends_trans c.stop_groups-are_suspended.ensures.signals.ends c.search-found.ensures.ends) (c.kill_all-sent.ensures.killed k d within due)

pub returns-clause-killed : goal.returns-clause-killed
returns-clause-killed g c = λ k d within due.
    killed_earlier (g.R.AgentSystem.view c.args.rt.now) (g.R.AgentSystem.view c.search-found.new.rt) (g.R.AgentSystem.view c.kill_all-sent.new.rt)
    _ (ends_trans c.stop_groups-are_suspended.ensures.signals.ends c.search-found.ensures.ends) (c.kill_all-sent.ensures.killed k d within due)

pub returns-clause-searched : goal.returns-clause-searched
returns-clause-searched g c =
    let searched = IsSearched (g.R.AgentSystem.view c.kill_all-sent.new.rt).sights.table in
    always_ok c.kill_all-sent.result (due_along searched c.search-found.new.actions c.kill_all-sent.new.actions
    c.kill_all-sent.ensures.known c.kill_all-sent.ensures.same.dues
    (subst (λ t. AllDue (IsSearched t) c.search-found.new.actions) (sym c.kill_all-sent.ensures.signals.table)
    (subst (λ r. OnOk r (AllDue (IsSearched (g.R.AgentSystem.view c.search-found.new.rt).sights.table) c.search-found.new.actions))
    c.in_ok-found.was c.search-found.ensures.searched)))
