use Rattle.std.proofs.Common.{ap, subst, sym, ◌∙◌}
use Rattle.executor.specs.ExecutorView.{ExecutorView}
use Rattle.executor.specs.TurnCalls.{Abandons}
use Rattle.session_machine.specs.Behaviours.{Trace}
use Rattle.exec_session.specs.Ends.{IsEnd}
use Rattle.exec_session.specs.Standing.{Standing}
use Rattle.exec_session.proofs.EndLemmas.{end_backed, ends_owe}
use Rattle.exec_session.proofs.session.run_lines.Goals as goal

pub returns-clause-reported : goal.returns-clause-reported
returns-clause-reported g c =
    let last = c.abandon.new.self in
    let began = g.E.Edge.trace c.args.edge in
    let ended = g.E.Edge.trace c.session.inside.edge in
    let is = ap (λ (s : Standing g.row.E-Store.Denot). s.trace) c.session.view_is in
    let first =
    ap (λ (t : Trace g.row.E-Store.Denot). t.first) is ∙ c.run-ended.ensures.lasts.first
    ∙ ap (λ (t : Trace g.row.E-Store.Denot). t.first) c.new-session.ensures.trace in
    let owes = ends_owe ended c.run-ended.result
    (subst (λ (t : Trace g.row.E-Store.Denot). IsEnd t c.run-ended.result) (sym is) c.run-ended.ensures.ends) in
    let given_up = subst (λ (x : ExecutorView g.row.E-Store.Denot). Abandons x last) c.session.invariant c.abandon.ensures.abandoned in
    record {
      last = last;
      holds =
          end_backed g.E.Store.Store.view c.args.opened.0 began ended c.requires.begun first c.lemma_behaves.ensures.behaves owes last given_up;
      is_closed = ap (λ (x : ExecutorView g.row.E-Store.Denot). x.is_open) c.abandon.ensures.abandoned.2;
      store_is = c.into_store-store.ensures.store;
      children_are = c.into_store-store.ensures.children;
    }
