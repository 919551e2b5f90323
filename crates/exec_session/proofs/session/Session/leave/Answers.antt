use Rattle.std.proofs.Common.{◌≡◌, ◌∙◌, true, ap, sym, arith}
use Rattle.executor.specs.ExecutorView.{ExecutorView}
use Rattle.exec_session.specs.Standing.{Standing}
use Rattle.exec_session.proofs.DrainLemmas.{leaves_on}
use Rattle.exec_session.proofs.RoundLemmas.{lasts_both}
use Rattle.exec_session.proofs.session.Session.leave.Goals as goal

pub loop-turns-preserved : goal.loop-turns-preserved
loop-turns-preserved g c =
    let inv = c.loop-turns.invariant in
    let m = c.loop-turns.self.trace in
    let q = c.finish_turn.new.self.trace in
    let r = c.pause.new.self.trace in
    let finished = c.finish_turn.ensures.steps in
    let paused = c.pause.ensures.steps in
    let is_open : q.state.executor.is_open ≡ true =
    ap (λ (w : Standing g.row.E-Store.Denot). w.trace.state.executor.is_open) (sym c.self-in-loop-turns.view_is)
    ∙ ap (λ (x : ExecutorView g.row.E-Store.Denot). x.is_open) (sym c.self-in-loop-turns.invariant) ∙ sym c.if-not-is_open.ensures.value in
    record {
      rest =
          record {
            pending = paused.rest.pending ∙ finished.rest.pending ∙ inv.rest.pending;
            pause = paused.rest.pause ∙ finished.rest.pause ∙ inv.rest.pause;
            own_end = paused.rest.own_end ∙ finished.rest.own_end ∙ inv.rest.own_end;
          };
      lasts = lasts_both c.args.self.now.trace m r inv.lasts (lasts_both m q r finished.continues.lasts paused.continues.lasts);
      many = omega (arith, inv.many, c.in_ok-finish_turn.ensures.longer, paused.continues.lasts.grows);
      leaves = leaves_on q r c.finish_turn.new.pause is_open c.in_ok-finish_turn.ensures.finished c.in_ok-pause.ensures.paused;
    }
