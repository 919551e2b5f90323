use Rattle.std.proofs.Common.{◌≡◌, ◌≤◌, ◌∙◌, ap, arith}
use Rattle.ocf_model.specs.declared.reply.TurnEnd.TheVariants.{Done}
use Rattle.session_machine.specs.Session.{Drain}
use Rattle.exec_session.specs.Standing.{Standing}
use Rattle.exec_session.proofs.DrainLemmas.{drained, goes_on, goes_on_longer, may_show, pauses_between, stays_both}
use Rattle.exec_session.proofs.session.Session.drain.Goals as goal

pub pause-requires : goal.pause-requires
pause-requires g c =
    let d : Drain = record { terms = c.args.terms; start = c.args.start; turns = c.loop-turns.turns; end = Done } in
    let at = c.in_ok-end.ensures.turned d c.loop-turns.invariant.due in
    let since : c.args.start ≤ c.after_turn.new.self.since =
    omega (arith, c.loop-turns.invariant.since, c.before_turn.ensures.since, c.after_turn.ensures.grows) in
    record {
      pauses =
          pauses_between c.drain_turn.new.self.trace d c.loop-turns.now c.in_ok-end.end c.after_turn.new.self.since c.after_turn.new.self.moment
          c.between_turns-micros.result at since (c.after_turn.ensures.moment ∙ c.before_turn.ensures.moment) c.between_turns-micros.ensures.short;
    }

pub now-now-requires : goal.now-now-requires
now-now-requires g c =
    let d : Drain = record { terms = c.args.terms; start = c.args.start; turns = c.loop-turns.turns; end = Done } in
    let at = c.in_ok-end.ensures.turned d c.loop-turns.invariant.due in
    let e = g.E.Edge.trace c.self-in-loop-turns-2.inside.edge in
    let same : e ≡ c.pause.new.self.trace = ap (λ (w : Standing g.row.E-Store.Denot). w.trace) c.self-in-loop-turns-2.view_is in
    record {
      may =
          may_show c.loop-turns.self.trace c.drain_turn.new.self.trace c.pause.new.self.trace e d c.loop-turns.now c.in_ok-end.end
          c.in_ok-end.ensures.stays at c.in_ok-pause.ensures.paused same;
    }

pub returns-in-Some-clause-drained : goal.returns-in-Some-clause-drained
returns-in-Some-clause-drained g c =
    let d : Drain = record { terms = c.args.terms; start = c.args.start; turns = c.loop-turns.turns; end = Done } in
    let at = c.in_ok-end.ensures.turned d c.loop-turns.invariant.due in
    let e = g.E.Edge.trace c.self-in-loop-turns-2.inside.edge in
    let same : e ≡ c.pause.new.self.trace = ap (λ (w : Standing g.row.E-Store.Denot). w.trace) c.self-in-loop-turns-2.view_is in
    drained c.loop-turns.self.trace c.drain_turn.new.self.trace c.pause.new.self.trace e d c.loop-turns.now c.in_ok-end.end
    c.in_ok-end.ensures.stays at c.in_ok-pause.ensures.paused same (g.E.Edge.trace c.now-now.new.self) c.now-now.result c.now-now.ensures.shown
    c.self-in-loop-turns-2.inside.executor c.idle-in-loop-turns.result c.end_after.result c.self-in-loop-turns-2.invariant
    c.idle-in-loop-turns.ensures.value c.end_after.ensures c.in-Some.end c.in-Some.is

pub loop-turns-preserved : goal.loop-turns-preserved
loop-turns-preserved g c =
    let d : Drain = record { terms = c.args.terms; start = c.args.start; turns = c.loop-turns.turns; end = Done } in
    let at = c.in_ok-end.ensures.turned d c.loop-turns.invariant.due in
    let e = g.E.Edge.trace c.self-in-loop-turns-2.inside.edge in
    let p = c.loop-turns.self.trace in
    let s = g.E.Edge.trace c.now-now.new.self in
    let same : e ≡ c.pause.new.self.trace = ap (λ (w : Standing g.row.E-Store.Denot). w.trace) c.self-in-loop-turns-2.view_is in
    let all = goes_on_longer p c.drain_turn.new.self.trace c.pause.new.self.trace e d c.loop-turns.now c.in_ok-end.end c.in_ok-end.ensures.stays at
    c.in_ok-pause.ensures.paused same s c.now-now.result c.now-now.ensures.shown in
    let inv = c.loop-turns.invariant in
    record {
      rest =
          let paused = c.pause.ensures.steps.rest in
          let turned = c.drain_turn.ensures.steps.rest in
          record {
            pending =
                ap (λ (w : Standing g.row.E-Store.Denot). w.pending) c.self-in-loop-turns-2.view_is ∙ paused.pending ∙ turned.pending ∙ inv.rest.pending;
            pause = ap (λ (w : Standing g.row.E-Store.Denot). w.pause) c.self-in-loop-turns-2.view_is ∙ paused.pause ∙ turned.pause ∙ inv.rest.pause;
            own_end =
                ap (λ (w : Standing g.row.E-Store.Denot). w.own_end) c.self-in-loop-turns-2.view_is ∙ paused.own_end ∙ turned.own_end ∙ inv.rest.own_end;
          };
      stays = stays_both c.args.self.now.trace p s inv.stays all.stays;
      lines = all.lines ∙ inv.lines;
      many = omega (arith, inv.many, all.longer);
      due =
          goes_on p c.drain_turn.new.self.trace c.pause.new.self.trace e d c.loop-turns.now c.in_ok-end.end c.in_ok-end.ensures.stays at
          c.in_ok-pause.ensures.paused same s c.now-now.result c.now-now.ensures.shown c.self-in-loop-turns-2.inside.executor
          c.idle-in-loop-turns.result c.end_after.result c.self-in-loop-turns-2.invariant c.idle-in-loop-turns.ensures.value c.end_after.ensures
          c.in_default.is c.in_ok-end.ensures.open;
      since =
          omega (arith, inv.since, c.before_turn.ensures.since, c.after_turn.ensures.grows, c.between_turns-micros.ensures.since);
    }
