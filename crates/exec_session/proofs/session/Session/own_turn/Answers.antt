use Rattle.std.proofs.Common.{ap, subst, ◌∙◌, arith}
use Rattle.executor.specs.ExecutorView.{ExecutorView}
use Rattle.session_machine.specs.Behaviours.{Trace, then}
use Rattle.session_machine.specs.Events.{Faulted, Shown}
use Rattle.session_machine.specs.declared.rules.Rules.{Rules}
use Rattle.session_machine.proofs.AfterLemmas.{rules_stay}
use Rattle.exec_session.specs.Standing.{Standing}
use Rattle.exec_session.specs.Steps.{MakesOwnTurn, OnlySends}
use Rattle.exec_session.specs.declared.pause.Pause.{Pause}
use Rattle.exec_session.proofs.OwnTurnLemmas.{after_sent, after_turned, closed_ends, knows_turn, makes, own_goes}
use Rattle.exec_session.proofs.RoundLemmas.{lasts_both, lasts_then}
use Rattle.exec_session.proofs.session.Session.own_turn.Goals as goal

pub returns : goal.returns
returns g c =
    let old = c.args.self.now in
    let shown = g.E.Edge.trace c.now-now.new.self in
    let middle = c.turn.new.self in
    let sent = c.send_turn.new.self in
    let last = c.flow-2.new.self in
    let end = c.in-Some.end in
    let x = middle.trace.state.executor in
    let is_shown = c.now-now.ensures.shown ∙ ap (λ (s : Standing _). then s.trace (Shown c.now-now.result)) c.self.view_is in
    let turned = after_turned old.trace shown c.now-now.result is_shown c.requires.goes_on.0 middle.trace end x c.requires.own.rests c.in-Some.ensures.turned in
    let sends = subst (λ (s : Standing _). OnlySends s.trace sent.trace) c.self-2.view_is c.in_ok-send_turn.ensures.sends in
    let after = after_sent old.trace c.now-now.result middle.trace sent.trace end x turned sends in
    let steps = c.flow-2.ensures.steps.rest in
    let before = c.in_ok-send_turn.ensures.steps.rest in
    record {
      makes = own_goes old sent last c.flow-2.result after.lasts c.flow-2.ensures.steps c.flow-2.ensures.flows c.flow-2.ensures.same (λ flows same.
          makes old last c.now-now.result sent.trace end x after c.requires.own.noted same
          (steps.pending ∙ before.pending ∙ ap (λ (s : Standing _). s.pending) c.self-2.view_is ∙ c.in-Some.ensures.rest.pending
          ∙ ap (λ (s : Standing _). s.pending) c.self.view_is)
          flows
          (knows_turn last old.trace.state.own c.now-now.result end x c.self-2.inside.pause c.after_turn.new.self c.book.result.now
          (ap (λ (t : Trace _). t.state.own) same ∙ after.own) (steps.own_end ∙ before.own_end) (steps.pause ∙ before.pause)
          (ap (λ (s : Standing _). s.pause.moment) c.self-2.view_is ∙ ap (λ (p : Pause). p.moment) c.in-Some.ensures.rest.pause ∙ c.before_turn.ensures.moment)
          (omega (arith, c.requires.knows.since, ap (λ (s : Standing _). s.pause.since) c.self.view_is, c.before_turn.ensures.since, ap (λ (p : Pause). p.since) c.in-Some.ensures.rest.pause, ap (λ (s : Standing _). s.pause.since) c.self-2.view_is))
          (c.book.ensures.value ∙ ap (λ (y : ExecutorView _). y.children.book) (c.self-2.invariant ∙ ap (λ (s : Standing _). s.trace.state.executor) c.self-2.view_is))
          c.after_turn.ensures.moment c.after_turn.ensures.grows c.after_turn.ensures.since c.after_turn.ensures.stirred));
    }

pub returns-in_default : goal.returns-in_default
returns-in_default g c =
    let old = c.args.self.now in
    let shown = g.E.Edge.trace c.now-now.new.self in
    let middle = c.turn.new.self in
    let last = c.flow.new.self in
    let serves =
    ap (λ (t : Trace _). t.state.rules.mode) c.in_default.ensures.turned
    ∙ ap (λ (r : Rules). r.mode) (rules_stay shown.state (Faulted middle.trace.state.executor))
    ∙ ap (λ (t : Trace _). t.state.rules.mode) c.now-now.ensures.shown
    ∙ ap (λ (s : Standing _). s.trace.state.rules.mode) c.self.view_is
    ∙ c.requires.own.serves in
    let is_shown = c.now-now.ensures.shown ∙ ap (λ (s : Standing _). then s.trace (Shown c.now-now.result)) c.self.view_is in
    record {
      makes =
          own_goes old middle last c.flow.result
          (lasts_both old.trace shown middle.trace (lasts_then old.trace shown (Shown c.now-now.result) is_shown)
          (lasts_then shown middle.trace (Faulted middle.trace.state.executor) c.in_default.ensures.turned))
          c.flow.ensures.steps c.flow.ensures.flows c.flow.ensures.same
          (closed_ends (MakesOwnTurn old last) middle.trace last.trace serves c.in_default.ensures.stays_open);
    }
