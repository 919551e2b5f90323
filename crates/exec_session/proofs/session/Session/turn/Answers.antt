use Rattle.std.proofs.Common.{ap, sym, ◌∙◌}
use Rattle.executor.specs.ExecutorView.{ExecutorView}
use Rattle.exec_session.specs.Standing.{Standing}
use Rattle.exec_session.proofs.TurnLemmas.{executor_after, executor_faulted, stays_open, turn_may}
use Rattle.exec_session.proofs.session.Session.turn.Goals as goal

pub note_turn-requires : goal.note_turn-requires
note_turn-requires g c = record {
  may =
      turn_may g.E.Store.Store.view c.args.self.now.trace.state _ c.args.now c.self.inside.executor c.clear_book.new.self c.make_room.new.executor
      c.turn-end.new.self c.turn-end.result (ap (λ (s : Standing _). s.trace.state) c.self.view_is) c.self.invariant c.clear_book.ensures.cleared
      c.requires.«open» c.requires.shown c.requires.due c.make_room.ensures.makes (sym c.if-not-make_room.ensures.value) c.turn-end.ensures.turns;
}

pub returns-clause-stays_open : goal.returns-clause-stays_open
returns-clause-stays_open g c = λ other.
    ap (λ (x : ExecutorView _). x.is_open)
    (executor_after (g.E.Edge.trace c.self.inside.edge) (g.E.Edge.trace c.note_turn.new.self) c.turn-end.result c.turn-end.new.self
    c.note_turn.ensures.noted)
    ∙ stays_open g.E.Store.Store.view c.args.now c.make_room.new.executor c.turn-end.new.self c.turn-end.result
    (sym c.if-not-make_room.ensures.value) c.turn-end.ensures.turns other

pub returns-then-not-make_room-clause-stays_open : goal.returns-then-not-make_room-clause-stays_open
returns-then-not-make_room-clause-stays_open g c =
    ap (λ (x : ExecutorView _). x.is_open)
    (executor_faulted (g.E.Edge.trace c.self.inside.edge) (g.E.Edge.trace c.note_fault.new.self) c.make_room.new.executor c.note_fault.ensures.noted)
    ∙ sym c.if-not-make_room.ensures.value
