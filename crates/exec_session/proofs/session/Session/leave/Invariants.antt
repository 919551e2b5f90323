use Rattle.std.proofs.Common.{◌≤◌, ◌+◌, length}
use Rattle.exec_session.specs.Standing.{Lasts, SameRest}
use Rattle.exec_session.specs.Steps.{IsLeaving}
use Rattle.exec_session.proofs.session.Session.leave.Given as goal

abbrev pub invariant-loop-turns : goal.invariant-loop-turns
invariant-loop-turns g l = record {
  rest : SameRest l.fn.self l.self;
  lasts : Lasts l.fn.self.trace l.self.trace;
  many : length l.fn.self.trace.events + l._turns ≤ length l.self.trace.events;
  leaves : IsLeaving l.self.trace.state;
}
