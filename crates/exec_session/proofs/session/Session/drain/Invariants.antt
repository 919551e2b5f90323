use Rattle.std.proofs.Common.{◌≡◌, ◌≤◌, ◌+◌, length}
use Rattle.ocf_model.specs.declared.reply.TurnEnd.TheVariants.{Done}
use Rattle.session_machine.specs.Session.{lines_in}
use Rattle.exec_session.specs.Standing.{SameRest, Stays}
use Rattle.exec_session.specs.Steps.{IsDraining}
use Rattle.exec_session.proofs.session.Session.drain.Given as goal

abbrev pub invariant-loop-turns : goal.invariant-loop-turns
invariant-loop-turns g l = record {
  rest : SameRest l.fn.self l.self;
  stays : Stays l.fn.self.trace l.self.trace;
  lines : lines_in l.self.trace.state ≡ lines_in l.fn.self.trace.state;
  many : length l.fn.self.trace.events + l.turns ≤ length l.self.trace.events;
  due : IsDraining l.self.trace.state (record { terms = l.terms; start = l.start; turns = l.turns; end = Done }) l.now;
  since : l.start ≤ l.pause.since;
}
