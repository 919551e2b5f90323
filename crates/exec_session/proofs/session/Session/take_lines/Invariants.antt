use Rattle.std.proofs.Common.{◌≡◌, ◌≤◌, true}
use Rattle.session_machine.specs.Limits.{reads_a_turn}
use Rattle.exec_session.specs.Held.{IsHeldMeta}
use Rattle.exec_session.specs.Standing.{IsBetween, KnowsTurn, Lasts}
use Rattle.exec_session.proofs.session.Session.take_lines.Given as goal

abbrev pub invariant-loop-reads : goal.invariant-loop-reads
invariant-loop-reads g l = record {
  between : IsBetween l.self.trace.state l.self.pending;
  knows : KnowsTurn l.self;
  lasts : Lasts l.fn.self.trace l.self.trace;
  pause : l.self.pause ≡ l.fn.self.pause;
  own_end : l.self.own_end ≡ l.fn.self.own_end;
  reads : l.self.trace.state.own.reads ≡ l._reads;
  polls : l.self.trace.state.own.polls ≤ l._reads;
  held : IsHeldMeta l.self.pending.held → l.self.trace.state.own.looked ≡ true;
  all : l._reads ≡ reads_a_turn → l.self.trace.state.own.looked ≡ true;
  woken : l.self.trace.state.own.woken ≡ true;
}
