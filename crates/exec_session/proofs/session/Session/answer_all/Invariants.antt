use Rattle.std.proofs.Common.{◌≤◌, length}
use Rattle.exec_session.specs.Rounds.{IsRound}
use Rattle.exec_session.specs.Standing.{Lasts}
use Rattle.exec_session.proofs.session.Session.answer_all.Given as goal

abbrev pub invariant-loop-rounds : goal.invariant-loop-rounds
invariant-loop-rounds g l = record {
  round : IsRound l.self;
  lasts : Lasts l.fn.self.trace l.self.trace;
  many : l._rounds ≤ length l.self.trace.events;
}
