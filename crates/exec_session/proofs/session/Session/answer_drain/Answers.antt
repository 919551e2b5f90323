use Rattle.std.proofs.Common.{ap}
use Rattle.exec_session.specs.Standing.{Standing}
use Rattle.exec_session.proofs.AnswerLemmas.{drain_answered}
use Rattle.exec_session.proofs.session.Session.answer_drain.Goals as goal

pub returns-clause-answered : goal.returns-clause-answered
returns-clause-answered g c =
    drain_answered c.args.self.now.trace (g.E.Edge.trace c.self.inside.edge) (g.E.Edge.trace c.now-start.new.self) c.drain.new.self.trace
    c.reply.new.self.trace c.now-start.result c.in_ok-end.end _ c.reply.result (ap (λ (w : Standing _). w.trace) c.self.view_is)
    c.now-start.ensures.shown c.in_ok-end.ensures.stays c.in_ok-end.ensures.drained c.requires.is c.reply.ensures.sent
