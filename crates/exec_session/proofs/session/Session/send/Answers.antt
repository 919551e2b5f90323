use Rattle.std.proofs.Common.{ap}
use Rattle.exec_session.specs.Standing.{Standing}
use Rattle.exec_session.proofs.SendLemmas.{sends}
use Rattle.exec_session.proofs.session.Session.send.Goals as goal

pub returns-clause-sent : goal.returns-clause-sent
returns-clause-sent g c =
    sends c.args.self.now.trace (g.E.Edge.trace c.self.inside.edge) (g.E.Edge.trace c.send.new.self) _ _ c.send.result
    (ap (λ (s : Standing _). s.trace) c.self.view_is) c.send.ensures.sent
