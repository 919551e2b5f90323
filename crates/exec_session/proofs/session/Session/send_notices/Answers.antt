use Rattle.std.proofs.Common.{ap, ◌∙◌}
use Rattle.session_machine.specs.After.{notices_of}
use Rattle.exec_session.specs.Standing.{Standing}
use Rattle.exec_session.proofs.SendLemmas.{sends_as}
use Rattle.exec_session.proofs.session.Session.send_notices.Goals as goal

pub returns-clause-sent : goal.returns-clause-sent
returns-clause-sent g c =
    sends_as c.args.self.now.trace (g.E.Edge.trace c.self.inside.edge) (g.E.Edge.trace c.send.new.self) _ _ _ c.send.result
    (ap (λ (s : Standing _). s.trace) c.self.view_is)
    (c.of_executor-notices.ensures.items ∙ ap notices_of c.self.invariant ∙ ap (λ (s : Standing _). notices_of s.trace.state.executor) c.self.view_is)
    c.send.ensures.sent
