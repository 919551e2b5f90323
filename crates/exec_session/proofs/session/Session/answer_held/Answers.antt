use Rattle.std.proofs.Common.{ap, ◌∙◌}
use Rattle.exec_session.specs.Standing.{Standing}
use Rattle.exec_session.proofs.AnswerLemmas.{held_answered, held_one}
use Rattle.exec_session.proofs.session.Session.answer_held.Goals as goal

pub returns-clause-polled : goal.returns-clause-polled
returns-clause-polled g c =
    let one = held_one c.args.self.now.pending.held c.requires.held in
    held_answered c.args.self.now.trace (g.E.Edge.trace c.self.inside.edge) (g.E.Edge.trace c.poll_metadata.new.self) c.reply.new.self.trace _ _ _
    c.in-Some.given one.0 (ap (λ (w : Standing _). w.trace) c.self.view_is) c.in-Some.ensures.gave (c.requires.is ∙ one.1) c.in_ok-reply.ensures.sent
