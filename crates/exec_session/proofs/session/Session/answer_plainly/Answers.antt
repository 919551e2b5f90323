use Rattle.exec_session.proofs.AnswerLemmas.{plain_answered}
use Rattle.exec_session.proofs.session.Session.answer_plainly.Goals as goal

pub returns-clause-answered : goal.returns-clause-answered
returns-clause-answered g c =
    plain_answered c.args.self.now.trace c.reply.new.self.trace c.args.reply.now c.reply.result c.requires.at c.requires.stays c.requires.is
    c.reply.ensures.sent
