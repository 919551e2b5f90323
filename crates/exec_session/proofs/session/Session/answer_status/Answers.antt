use Rattle.std.proofs.Common.{ap, ◌∙◌}
use Rattle.exec_session.specs.Standing.{Standing}
use Rattle.exec_session.proofs.AnswerLemmas.{plain_due, status_next}
use Rattle.exec_session.proofs.session.Session.answer_status.Goals as goal

pub reply-requires : goal.reply-requires
reply-requires g c =
    let same = c.self.invariant ∙ ap (λ (w : Standing _). w.trace.state.executor) c.self.view_is in record {
      due =
          plain_due c.args.self.now.trace c.status_reply-status.result c.requires.reads.0
          (status_next c.args.self.now.trace.state c.self.inside.executor c.status_reply-status.result same c.requires.reads.1 c.requires.is
          c.status_reply-status.ensures.status);
    }
