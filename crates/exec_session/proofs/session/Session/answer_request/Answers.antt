use Rattle.std.proofs.Common.{ap}
use Rattle.exec_session.specs.Standing.{Standing}
use Rattle.exec_session.proofs.AnswerLemmas.{may_serve}
use Rattle.exec_session.proofs.session.Session.answer_request.Goals as goal

pub note_reply-requires : goal.note_reply-requires
note_reply-requires g c = record {
  may =
      may_serve g.E.Store.Store.view c.args.self.now.trace (g.E.Edge.trace c.self.inside.edge) (g.E.Edge.trace c.now-now.new.self) c.now-now.result
      c.args.request c.self.inside.executor c.make_room.new.executor c.request_reply-reply.new.executor c.request_reply-reply.result
      (ap (λ (w : Standing _). w.trace) c.self.view_is) c.now-now.ensures.shown c.requires.reads.0 c.requires.reads.1 c.requires.is c.self.invariant
      c.make_room.ensures.makes c.request_reply-reply.ensures.serves c.request_reply-reply.ensures.fails c.request_reply-reply.ensures.closes;
}
