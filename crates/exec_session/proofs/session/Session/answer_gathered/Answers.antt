use Rattle.std.proofs.Common.{◌≡◌, length, rules, ap, arith, ◌∙◌}
use Rattle.std.specs.Vec.{vec_len}
use Rattle.session_machine.proofs.AnswerLemmas.{together_length}
use Rattle.exec_session.specs.Gathered.{replied, waiting}
use Rattle.exec_session.specs.Standing.{Standing}
use Rattle.exec_session.proofs.AnswerLemmas.{may_serve_together, together_answered}
use Rattle.exec_session.proofs.session.Session.answer_gathered.Goals as goal

pub note_replies-requires : goal.note_replies-requires
note_replies-requires g c = record {
  may =
      let gathered = c.self.inside.pending.gathered in
      let size : vec_len gathered.commands ≡ length (waiting gathered) = search rules in
      let few = gathered.few in
      may_serve_together g.E.Store.Store.view c.args.self.now.trace (g.E.Edge.trace c.self.inside.edge) (g.E.Edge.trace c.now-now.new.self)
      c.now-now.result (waiting c.self.inside.pending.gathered) (waiting c.args.self.now.pending.gathered) c.requires.are.0 c.self.inside.executor
      c.make_room.new.executor c.serve_gathered.new.executor (replied c.serve_gathered.new.gathered) c.replies-replies.result.now
      (ap (λ (w : Standing _). w.trace) c.self.view_is) c.now-now.ensures.shown c.requires.reads.0 c.requires.reads.1
      (ap (λ (w : Standing _). waiting w.pending.gathered) c.self.view_is) c.requires.some (omega (arith, size, few)) c.requires.are.1 c.self.invariant
      c.make_room.ensures.makes c.serve_gathered.ensures.takes c.serve_gathered.ensures.fails c.replies-replies.ensures;
}

pub returns-clause-answered : goal.returns-clause-answered
returns-clause-answered g c = λ rest are.
    let many = ap length c.replies-replies.ensures
    ∙ together_length g.E.Store.Store.view _ c.now-now.result (waiting c.self.inside.pending.gathered) c.self.inside.executor
    c.serve_gathered.new.executor (replied c.serve_gathered.new.gathered) (record {
      middle = c.make_room.new.executor;
      room = c.make_room.ensures.makes;
      takes = c.serve_gathered.ensures.takes;
      fails = c.serve_gathered.ensures.fails;
    })
    ∙ ap (λ (w : Standing _). length (waiting w.pending.gathered)) c.self.view_is
    in
    together_answered c.args.self.now.trace (g.E.Edge.trace c.self.inside.edge) (g.E.Edge.trace c.now-now.new.self)
    (g.E.Edge.trace c.note_replies.new.self) (g.E.Edge.trace c.send.new.self) c.now-now.result c.serve_gathered.new.executor c.replies-replies.result.now
    (waiting c.args.self.now.pending.gathered) rest c.send.result _ (ap (λ (w : Standing _). w.trace) c.self.view_is) c.now-now.ensures.shown
    c.note_replies.ensures.noted c.send.ensures.sent many are
