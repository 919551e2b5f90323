use Rattle.std.proofs.Common.{[], ◌∷◌, ◌++◌, ap, ◌∙◌}
use Rattle.session_machine.specs.Behaviours.{then}
use Rattle.session_machine.specs.Events.{Peeked}
use Rattle.exec_session.specs.Gathered.{waiting}
use Rattle.exec_session.specs.Standing.{Standing}
use Rattle.exec_session.proofs.RoundLemmas.{command_answered, queued_begins}
use Rattle.exec_session.proofs.session.Session.take_command.Goals as goal

pub returns : goal.returns
returns g c =
    let old = c.args.self.now in
    let inside = c.self.inside in
    let mid : Standing g.row.E-Store.Denot = record {
      trace = g.E.Edge.trace c.has_line-has_next.new.self;
      pending = record { buffer = inside.pending.buffer; gathered = c.push.new.self; held = inside.pending.held };
      pause = inside.pause;
      own_end = inside.own_end;
    } in
    let is = c.self.view_is in
    let next = c.has_line-has_next.result in
    let same = c.has_line-has_next.ensures.peeked ∙ ap (λ (s : Standing _). then s.trace (Peeked next)) is in
    let push = c.push.ensures ∙ ap (λ (s : Standing _). waiting s.pending.gathered ++ c.args.command ∷ []) is in
    let held = ap (λ (s : Standing _). s.pending.held) is in
    let buffer = ap (λ (s : Standing _). s.pending.buffer) is in
    let pause = ap (λ (s : Standing _). s.pause) is in
    let own_end = ap (λ (s : Standing _). s.own_end) is in
    record {
      takes =
          command_answered old mid c.args.command c.requires.found next same push held buffer pause own_end c.requires.«open»
          c.answer_waiting.new.self c.answer_waiting.result c.answer_waiting.ensures.continues c.answer_waiting.ensures.emptied
          c.answer_waiting.ensures.flows
          (c.answer_waiting.ensures.answers []
          (queued_begins old mid c.args.command c.requires.found next same push held buffer pause own_end c.requires.«open»));
    }
