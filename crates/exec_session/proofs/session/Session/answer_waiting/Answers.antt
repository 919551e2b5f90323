use Rattle.std.proofs.Common.{[], ap, sym, ◌∙◌}
use Rattle.session_machine.specs.Session.{lines_in}
use Rattle.exec_session.specs.Gathered.{waiting}
use Rattle.exec_session.specs.Standing.{Standing}
use Rattle.exec_session.proofs.AnswerLemmas.{none_waits}
use Rattle.exec_session.proofs.session.Session.answer_waiting.Goals as goal
use Rattle.exec_session.proofs.session.Session.answer_waiting.Goals.{then-not-is_empty+in_ok-answer_gathered, else-not-is_empty}

pub flow-requires-clause-none : goal.flow-requires-clause-none
flow-requires-clause-none g c = λ ended.
    elim c.if-not-is_empty.branch [
      | then-not-is_empty+in_ok-answer_gathered w ↦
          ap (λ (s : Standing _). lines_in s.trace.state) w.self-is ∙ (w.in_ok-answer_gathered.ensures.answered [] (c.requires.may.all ended)).answers.lines
      | else-not-is_empty w ↦
          ap (λ (s : Standing _). lines_in s.trace.state) w.self-is
          ∙ none_waits (waiting c.self.inside.pending.gathered) (waiting c.args.self.now.pending.gathered) (lines_in c.args.self.now.trace.state)
          (sym c.is_empty.ensures ∙ w.if-not-is_empty.false) (ap (λ (s : Standing _). waiting s.pending.gathered) c.self.view_is) (c.requires.may.all ended)
    ]
