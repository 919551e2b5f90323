use Rattle.std.proofs.Common.{sym, ◌∙◌}
use Rattle.child_model.specs.declared.answer.Poll.TheVariants as poll
use Rattle.exec_turn.proofs.Polling.{polled_late}
use Rattle.exec_turn.proofs.polls.poll_one.Goals as goal

pub returns-else-not-is_late : goal.returns-else-not-is_late
returns-else-not-is_late g c =
    let late = polled_late c.args.at c.args.running.now c.kill.result (g.C.Children.view c.args.children.now)
    (g.C.Children.view c.poll.new.self) (g.C.Children.view c.kill.new.self)
    (sym c.is_late.ensures.value ∙ c.if-not-is_late.false) c.in-Running.ensures.polled c.kill.ensures.killed in
    record { polled = (poll.Running, c.kill.result, tt, late.0, late.1) }
