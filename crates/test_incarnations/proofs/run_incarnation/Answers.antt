use Rattle.std.proofs.Common.{◌≡◌, ◌++◌, [], List, length, ap, subst, sym, ◌∙◌}
use Rattle.ocf_model.specs.Answer.{Reply}
use Rattle.executor_laws.specs.Joins.{as_calls}
use Rattle.executor.specs.Exchanges.{Exchange}
use Rattle.test_incarnations.specs.History.{IsIncarnation}
use Rattle.exec_journal.specs.StoreViews.{store_view}
use Rattle.test_incarnations.proofs.Steps.{all_answered, not_opened, served, unanswered}
use Rattle.test_incarnations.proofs.run_incarnation.Goals as goal

pub returns-in-Ok-session-clause-runs : goal.returns-in-Ok-session-clause-runs
returns-in-Ok-session-clause-runs g c =
    let takes_inputs = c.in-Ok-session.ensures.takes_inputs in
    let inputs = c.args.machine.inputs.items in
    let given : c.session.new.replies.items ≡ takes_inputs.0 =
    takes_inputs.1 ∙ ap (λ (l : List Reply). l ++ takes_inputs.0) c.new-replies.ensures.items in
    let d = takes_inputs.2.effects in
    let calls = c.lemma_session_is_calls.ensures c.in-Ok.executor c.session.new.self inputs takes_inputs.0 d takes_inputs.2.each in
    subst (λ (l : List Reply). IsIncarnation g.D.Disk.view (as_calls inputs l) c.args.disk c.close-disk.result.0) (sym given)
    (served g.D.Disk.view c.args.disk c.close-disk.result.0 (g.C.Children.view c.args.machine.children) c.args.machine.now
    c.in-Ok.executor c.session.new.self c.in-Ok._report.interrupted.items c.in-Ok._report.dropped.items (as_calls inputs takes_inputs.0) d
    (c.lemma_whole_history.ensures.opening c.args.disk (g.C.Children.view c.args.machine.children) c.args.machine.now c.in-Ok.executor
    c.in-Ok._report.interrupted.items c.in-Ok._report.dropped.items c.in-Ok.ensures.opened)
    calls c.close-disk.ensures.disk)

pub returns-in-Ok-session-clause-answers : goal.returns-in-Ok-session-clause-answers
returns-in-Ok-session-clause-answers g c =
    let takes_inputs = c.in-Ok-session.ensures.takes_inputs in
    let inputs = c.args.machine.inputs.items in
    let given : c.session.new.replies.items ≡ takes_inputs.0 =
    takes_inputs.1 ∙ ap (λ (l : List Reply). l ++ takes_inputs.0) c.new-replies.ensures.items in
    ap (λ (l : List Reply). length l) given
    ∙ all_answered (store_view g.D.Disk.view) c.in-Ok.executor c.session.new.self inputs takes_inputs.0 takes_inputs.2.effects takes_inputs.2.each

pub returns-in-Err-clause-runs : goal.returns-in-Err-clause-runs
returns-in-Err-clause-runs g c =
    let refused = c.in-Err.ensures.failed in
    let inputs = c.args.machine.inputs.items in
    let none : as_calls inputs c.new-replies.result.items ≡ [] =
    ap (λ (l : List Reply). as_calls inputs l) c.new-replies.ensures.items ∙ unanswered inputs in
    subst (λ (l : List Exchange). IsIncarnation g.D.Disk.view l c.args.disk c.in-Err.fault.disk) (sym none)
    (not_opened g.D.Disk.view g.met.D.Disk.lawful c.args.disk c.in-Err.fault.disk (g.C.Children.view c.args.machine.children)
    (g.C.Children.view c.in-Err.fault.children) c.args.machine.now c.in-Err.fault.why refused
    (c.lemma_whole_history.ensures.refused c.args.disk c.in-Err.fault.disk (g.C.Children.view c.args.machine.children)
    (g.C.Children.view c.in-Err.fault.children) c.args.machine.now c.in-Err.fault.why refused))
