use Rattle.test_incarnations.proofs.Steps.{goes_on, may_refuse}
use Rattle.executor_laws.specs.Joins.{as_calls}
use Rattle.test_incarnations.proofs.live.Goals as goal

pub returns : goal.returns
returns g c =
    let inputs = c.args.machine.inputs.items in
    let answers = c.in_ok-stopped.stopped.answers in
    let planned = c.plan_stop.new.self in
    let stopped = c.in_ok-stopped.stopped.disk in
    record {
      incarnations = λ older h. (
        goes_on (as_calls inputs answers.replies.items) older c.args.disk planned stopped c.crashed.result c.plan_stop.ensures.same
            c.in_ok-stopped.ensures.runs c.crashed.ensures.left h,
        may_refuse c.lemma_whole_history.ensures.not_refused older c.args.disk planned stopped (g.C.Children.view c.args.machine.children)
            c.args.machine.now g.A.Grows.refuses answers.refused inputs answers.replies.items c.plan_stop.ensures.same h
            c.in_ok-stopped.ensures.answers,
      );
      memory = tt;
    }
