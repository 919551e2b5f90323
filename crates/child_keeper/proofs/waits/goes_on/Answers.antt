use Rattle.std.proofs.Common.{◌<◌, ap, arith, length, ◌∙◌}
use Rattle.process_ends.specs.Endings.{processes}
use Rattle.child_keeper.proofs.WaitLemmas.{changed_at, over_at, processes_changed, processes_removed}
use Rattle.child_keeper.proofs.waits.goes_on.Goals as goal

pub returns-then-lives-clause-given_up : goal.returns-then-lives-clause-given_up
returns-then-lives-clause-given_up g c =
    changed_at g.R.AgentSystem.process_of _ _ c.args.waits.now.items c.args.at c.lives.new.self c.requires.given_up c.lives.ensures.given_up

pub returns-then-lives-clause-processes : goal.returns-then-lives-clause-processes
returns-then-lives-clause-processes g c =
    processes_changed c.args.waits.now.items c.args.at c.index_mut-wait.result.now c.lives.new.self c.index_mut-wait.ensures.value c.lives.ensures.same.process

pub end_wait-requires-clause-given_up : goal.end_wait-requires-clause-given_up
end_wait-requires-clause-given_up g c =
    changed_at g.R.AgentSystem.process_of _ _ c.args.waits.now.items c.args.at c.lives.new.self c.requires.given_up c.lives.ensures.given_up

pub end_wait-requires-clause-over : goal.end_wait-requires-clause-over
end_wait-requires-clause-over g c =
    let within : c.args.at < length c.args.waits.now.items = omega (arith, c.args.waits.now.ok.0) in
    over_at g.R.AgentSystem.process_of _ _ c.args.waits.now.items c.args.at c.lives.new.self c.requires.given_up within c.lives.ensures.given_up
    (c.lives.ensures.over c.if-lives.false)

pub returns-clause-processes : goal.returns-clause-processes
returns-clause-processes g c =
    ap processes c.end_wait.ensures.gone
    ∙ processes_removed c.args.waits.now.items c.args.at c.index_mut-wait.result.now c.lives.new.self c.index_mut-wait.ensures.value c.lives.ensures.same.process
