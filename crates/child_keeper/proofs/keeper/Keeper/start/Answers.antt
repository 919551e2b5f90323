use Rattle.std.proofs.Common.{◌≡◌, ◌++◌, ◌∷◌, [], ap, refl, subst, sym, ◌∙◌}
use Rattle.agent_system.specs.Commands.{leader_of}
use Rattle.child_keeper.specs.Keepers.{KeeperInvariant, started_runs}
use Rattle.child_keeper.proofs.KeeperLemmas.{started-one}
use Rattle.child_keeper.proofs.Keeping.{started-same}
use Rattle.child_keeper.proofs.Launching.{none_by_runs, refuse_keeps, start_keeps}
use Rattle.child_keeper.proofs.keeper.Keeper.start.Goals as goal

pub returns-in-Ok-clause-kept : goal.returns-in-Ok-clause-kept
returns-in-Ok-clause-kept g c =
    let k = c.args.self.now in
    let m = c.begin.new.self in
    let view = g.R.AgentSystem.view in
    let process_of = g.R.AgentSystem.process_of in
    let launch = c.args.launch.now in
    let book = c.note_start.new.book in
    let agents = c.add.new.self in
    let agent = c.in-Ok.agent in
    let begun = c.in-Ok.ensures.begun in
    let same = c.in-Ok.ensures.same in
    let log : started_runs book.log.items ≡ started_runs k.book.log.items ++ launch.run ∷ [] =
    ap started_runs c.note_start.ensures.logged ∙ started-one m.book.log.items _ ∙ ap (λ x. started_runs x.book.log.items ++ launch.run ∷ []) same in
    let kept = start_keeps view process_of launch (leader_of k.leading) k m.rt book agents agent c.requires.kept begun.0 c.requires.rising
    (c.add.ensures.added ∙ ap (λ x. x.agents.agents.items ++ agent ∷ []) same) (c.add.ensures.given_up ∙ ap (λ x. x.agents.given_up) same)
    (none_by_runs k.agents.given_up.items c.requires.ended) begun.2 log in
    let with_waits = subst (λ x. KeeperInvariant view process_of (record k { rt = m.rt; book = book; agents = agents; waits = x; last_run = launch.run }))
    (sym begun.1) kept in
    let with_last = subst (λ n. KeeperInvariant view process_of (record k { rt = m.rt; book = book; agents = agents; waits = m.waits; last_run = n }))
    (sym c.get-self.ensures.value) with_waits in
    subst (λ x. KeeperInvariant view process_of (record x { rt = m.rt; book = book; agents = agents; waits = m.waits; last_run = c.get-self.result }))
    (sym same) with_last

pub returns-in-Err-clause-kept : goal.returns-in-Err-clause-kept
returns-in-Err-clause-kept g c =
    let m = c.begin.new.self in
    let view = g.R.AgentSystem.view in
    let process_of = g.R.AgentSystem.process_of in
    let book = c.note_start-in-Err.new.book in
    subst (λ n. KeeperInvariant view process_of (record m { book = book; last_run = n })) (sym c.get-self-in-Err.ensures.value)
    (refuse_keeps view process_of c.args.launch.now.run m book c.in-Err.ensures.begun.0
    (started-same m.book.log.items book.log.items _ c.note_start-in-Err.ensures.logged refl))
