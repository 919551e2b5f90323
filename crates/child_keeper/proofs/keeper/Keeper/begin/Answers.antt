use Rattle.std.proofs.Common.{◌≡◌, ◌≤◌, ◌∷◌, [], Some, ap, arith, inr, length, subst, sym, ◌∙◌}
use Rattle.std.specs.Prelude.{Contains}
use Rattle.std.proofs.lemmas.List.Elements.{Contains-append_right}
use Rattle.agent_system.specs.Commands.{leader_of}
use Rattle.agent_system.specs.SystemView.{after_give_up, after_spawn}
use Rattle.process_ends.specs.Endings.{OnlyEnds}
use Rattle.child_keeper.proofs.GivingUp.{killed_before}
use Rattle.child_keeper.proofs.Launching.{give_back_keeps, held-more}
use Rattle.child_keeper.proofs.Waiting.{size}
use Rattle.child_keeper.proofs.keeper.Keeper.begin.Goals as goal

pub let_run-requires-clause-lives : goal.let_run-requires-clause-lives
let_run-requires-clause-lives g c =
    subst (λ w. Contains w.sights.live c.process.result) (sym c.in_ok-spawned.ensures.spawned)
    (Contains-append_right (g.R.AgentSystem.view c.args.self.now.rt).sights.live (g.R.AgentSystem.process_of c.in_ok-spawned.spawned.child ∷ [])
    c.process.result (0, omega arith, sym c.process.ensures.value))

pub give_back-requires-clause-lives : goal.give_back-requires-clause-lives
give_back-requires-clause-lives g c =
    let same : g.R.AgentSystem.process_of c.in_ok-spawned.spawned.child ≡ c.let_run.new.agent.process =
    sym c.process.ensures.value ∙ sym c.in-Err.ensures.process in
    subst (λ w. Contains w.sights.live c.let_run.new.agent.process) (sym (c.in-Err.ensures.let_run ∙ c.in_ok-spawned.ensures.spawned))
    (Contains-append_right (g.R.AgentSystem.view c.args.self.now.rt).sights.live (g.R.AgentSystem.process_of c.in_ok-spawned.spawned.child ∷ [])
    c.let_run.new.agent.process (0, omega arith, same))

pub returns-in-Err-clause-begun : goal.returns-in-Err-clause-begun
returns-in-Err-clause-begun g c =
    let k = c.args.self.now in
    let v = g.R.AgentSystem.view k.rt in
    let u = g.R.AgentSystem.view c.let_run.new.rt in
    let w = g.R.AgentSystem.view c.give_back.new.rt in
    let call = c.args.launch.now.invocation in
    let leader = leader_of k.leading in
    let p = c.let_run.new.agent.process in
    let same : g.R.AgentSystem.process_of c.in_ok-spawned.spawned.child ≡ p = sym c.process.ensures.value ∙ sym c.in-Err.ensures.process in
    let is : u ≡ after_spawn v call leader (Some p) =
    c.in-Err.ensures.let_run ∙ c.in_ok-spawned.ensures.spawned ∙ ap (λ q. after_spawn v call leader (Some q)) same in
    let run : p.run ≡ c.args.launch.now.run = ap (λ q. q.run) (sym same) ∙ c.in_ok-spawned.ensures.run in
    let ends = subst (λ x. OnlyEnds (after_give_up x p) w) is c.give_back.ensures.ends in
    let within : k.shown ≤ length k.waits.waits.items = omega (arith, size k.waits.waits, c.requires.kept.shown) in (
      give_back_keeps g.R.AgentSystem.view g.R.AgentSystem.process_of call leader k c.give_back.new.rt c.give_back.new.waits p
          c.args.launch.now.run c.requires.kept c.requires.ended c.requires.rising run ends c.give_back.ensures.given_up c.give_back.ensures.processes
          (c.give_back.ensures.fresh k.shown c.requires.kept.shown c.requires.kept.fresh) c.in_ok-check_free.ensures.room,
      held-more k.shown k.waits.waits.items c.give_back.new.waits.waits.items p c.give_back.ensures.processes within,
      inr (record {
        process = p;
        run = run;
        id = ap (λ q. q.id) (sym same) ∙ c.in_ok-spawned.ensures.id;
        after = ends;
        killed = killed_before v u w (ap (λ x. x.sent) is) (ap (λ x. x.looked) is) p c.give_back.ensures.killed;
      }),
    )
