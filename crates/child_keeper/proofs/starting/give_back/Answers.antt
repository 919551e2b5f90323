use Rattle.std.proofs.Common.{◌≡◌, ◌≤◌, ◌∙◌, ap, arith, drop, length}
use Rattle.std.proofs.lemmas.List.{length-map}
use Rattle.std.proofs.lemmas.List.Elements.{All-same}
use Rattle.child_keeper.specs.Waits.{IsFresh}
use Rattle.process_ends.specs.Endings.{IsKilled, dues, processes, whats}
use Rattle.child_keeper.proofs.GivingUp.{killed_before}
use Rattle.child_keeper.proofs.Launching.{fresh_one, given_up_one, last_due, written}
use Rattle.child_keeper.proofs.Waiting.{size}
use Rattle.child_keeper.proofs.starting.give_back.Goals as goal

pub kill_actions-requires : goal.kill_actions-requires
kill_actions-requires g c =
    let added = c.add_due.ensures.added in
    record {
      given_up = given_up_one g.R.AgentSystem.process_of (g.R.AgentSystem.view c.args.rt.now) (g.R.AgentSystem.view c.give_up.new.self)
          c.args.waits.now.waits.items c.as_mut_slice.result.now c.args.agent added.0 c.requires.given_up c.requires.its
          c.give_up.ensures.given_up added.1 (c.as_mut_slice.ensures.value ∙ added.3);
    }

pub returns-clause-killed : goal.returns-clause-killed
returns-clause-killed g c =
    let v = g.R.AgentSystem.view c.args.rt.now in
    let u = g.R.AgentSystem.view c.give_up.new.self in
    let w = g.R.AgentSystem.view c.kill_actions.new.rt in
    let added = c.add_due.ensures.added in
    let items = c.as_mut_slice.ensures.value ∙ added.3 in
    let killed = last_due (IsKilled u w) c.args.waits.now.waits.items c.kill_actions.new.actions added.0
    (c.kill_actions.ensures.same.dues ∙ ap dues items) (c.kill_actions.ensures.same.processes ∙ ap processes items) c.kill_actions.ensures.killed
    added.2 in
    killed_before v u w (ap (λ x. x.sent) c.give_up.ensures.given_up) (ap (λ x. x.looked) c.give_up.ensures.given_up) c.args.agent.process
    (killed.0, killed.1 ∙ added.1.process, killed.2)

pub returns-clause-fresh : goal.returns-clause-fresh
returns-clause-fresh g c = λ shown within fresh.
    let added = c.add_due.ensures.added in
    let old = c.args.waits.now.waits in
    let acts = c.kill_actions.new.actions in
    let items = c.as_mut_slice.ensures.value ∙ added.3 in
    let all : c.add_due.new.waits.waits.len ≡ length acts =
    omega (
      arith,
      size c.add_due.new.waits.waits,
      ap length c.as_mut_slice.ensures.value,
      ap length c.kill_actions.ensures.same.processes,
      length-map acts (λ a. a.process),
      length-map c.as_mut_slice.result.now (λ a. a.process),
    ) in
    let inside : shown ≤ length old.items = omega (arith, within, size old) in
    All-same IsFresh _ (drop shown acts) (ap (drop shown) (written c.add_due.new.waits.waits.len acts _ all))
    (fresh_one shown old.items acts added.0 (c.kill_actions.ensures.same.whats ∙ ap whats items) added.1.fresh inside fresh)
