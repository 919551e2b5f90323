use Rattle.std.proofs.Common.{ap, sym, ◌∙◌}
use Rattle.process_ends.specs.Endings.{processes}
use Rattle.std.specs.List.{list_any}
use Rattle.child_keeper.proofs.WaitLemmas.{due_killed, marked_all, marked_processes, none_due, settled_all, settled_processes}
use Rattle.child_keeper.proofs.waits.kill_due.Goals as goal

pub returns-then-not-any_due-clause-given_up : goal.returns-then-not-any_due-clause-given_up
returns-then-not-any_due-clause-given_up g c =
    rw c.mark_due.ensures (marked_all g.R.AgentSystem.process_of _ c.args.now c.args.waits.now c.requires.given_up)

pub returns-then-not-any_due-clause-same : goal.returns-then-not-any_due-clause-same
returns-then-not-any_due-clause-same g c = rw c.mark_due.ensures (marked_processes c.args.now c.args.waits.now)

pub returns-then-not-any_due-clause-killed : goal.returns-then-not-any_due-clause-killed
returns-then-not-any_due-clause-killed g c =
    none_due _ _ c.args.now c.args.waits.now
    (ap (list_any (λ x. x.is_due)) (sym c.mark_due.ensures) ∙ sym c.any_due.ensures ∙ c.if-not-any_due.true)

pub kill_actions-requires : goal.kill_actions-requires
kill_actions-requires g c =
    record { given_up = rw c.mark_due.ensures (marked_all g.R.AgentSystem.process_of _ c.args.now c.args.waits.now c.requires.given_up) }

pub returns-clause-given_up : goal.returns-clause-given_up
returns-clause-given_up g c =
    rw c.settle_all.ensures (settled_all g.R.AgentSystem.process_of _ _ c.kill_actions.new.actions c.kill_actions.ensures.given_up)

pub returns-clause-same : goal.returns-clause-same
returns-clause-same g c =
    ap processes c.settle_all.ensures ∙ settled_processes _ c.kill_actions.new.actions ∙ c.kill_actions.ensures.same.processes
    ∙ ap processes c.mark_due.ensures ∙ marked_processes c.args.now c.args.waits.now

pub returns-clause-killed : goal.returns-clause-killed
returns-clause-killed g c =
    due_killed _ _ c.args.now c.args.waits.now c.kill_actions.new.actions (rw c.mark_due.ensures at c.kill_actions.ensures.same)
    c.kill_actions.ensures.killed
