use Rattle.std.proofs.Common.{[], Err, None, Ok, Some, ap, arith, refl, subst, sym, ◌++◌, ◌∷◌, ◌≡◌, ◌∙◌}
use Rattle.std.specs.Prelude.{Contains}
use Rattle.agent_system.specs.SystemView.{after_poll as after_asking, without_process}
use Rattle.child_keeper.specs.Agents.{runs_of}
use Rattle.child_keeper.specs.Keepers.{children_of}
use Rattle.child_keeper.proofs.Keeping.{as_exited, as_fault, as_running, as_signaled, after_answered, after_failed, ask_keeps, children_is, give_up_keeps, reap_keeps, runs-moved, runs-reaped, runs-same, started-same}
use Rattle.child_keeper.proofs.keeper.Keeper.poll.Goals as goal
use Rattle.child_model.specs.Children.{after_poll}

pub reap-requires : goal.reap-requires
reap-requires g c = record {
  lives = subst (λ l. Contains l c.args.run) (sym (runs-same _ _ c.ask.ensures.processes)) c.requires.lives;
}

pub reap-agent-requires : goal.reap-agent-requires
reap-agent-requires g c = record {
  lives = subst (λ l. Contains l c.args.run) (sym (runs-same _ _ c.ask.ensures.processes)) c.requires.lives;
}

pub give_up-requires-clause-lives : goal.give_up-requires-clause-lives
give_up-requires-clause-lives g c = subst (λ l. Contains l c.args.run) (sym (runs-same _ _ c.ask.ensures.processes)) c.requires.lives

pub returns-in-Running-clause-kept : goal.returns-in-Running-clause-kept
returns-in-Running-clause-kept g c =
    let v = g.R.AgentSystem.view c.args.self.now.rt in
    let asked = c.ask.ensures.asked in
    let is : g.R.AgentSystem.view c.ask.new.rt ≡ after_asking v asked.0 (Ok None) =
    asked.3 ∙ ap (after_asking v asked.0) (as_running c.ask.result c.in-Running.ensures) in
    ask_keeps g.R.AgentSystem.view g.R.AgentSystem.process_of c.args.self.now c.ask.new.rt c.note.new.self c.ask.new.agents
    c.requires.kept c.ask.ensures.processes c.ask.ensures.its c.ask.ensures.given_up c.ask.ensures.length
    (ap (λ w. w.sights) is) (ap (λ w. w.let_run) is) (ap (λ w. w.spawned) is) (ap (λ w. w.asked) is)
    (started-same c.args.self.now.book.log.items c.note.new.self.log.items _ c.note.ensures.logged refl)

pub returns-in-Running-clause-polled : goal.returns-in-Running-clause-polled
returns-in-Running-clause-polled g c =
    children_is c.args.self.now c.ask.new.rt c.note.new.self c.ask.new.agents
    (after_poll (children_of c.args.self.now) c.args.run c.poll_of-answer.result)
    c.note.ensures.noted c.note.ensures.logged (omega (arith, c.note.ensures.room)) refl
    (rw c.in-Running.is (runs-same _ _ c.ask.ensures.processes))
    (rw c.in-Running.is (ap (λ l. runs_of l.items) c.ask.ensures.given_up))
    refl refl

pub returns-in-Exited-clause-kept : goal.returns-in-Exited-clause-kept
returns-in-Exited-clause-kept g c =
    let v = g.R.AgentSystem.view c.args.self.now.rt in
    let asked = c.ask.ensures.asked in
    let ended = as_exited c.in-Exited.code c.ask.result c.in-Exited.ensures in
    let is : g.R.AgentSystem.view c.reap.new.rt ≡ after_asking v asked.0 (Ok (Some ended.0)) =
    c.reap.ensures.same ∙ asked.3 ∙ ap (after_asking v asked.0) ended.1 in
    reap_keeps g.R.AgentSystem.view g.R.AgentSystem.process_of c.args.run c.args.self.now c.reap.new.rt c.note.new.self c.reap.new.agents
    c.ask.new.agents.agents.items c.requires.kept c.ask.ensures.processes c.ask.ensures.its c.reap.ensures.others
    (c.reap.ensures.given_up ∙ c.ask.ensures.given_up) (omega (arith, c.reap.ensures.fewer, c.ask.ensures.length))
    (ap (λ w. w.sights.live) is ∙ ap (λ r. without_process r v.sights.live) asked.2) (ap (λ w. w.sights.given_up) is) (ap (λ w. w.let_run) is) (ap (λ w. w.spawned) is) (ap (λ w. w.asked) is)
    (started-same c.args.self.now.book.log.items c.note.new.self.log.items _ c.note.ensures.logged refl)

pub returns-in-Exited-clause-polled : goal.returns-in-Exited-clause-polled
returns-in-Exited-clause-polled g c =
    subst (λ r. children_of (record c.args.self.now { rt = c.reap.new.rt; book = c.note.new.self; agents = c.reap.new.agents })
    ≡ after_poll (children_of c.args.self.now) c.args.run r) c.in-Exited.is
    (children_is c.args.self.now c.reap.new.rt c.note.new.self c.reap.new.agents
    (after_poll (children_of c.args.self.now) c.args.run c.poll_of-answer.result)
    c.note.ensures.noted c.note.ensures.logged (omega (arith, c.note.ensures.room)) refl
    (rw c.in-Exited.is (runs-reaped c.args.run _ _ _ c.ask.ensures.processes c.reap.ensures.others))
    (rw c.in-Exited.is (ap (λ l. runs_of l.items) (c.reap.ensures.given_up ∙ c.ask.ensures.given_up)))
    refl refl)

pub returns-in-Signaled-clause-kept : goal.returns-in-Signaled-clause-kept
returns-in-Signaled-clause-kept g c =
    let v = g.R.AgentSystem.view c.args.self.now.rt in
    let asked = c.ask.ensures.asked in
    let ended = as_signaled c.in-Signaled.signal c.ask.result c.in-Signaled.ensures in
    let is : g.R.AgentSystem.view c.reap-agent.new.rt ≡ after_asking v asked.0 (Ok (Some ended.0)) =
    c.reap-agent.ensures.same ∙ asked.3 ∙ ap (after_asking v asked.0) ended.1 in
    reap_keeps g.R.AgentSystem.view g.R.AgentSystem.process_of c.args.run c.args.self.now c.reap-agent.new.rt c.note.new.self c.reap-agent.new.agents
    c.ask.new.agents.agents.items c.requires.kept c.ask.ensures.processes c.ask.ensures.its c.reap-agent.ensures.others
    (c.reap-agent.ensures.given_up ∙ c.ask.ensures.given_up) (omega (arith, c.reap-agent.ensures.fewer, c.ask.ensures.length))
    (ap (λ w. w.sights.live) is ∙ ap (λ r. without_process r v.sights.live) asked.2) (ap (λ w. w.sights.given_up) is) (ap (λ w. w.let_run) is) (ap (λ w. w.spawned) is) (ap (λ w. w.asked) is)
    (started-same c.args.self.now.book.log.items c.note.new.self.log.items _ c.note.ensures.logged refl)

pub returns-in-Signaled-clause-polled : goal.returns-in-Signaled-clause-polled
returns-in-Signaled-clause-polled g c =
    subst (λ r. children_of (record c.args.self.now { rt = c.reap-agent.new.rt; book = c.note.new.self; agents = c.reap-agent.new.agents })
    ≡ after_poll (children_of c.args.self.now) c.args.run r) c.in-Signaled.is
    (children_is c.args.self.now c.reap-agent.new.rt c.note.new.self c.reap-agent.new.agents
    (after_poll (children_of c.args.self.now) c.args.run c.poll_of-answer.result)
    c.note.ensures.noted c.note.ensures.logged (omega (arith, c.note.ensures.room)) refl
    (rw c.in-Signaled.is (runs-reaped c.args.run _ _ _ c.ask.ensures.processes c.reap-agent.ensures.others))
    (rw c.in-Signaled.is (ap (λ l. runs_of l.items) (c.reap-agent.ensures.given_up ∙ c.ask.ensures.given_up)))
    refl refl)

pub returns-in-Fault-clause-kept : goal.returns-in-Fault-clause-kept
returns-in-Fault-clause-kept g c =
    let v = g.R.AgentSystem.view c.args.self.now.rt in
    let asked = c.ask.ensures.asked in
    let failed = as_fault c.ask.result c.in-Fault.ensures in
    let is : g.R.AgentSystem.view c.ask.new.rt ≡ after_asking v asked.0 (Err failed.0) =
    asked.3 ∙ ap (after_asking v asked.0) failed.1 in
    let before = ask_keeps g.R.AgentSystem.view g.R.AgentSystem.process_of c.args.self.now c.ask.new.rt c.note.new.self c.ask.new.agents
    c.requires.kept c.ask.ensures.processes c.ask.ensures.its c.ask.ensures.given_up c.ask.ensures.length
    (ap (λ w. w.sights) is) (ap (λ w. w.let_run) is) (ap (λ w. w.spawned) is) (ap (λ w. w.asked) is)
    (started-same c.args.self.now.book.log.items c.note.new.self.log.items _ c.note.ensures.logged refl) in
    give_up_keeps g.R.AgentSystem.view g.R.AgentSystem.process_of c.args.run
    (record c.args.self.now { rt = c.ask.new.rt; book = c.note.new.self; agents = c.ask.new.agents })
    c.give_up.new.rt c.note.new.self c.give_up.new.agents before c.give_up.ensures.others c.give_up.ensures.moved
    (omega (arith, c.give_up.ensures.fewer, c.give_up.ensures.more)) refl

pub returns-in-Fault-clause-polled : goal.returns-in-Fault-clause-polled
returns-in-Fault-clause-polled g c =
    children_is c.args.self.now c.give_up.new.rt c.note.new.self c.give_up.new.agents
    (after_poll (children_of c.args.self.now) c.args.run c.poll_of-answer.result)
    c.note.ensures.noted c.note.ensures.logged (omega (arith, c.note.ensures.room)) refl
    (rw c.in-Fault.is (runs-reaped c.args.run _ _ _ c.ask.ensures.processes c.give_up.ensures.others))
    (rw c.in-Fault.is (runs-moved g.R.AgentSystem.process_of c.args.run _ _ c.ask.new.agents.given_up.items c.give_up.new.agents.given_up.items c.give_up.ensures.moved
    ∙ ap (λ l. runs_of l.items ++ c.args.run ∷ []) c.ask.ensures.given_up))
    refl refl

pub returns-in-Running-clause-asked : goal.returns-in-Running-clause-asked
returns-in-Running-clause-asked g c =
    let asked = c.ask.ensures.asked in
    record {
      process = asked.0;
      lives = asked.1;
      its = asked.2;
      answer = c.ask.result;
      poll = c.poll_of-answer.ensures;
      after = after_answered _ _ asked.0 c.ask.result None (as_running c.ask.result c.in-Running.ensures) asked.3;
    }

pub returns-in-Exited-clause-asked : goal.returns-in-Exited-clause-asked
returns-in-Exited-clause-asked g c =
    let asked = c.ask.ensures.asked in
    let ended = as_exited c.in-Exited.code c.ask.result c.in-Exited.ensures in
    record {
      process = asked.0;
      lives = asked.1;
      its = asked.2;
      answer = c.ask.result;
      poll = c.in-Exited.ensures;
      after = after_answered _ _ asked.0 c.ask.result (Some ended.0) ended.1 (c.reap.ensures.same ∙ asked.3);
    }

pub returns-in-Signaled-clause-asked : goal.returns-in-Signaled-clause-asked
returns-in-Signaled-clause-asked g c =
    let asked = c.ask.ensures.asked in
    let ended = as_signaled c.in-Signaled.signal c.ask.result c.in-Signaled.ensures in
    record {
      process = asked.0;
      lives = asked.1;
      its = asked.2;
      answer = c.ask.result;
      poll = c.in-Signaled.ensures;
      after = after_answered _ _ asked.0 c.ask.result (Some ended.0) ended.1 (c.reap-agent.ensures.same ∙ asked.3);
    }

pub returns-in-Fault-clause-asked : goal.returns-in-Fault-clause-asked
returns-in-Fault-clause-asked g c =
    let v = g.R.AgentSystem.view c.args.self.now.rt in
    let asked = c.ask.ensures.asked in
    let moved = c.give_up.ensures.moved in
    let failed = as_fault c.ask.result c.in-Fault.ensures in
    let is : g.R.AgentSystem.view c.ask.new.rt ≡ after_asking v asked.0 (Err failed.0) =
    asked.3 ∙ ap (after_asking v asked.0) failed.1 in
    let same : moved.agent.process ≡ asked.0 =
    c.requires.kept.distinct moved.agent.process asked.0 (subst (λ w. Contains w.sights.live moved.agent.process) is moved.lives) asked.1
    (moved.run_is ∙ sym asked.2) in
    record {
      process = asked.0;
      lives = asked.1;
      its = asked.2;
      answer = c.ask.result;
      poll = c.poll_of-answer.ensures;
      after = after_failed v (g.R.AgentSystem.view c.ask.new.rt) _ asked.0 moved.agent.process c.ask.result failed.0 failed.1 asked.3 same moved.after;
    }
