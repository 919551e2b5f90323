-- The invariant of a keeper after its calls.
use Rattle.std.specs.Prelude.{◌≡◌, ◌≤◌, ◌+◌, ℕ, List, [], ◌∷◌, ◌++◌, Option, Some, None, Result, Ok, Err, All, take, vec_len}
use Rattle.std.specs.declared.io.Error.{Error}
use Rattle.std.specs.declared.process.ExitStatus.{ExitStatus}
use Rattle.std.proofs.Common.{ap, arith, refl, subst, sym, ◌∙◌}
use Rattle.std.proofs.lemmas.List.{map-append}
use Rattle.std.proofs.lemmas.List.Elements.{All-filter}
use Rattle.agent_system.specs.Ends.{IsPollOf}
use Rattle.agent_system.specs.SystemView.{SystemView, after_give_up, after_poll, without_process}
use Rattle.agent_system.specs.declared.agent_process.AgentProcess.{AgentProcess}
use Rattle.child_keeper.specs.Agents.{IsIts, agent_processes, others_of, runs_of}
use Rattle.child_keeper.specs.Keepers.{AreDistinct, AreEnding, AreLive, IsMoved, KeeperInvariant, after_answer, children_of, process_runs, run_started, started_runs}
use Rattle.child_keeper.specs.Waits.{ids_of}
use Rattle.child_keeper.specs.declared.agents.Agent.{Agent}
use Rattle.child_keeper.specs.declared.agents.Agents.{Agents}
use Rattle.child_keeper.specs.declared.book.Book.{Book}
use Rattle.child_keeper.specs.declared.keeper.Keeper.{Keeper}
use Rattle.child_keeper.proofs.AgentLemmas.{runs-others}
use Rattle.child_keeper.proofs.KeeperLemmas.{distinct-others, ending-one, live-others, numbered_same, started-one}
use Rattle.child_model.specs.Children.{ChildrenView, without_run}
use Rattle.child_model.specs.declared.answer.Entry.{Entry}
use Rattle.child_model.specs.declared.answer.Poll.TheVariants as poll

-- the children of a keeper whose agents and book changed are this view if each part of them is
pub children_is : {R C M : Type 0} (k : Keeper R C M) (rt : R) (book : Book M) (agents : Agents C M) (v : ChildrenView) → book.entries.items ≡ v.book
    → book.log.items ≡ v.log → book.room ≡ v.room → k.last_run ≡ v.last_run → runs_of agents.agents.items ≡ v.live
    → runs_of agents.given_up.items ≡ v.given_up → take k.shown (ids_of k.waits.waits.items) ≡ v.held → None ≡ v.site
    → children_of (record k { rt = rt; book = book; agents = agents }) ≡ v
children_is k rt book agents v entries log room last live given_up held site = λ i. record {
  book = entries i;
  log = log i;
  room = room i;
  last_run = last i;
  live = live i;
  given_up = given_up i;
  held = held i;
  site = site i;
}

-- the runs that live and that were given up, after one was given up
pub runs-without : {C : Type 0} (run : ℕ) (agents new : List (Agent C)) → new ≡ others_of run agents → runs_of new ≡ without_run run (runs_of agents)
runs-without run agents new others = ap runs_of others ∙ runs-others (λ a. a.process.run) run agents

-- the runs of agents are those of their processes
pub runs-processes : {C : Type 0} (xs : List (Agent C)) → runs_of xs ≡ process_runs (agent_processes xs)
runs-processes [] = refl
runs-processes (x ∷ xs) = ap (λ rs. x.process.run ∷ rs) (runs-processes xs)

-- agents with the same processes have the same runs
pub runs-same : {C : Type 0} (xs ys : List (Agent C)) → agent_processes xs ≡ agent_processes ys → runs_of xs ≡ runs_of ys
runs-same xs ys same = runs-processes xs ∙ ap process_runs same ∙ sym (runs-processes ys)

-- the runs that live after an agent was removed, of agents with the same processes
pub runs-reaped : {C : Type 0} (run : ℕ) (agents asked new : List (Agent C)) → agent_processes asked ≡ agent_processes agents
    → new ≡ others_of run asked → runs_of new ≡ without_run run (runs_of agents)
runs-reaped run agents asked new same others = runs-without run asked new others ∙ ap (without_run run) (runs-same asked agents same)

pub runs-moved : {C : Type 0} (process_of : C → AgentProcess) (run : ℕ) (v w : SystemView) (old new : List (Agent C)) → IsMoved process_of run v w old new
    → runs_of new ≡ runs_of old ++ run ∷ []
runs-moved process_of run v w old new moved =
    ap runs_of moved.appended ∙ map-append (λ a. a.process.run) old (moved.agent ∷ [])
    ∙ ap (λ r. runs_of old ++ r ∷ []) moved.run_is

-- a log with one more entry, that is not of a start that succeeded
pub started-same : (old new : List Entry) (e : Entry) → new ≡ old ++ e ∷ [] → run_started e.answer e.run ≡ [] → started_runs new ≡ started_runs old
started-same old new e more none =
    ap started_runs more ∙ started-one old e ∙ ap (λ l. started_runs old ++ l) none ∙ append_nil (started_runs old)
  where
    append_nil : (xs : List ℕ) → xs ++ [] ≡ xs
    append_nil [] = refl
    append_nil (x ∷ xs) = ap (λ ys. x ∷ ys) (append_nil xs)

-- the invariant after the agent of a run was given up
pub give_up_keeps : {R C M : Type 0} (view : R → SystemView) (process_of : C → AgentProcess) (run : ℕ) (k : Keeper R C M) (rt : R) (book : Book M) (agents : Agents C M)
    → KeeperInvariant view process_of k → agents.agents.items ≡ others_of run k.agents.agents.items
    → IsMoved process_of run (view k.rt) (view rt) k.agents.given_up.items agents.given_up.items
    → vec_len agents.agents + vec_len agents.given_up ≤ vec_len k.agents.agents + vec_len k.agents.given_up
    → started_runs book.log.items ≡ started_runs k.book.log.items
    → KeeperInvariant view process_of (record k { rt = rt; book = book; agents = agents })
give_up_keeps view process_of run k rt book agents kept others moved few log =
    let v = view k.rt in
    let gone : (view rt).sights.live ≡ without_process run v.sights.live =
    ap (λ w. w.sights.live) moved.after ∙ ap (λ r. without_process r v.sights.live) moved.run_is in
    record {
      live = subst (AreLive process_of (view rt).sights) (sym others)
          (live-others process_of run v.sights (view rt).sights k.agents.agents.items kept.live gone);
      given_up = subst (AreEnding process_of (view rt).sights k.waits.waits.items) (sym moved.appended)
          (ending-one process_of v.sights (view rt).sights k.waits.waits.items k.agents.given_up.items moved.agent kept.given_up moved.its
          (ap (λ w. w.sights.given_up) moved.after));
      runs = subst (All (λ p. p.run ≤ k.last_run)) (sym gone) (All-filter _ (λ p. p.run ≤ k.last_run) v.sights.live kept.runs);
      distinct = subst AreDistinct (sym gone) (distinct-others run v.sights.live kept.distinct);
      room = omega (arith, kept.room, few);
      shown = kept.shown;
      fresh = kept.fresh;
      started = ap (λ w. process_runs w.let_run) moved.after ∙ kept.started ∙ sym log;
      numbered = numbered_same v (view rt) k.last_run kept.numbered (ap (λ w. w.spawned) moved.after) (ap (λ w. w.asked) moved.after);
    }

-- the invariant after a poll that left all agents
pub ask_keeps : {R C M : Type 0} (view : R → SystemView) (process_of : C → AgentProcess) (k : Keeper R C M) (rt : R) (book : Book M) (agents : Agents C M)
    → KeeperInvariant view process_of k → agent_processes agents.agents.items ≡ agent_processes k.agents.agents.items
    → All (IsIts process_of) agents.agents.items → agents.given_up ≡ k.agents.given_up → vec_len agents.agents ≡ vec_len k.agents.agents
    → (view rt).sights ≡ (view k.rt).sights → (view rt).let_run ≡ (view k.rt).let_run
    → (view rt).spawned ≡ (view k.rt).spawned → (view rt).asked ≡ (view k.rt).asked → started_runs book.log.items ≡ started_runs k.book.log.items
    → KeeperInvariant view process_of (record k { rt = rt; book = book; agents = agents })
ask_keeps view process_of k rt book agents kept processes its given_up size same let_run spawned unasked log =
    record {
      live = record { are = ap (λ s. s.live) same ∙ kept.live.are ∙ sym processes; its = its };
      given_up = subst (λ s. AreEnding process_of s k.waits.waits.items agents.given_up.items) (sym same)
          (subst (λ l. AreEnding process_of (view k.rt).sights k.waits.waits.items l.items) (sym given_up) kept.given_up);
      runs = subst (λ s. All (λ p. p.run ≤ k.last_run) s.live) (sym same) kept.runs;
      distinct = subst (λ s. AreDistinct s.live) (sym same) kept.distinct;
      room = omega (arith, kept.room, size, ap (λ l. vec_len l) given_up);
      shown = kept.shown;
      fresh = kept.fresh;
      started = ap process_runs let_run ∙ kept.started ∙ sym log;
      numbered = numbered_same (view k.rt) (view rt) k.last_run kept.numbered spawned unasked;
    }

-- the invariant after an agent has ended and was removed
pub reap_keeps : {R C M : Type 0} (view : R → SystemView) (process_of : C → AgentProcess) (run : ℕ) (k : Keeper R C M) (rt : R) (book : Book M) (agents : Agents C M) (asked : List (Agent C))
    → KeeperInvariant view process_of k → agent_processes asked ≡ agent_processes k.agents.agents.items
    → All (IsIts process_of) asked → agents.agents.items ≡ others_of run asked
    → agents.given_up ≡ k.agents.given_up → vec_len agents.agents ≤ vec_len k.agents.agents
    → (view rt).sights.live ≡ without_process run (view k.rt).sights.live → (view rt).sights.given_up ≡ (view k.rt).sights.given_up
    → (view rt).let_run ≡ (view k.rt).let_run
    → (view rt).spawned ≡ (view k.rt).spawned → (view rt).asked ≡ (view k.rt).asked → started_runs book.log.items ≡ started_runs k.book.log.items
    → KeeperInvariant view process_of (record k { rt = rt; book = book; agents = agents })
reap_keeps view process_of run k rt book agents asked kept processes its others given_up size gone same let_run spawned unasked log =
    let v = view k.rt in
    let asked_live : AreLive process_of v.sights asked = record { are = kept.live.are ∙ sym processes; its = its } in
    record {
      live = subst (AreLive process_of (view rt).sights) (sym others) (live-others process_of run v.sights (view rt).sights asked asked_live gone);
      given_up = subst (λ l. AreEnding process_of (view rt).sights k.waits.waits.items l.items) (sym given_up)
          (record { are = same ∙ kept.given_up.are; matched = kept.given_up.matched; its = kept.given_up.its });
      runs = subst (All (λ p. p.run ≤ k.last_run)) (sym gone) (All-filter _ (λ p. p.run ≤ k.last_run) v.sights.live kept.runs);
      distinct = subst AreDistinct (sym gone) (distinct-others run v.sights.live kept.distinct);
      room = omega (arith, kept.room, size, ap (λ l. vec_len l) given_up);
      shown = kept.shown;
      fresh = kept.fresh;
      started = ap process_runs let_run ∙ kept.started ∙ sym log;
      numbered = numbered_same (view k.rt) (view rt) k.last_run kept.numbered spawned unasked;
    }

-- the answer of the system, by the result of a poll
pub as_running : (answer : Result (Option ExitStatus) Error) → IsPollOf poll.Running answer → answer ≡ Ok None
as_running (Ok None) h = refl
as_running (Ok (Some status)) h = absurd h
as_running (Err error) h = absurd (let never : poll.Running ≡ poll.Fault = h in cc)

pub as_exited : (code : ℕ) (answer : Result (Option ExitStatus) Error) → IsPollOf (poll.Exited code) answer → (status : ExitStatus) × (answer ≡ Ok (Some status))
as_exited code (Ok None) h = absurd (let never : poll.Exited code ≡ poll.Running = h in cc)
as_exited code (Ok (Some status)) h = (status, refl)
as_exited code (Err error) h = absurd (let never : poll.Exited code ≡ poll.Fault = h in cc)

pub as_signaled : (signal : ℕ) (answer : Result (Option ExitStatus) Error) → IsPollOf (poll.Signaled signal) answer
    → (status : ExitStatus) × (answer ≡ Ok (Some status))
as_signaled signal (Ok None) h = absurd (let never : poll.Signaled signal ≡ poll.Running = h in cc)
as_signaled signal (Ok (Some status)) h = (status, refl)
as_signaled signal (Err error) h = absurd (let never : poll.Signaled signal ≡ poll.Fault = h in cc)

pub as_fault : (answer : Result (Option ExitStatus) Error) → IsPollOf poll.Fault answer → (error : Error) × (answer ≡ Err error)
as_fault (Ok None) h = absurd (let never : poll.Fault ≡ poll.Running = h in cc)
as_fault (Ok (Some status)) h = absurd h
as_fault (Err error) h = (error, refl)

-- the system after a poll that it answered, and after one that it did not
pub after_answered : (v w : SystemView) (p : AgentProcess) (answer : Result (Option ExitStatus) Error) (status : Option ExitStatus) → answer ≡ Ok status
    → w ≡ after_poll v p answer → w ≡ after_answer answer p (after_poll v p answer)
after_answered v w p answer status is after =
    subst (λ a. w ≡ after_poll v p a → w ≡ after_answer a p (after_poll v p a)) (sym is) (λ h. h) after

pub after_failed : (v u w : SystemView) (p q : AgentProcess) (answer : Result (Option ExitStatus) Error) (error : Error) → answer ≡ Err error
    → u ≡ after_poll v p answer → q ≡ p → w ≡ after_give_up u q → w ≡ after_answer answer p (after_poll v p answer)
after_failed v u w p q answer error is asked same after =
    subst (λ a. u ≡ after_poll v p a → w ≡ after_answer a p (after_poll v p a)) (sym is)
    (λ h. after ∙ ap (λ x. after_give_up x q) h ∙ ap (after_give_up (after_poll v p (Err error))) same) asked
