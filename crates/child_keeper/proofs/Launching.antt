-- Starts of agents.
use Rattle.std.specs.Prelude.{◌≡◌, ◌≢◌, ◌==◌, ◌||◌, ◌<◌, ◌≤◌, ◌+◌, ◌*◌, ℕ, zero, suc, Bool, List, [], ◌∷◌, ◌++◌, Option, Some, All, Contains, cond, drop, false, length, map, not, take, true, vec_len}
use Rattle.std.specs.List.{list_any}
use Rattle.std.specs.Str.{bytes_eq}
use Rattle.std.proofs.Common.{ap, arith, eq-eqb, inl, inr, refl, subst, sym, ◌∙◌}
use Rattle.std.proofs.lemmas.Bool.{eqb-true}
use Rattle.std.proofs.lemmas.List.{append-nil, drop-append-le, drop-map, length-append, length-map, map-append, take-append-le}
use Rattle.std.proofs.lemmas.List.Elements.{All-append, All-cons, All-contains, All-head, All-map, All-nil, All-same, All-tail, All-weaker, Contains-append_cases}
use Rattle.std.proofs.lemmas.Slice.Eq.{bytes_eq-Decides}
use Rattle.std.proofs.Math.Seq.{take-append_seam}
use Rattle.agent_system.specs.Histories.{HaveOwnRuns, processes_of}
use Rattle.agent_system.specs.May.{IsFree}
use Rattle.agent_system.specs.Sights.{GivenUp, Sights}
use Rattle.agent_system.specs.SystemView.{Spawned, SystemView, after_give_up, after_spawn, without_process}
use Rattle.agent_system.specs.declared.agent_process.AgentProcess.{AgentProcess}
use Rattle.child_keeper.specs.Agents.{IsIts, agent_processes, just_given_up, runs_of}
use Rattle.child_keeper.specs.Keepers.{AreDistinct, AreEnding, AreLive, AreNumbered, IsBegun, KeeperInvariant, process_runs, started_runs}
use Rattle.child_keeper.specs.Waits.{IsFresh, IsWaitFor, ids_of}
use Rattle.child_keeper.specs.declared.agents.Agent.{Agent}
use Rattle.child_keeper.specs.declared.agents.Agents.{Agents}
use Rattle.child_keeper.specs.declared.book.Book.{Book}
use Rattle.child_keeper.specs.declared.keeper.Keeper.{Keeper}
use Rattle.child_keeper.specs.declared.wait.WaitOf.{WaitOf}
use Rattle.child_keeper.specs.declared.waits.Waits.{Waits}
use Rattle.child_keeper.proofs.KeeperLemmas.{All-one, numbered_later, numbered_same}
use Rattle.child_keeper.proofs.WaitLemmas.{any_map}
use Rattle.child_keeper.proofs.Waiting.{given_up_for, matched_for, size}
use Rattle.child_model.specs.Children.{live_limit}
use Rattle.ocf_env.specs.Locations.{Call}
use Rattle.ocf_env.specs.declared.launches.LaunchOf.{LaunchOf}
use Rattle.process_ends.specs.Endings.{AllDue, AreGivenUp, IsMatched, OnlyEnds, dues, given_up_of, processes, whats}
use Rattle.process_ends.specs.declared.given_up.GivenUpAction.{GivenUpAction}

-- where the test of an id fails, the id is another, and so for the rest
none_step : (id other : List ℕ) (b rest : Bool) → bytes_eq id other ≡ b → (b || rest) ≡ false → (other ≢ id) × (rest ≡ false)
none_step id other true rest is none = absurd (let never : true ≡ false = none in cc)
none_step id other false rest is none = (
  λ same. (let never : true ≡ false = sym ((bytes_eq-Decides id other).1 (sym same)) ∙ is in absurd cc),
  none,
)

-- where no test of an id succeeds, no element has it
none_of : {X : Type 0} (f : X → List ℕ) (id : List ℕ) (xs : List X) → list_any (λ x. bytes_eq id (f x)) xs ≡ false → All (λ x. f x ≢ id) xs
none_of f id [] none = All-nil (λ x. f x ≢ id)
none_of f id (x ∷ xs) none =
    let step = none_step id (f x) (bytes_eq id (f x)) (list_any (λ y. bytes_eq id (f y)) xs) refl none in
    All-cons (λ y. f y ≢ id) x xs step.0 (none_of f id xs step.1)

-- what was written into the whole of a list
pub written : {X : Type 0} (n : ℕ) (xs ys : List X) → n ≡ length xs → take n (xs ++ ys) ≡ xs
written n xs ys is = ap (λ m. take m (xs ++ ys)) is ∙ take-append_seam xs ys

-- a resource is free that neither a wait nor an agent is of
pub free_now : {C M : Type 0} (process_of : C → AgentProcess) (s : Sights) (id : List ℕ) (waits : List (GivenUpAction WaitOf C M)) (agents given_up : List (Agent C))
    → AreLive process_of s agents → AreEnding process_of s waits given_up → given_up ≡ []
    → list_any (bytes_eq id) (ids_of waits) ≡ false → list_any (λ a. bytes_eq id a.process.id) agents ≡ false → IsFree s id
free_now process_of s id waits agents given_up live ending ended no_wait no_agent = record {
  live = subst (All (λ p. p.id ≢ id)) (sym live.are)
      (All-map (λ p. p.id ≢ id) (λ a. a.process) agents (none_of (λ a. a.process.id) id agents no_agent));
  given_up = All-same (λ u. u.process.id ≢ id) s.given_up (map given_up_of waits)
      (ending.are ∙ ap (λ l. map given_up_of waits ++ map just_given_up l) ended ∙ append-nil (map given_up_of waits))
      (All-map (λ u. u.process.id ≢ id) given_up_of waits
      (none_of (λ w. w.process.id) id waits (any_map (bytes_eq id) (λ w. w.process.id) waits ∙ no_wait)));
}

-- an agent was given up whose wait was appended
pub given_up_one : {C M : Type 0} (process_of : C → AgentProcess) (v u : SystemView) (old new : List (GivenUpAction WaitOf C M)) (agent : Agent C) (w : GivenUpAction WaitOf C M)
    → AreGivenUp process_of v.sights old → IsIts process_of agent → u ≡ after_give_up v (process_of agent.child) → IsWaitFor agent w
    → new ≡ old ++ w ∷ [] → AreGivenUp process_of u.sights new
given_up_one process_of v u old new agent w before its after for more = record {
  are = ap (λ x. x.sights.given_up) after ∙ ap (λ p. v.sights.given_up ++ record { process = p; is_child = true; known = [] } ∷ []) its
      ∙ ap (λ l. l ++ just_given_up agent ∷ []) before.are ∙ ap (λ g. map given_up_of old ++ g ∷ []) (sym (given_up_for agent w for))
      ∙ sym (map-append given_up_of old (w ∷ [])) ∙ ap (map given_up_of) (sym more);
  matched = All-same (IsMatched process_of) new (old ++ w ∷ []) more
      (All-append (IsMatched process_of) old (w ∷ []) before.matched (All-one (IsMatched process_of) w (matched_for process_of agent w for its)));
}

-- of actions that are the same but for what is known, the last, which is due, has what each due one has
pub last_due : {T C M : Type 0} (P : GivenUp → Type 0) (old new : List (GivenUpAction T C M)) (w : GivenUpAction T C M) → dues new ≡ dues (old ++ w ∷ [])
    → processes new ≡ processes (old ++ w ∷ []) → AllDue P new → w.is_due ≡ true → (g : GivenUp) × (g.process ≡ w.process) × P g
last_due P [] [] w due process all is = absurd (omega (arith, ap length due))
last_due P [] (x ∷ xs) w due process all is =
    let same : x.is_due ≡ w.is_due = cc in
    let its : x.process ≡ w.process = cc in
    (given_up_of x, its, All-head (λ a. a.is_due ≡ true → P (given_up_of a)) x xs all (same ∙ is))
last_due P (y ∷ ys) [] w due process all is = absurd (omega (arith, ap length due))
last_due P (y ∷ ys) (x ∷ xs) w due process all is =
    let due_rest : dues xs ≡ dues (ys ++ w ∷ []) = cc in
    let process_rest : processes xs ≡ processes (ys ++ w ∷ []) = cc in
    last_due P ys xs w due_rest process_rest (All-tail (λ a. a.is_due ≡ true → P (given_up_of a)) x xs all) is

-- what holds of the function's values
All-of_map : {X Y : Type 0} (P : X → Type 0) (f : Y → X) (ys : List Y) → All P (map f ys) → All (λ y. P (f y)) ys
All-of_map P f [] all = All-nil (λ y. P (f y))
All-of_map P f (y ∷ ys) all =
    All-cons (λ z. P (f z)) y ys (All-head P (f y) (map f ys) all) (All-of_map P f ys (All-tail P (f y) (map f ys) all))

-- waits of which the same is kept are fresh together
fresh_same : {C M : Type 0} (xs ys : List (GivenUpAction WaitOf C M)) → whats ys ≡ whats xs → All IsFresh xs → All IsFresh ys
fresh_same xs ys same fresh =
    All-of_map (λ x. (x.until ≡ 0) × (x.is_reported ≡ false)) (λ a. a.what) ys
    (subst (All (λ x. (x.until ≡ 0) × (x.is_reported ≡ false))) (sym same) (All-map (λ x. (x.until ≡ 0) × (x.is_reported ≡ false)) (λ a. a.what) xs fresh))

-- after one more, which is fresh, the waits that are not shown are fresh
pub fresh_one : {C M : Type 0} (shown : ℕ) (old new : List (GivenUpAction WaitOf C M)) (w : GivenUpAction WaitOf C M) → whats new ≡ whats (old ++ w ∷ [])
    → IsFresh w → shown ≤ length old → All IsFresh (drop shown old) → All IsFresh (drop shown new)
fresh_one shown old new w same one within fresh =
    fresh_same (drop shown (old ++ w ∷ [])) (drop shown new)
    (sym (drop-map (λ a. a.what) shown new) ∙ ap (drop shown) same ∙ drop-map (λ a. a.what) shown (old ++ w ∷ []))
    (All-same IsFresh (drop shown (old ++ w ∷ [])) (drop shown old ++ w ∷ []) (drop-append-le shown old (w ∷ []) within)
    (All-append IsFresh (drop shown old) (w ∷ []) fresh (All-one IsFresh w one)))

-- without a new run the others live
pub without-new : (last : ℕ) (p : AgentProcess) (live : List AgentProcess) → All (λ q. q.run ≤ last) live → last < p.run
    → without_process p.run (live ++ p ∷ []) ≡ live
without-new last p [] below above = ap (λ b. cond (not b) (p ∷ []) []) (eq-eqb p.run p.run refl)
without-new last p (q ∷ live) below above =
    ap (λ b. cond (not b) (q ∷ without_process p.run (live ++ p ∷ [])) (without_process p.run (live ++ p ∷ []))) (differs (q.run == p.run) refl)
    ∙ ap (λ l. q ∷ l) (without-new last p live (All-tail (λ x. x.run ≤ last) q live below) above)
  where
    differs : (b : Bool) → (q.run == p.run) ≡ b → (q.run == p.run) ≡ false
    differs false is = is
    differs true is = absurd (omega (arith, All-head (λ x. x.run ≤ last) q live below, above, eqb-true q.run p.run is))

-- a process of a new run is another than those before it
distinct_more : (last : ℕ) (live : List AgentProcess) (p : AgentProcess) → AreDistinct live → All (λ q. q.run ≤ last) live → last < p.run
    → AreDistinct (live ++ p ∷ [])
distinct_more last live p distinct below above = λ a b ha hb same.
    elim (Contains-append_cases live (p ∷ []) a ha) [
      | inl la ↦ elim (Contains-append_cases live (p ∷ []) b hb) [
        | inl lb ↦ distinct a b la lb same
        | inr ob ↦ absurd (omega (arith, All-contains (λ q. q.run ≤ last) live a below la, above, same, ap (λ q. q.run) (only p b ob)))
      ]
      | inr oa ↦ elim (Contains-append_cases live (p ∷ []) b hb) [
        | inl lb ↦ absurd (omega (arith, All-contains (λ q. q.run ≤ last) live b below lb, above, same, ap (λ q. q.run) (only p a oa)))
        | inr ob ↦ only p a oa ∙ sym (only p b ob)
      ]
    ]
  where
    only : (x y : AgentProcess) → Contains (x ∷ []) y → y ≡ x
    only x y (zero, within, e) = sym e
    only x y (suc k, within, e) = absurd (omega (arith, within))

-- one more agent was spawned, of a later run
numbered_more : (v w : SystemView) (last run : ℕ) (one : Spawned) → AreNumbered v last → last < run → one.process.run ≡ run
    → w.spawned ≡ v.spawned ++ one ∷ [] → w.asked ≡ v.asked → AreNumbered w run
numbered_more v w last run one numbered above is spawned asked =
    let more : processes_of w ≡ processes_of v ++ one.process ∷ [] = ap (map (λ (s : Spawned). s.process)) spawned
    ∙ map-append (λ (s : Spawned). s.process) v.spawned (one ∷ []) in
    record {
      unasked = asked ∙ numbered.unasked;
      runs = subst (All (λ q. q.run ≤ run)) (sym more)
          (All-append (λ q. q.run ≤ run) (processes_of v) (one.process ∷ [])
          (All-weaker (λ q. q.run ≤ last) (λ q. q.run ≤ run) (λ q h. omega (arith, h, above)) (processes_of v) numbered.runs)
          (All-one (λ q. q.run ≤ run) one.process (omega (arith, is))));
      distinct = subst HaveOwnRuns (sym more)
          (distinct_more last (processes_of v) one.process numbered.distinct numbered.runs (omega (arith, above, is)));
    }

-- the invariant after an agent was spawned, not let run, given up and killed
pub give_back_keeps : {R C M : Type 0} (view : R → SystemView) (process_of : C → AgentProcess) (call : Call) (leader : Option (List ℕ)) (k : Keeper R C M) (rt : R) (waits : Waits C M) (p : AgentProcess) (run : ℕ)
    → KeeperInvariant view process_of k → k.agents.given_up.items ≡ [] → k.last_run < run → p.run ≡ run
    → OnlyEnds (after_give_up (after_spawn (view k.rt) call leader (Some p)) p) (view rt) → AreGivenUp process_of (view rt).sights waits.waits.items
    → processes waits.waits.items ≡ processes k.waits.waits.items ++ p ∷ [] → All IsFresh (drop k.shown waits.waits.items)
    → vec_len k.waits.waits + vec_len k.agents.agents < 3 * live_limit → KeeperInvariant view process_of (record k { rt = rt; waits = waits; last_run = run })
give_back_keeps view process_of call leader k rt waits p run kept ended above its ends given_up more fresh room =
    let v = view k.rt in
    let live : (view rt).sights.live ≡ v.sights.live = ends.live ∙ without-new k.last_run p v.sights.live kept.runs (omega (arith, above, its)) in
    let longer : vec_len waits.waits ≡ vec_len k.waits.waits + 1 =
    omega (
      arith,
      size waits.waits,
      size k.waits.waits,
      ap length more,
      length-append (processes k.waits.waits.items) (p ∷ []),
      length-map waits.waits.items (λ a. a.process),
      length-map k.waits.waits.items (λ a. a.process),
    ) in
    record {
      live = record { are = live ∙ kept.live.are; its = kept.live.its };
      given_up = subst (AreEnding process_of (view rt).sights waits.waits.items) (sym ended)
          (record {
            are = given_up.are ∙ sym (append-nil (map given_up_of waits.waits.items));
            matched = given_up.matched;
            its = All-nil (IsIts process_of);
          });
      runs = subst (All (λ q. q.run ≤ run)) (sym live)
          (All-weaker (λ q. q.run ≤ k.last_run) (λ q. q.run ≤ run) (λ q h. omega (arith, h, above)) v.sights.live kept.runs);
      distinct = subst AreDistinct (sym live) kept.distinct;
      room = omega (arith, room, longer, size k.agents.given_up, ap length ended);
      shown = omega (arith, kept.shown, longer);
      fresh = fresh;
      started = ap process_runs ends.let_run ∙ kept.started;
      numbered = numbered_more v (view rt) k.last_run run (record { process = p; call = call; leader = leader }) kept.numbered above its
          ends.spawned ends.asked;
    }

-- the ids of waits are those of their processes
ids-of : {C M : Type 0} (waits : List (GivenUpAction WaitOf C M)) → ids_of waits ≡ map (λ q. q.id) (processes waits)
ids-of [] = refl
ids-of (w ∷ waits) = ap (λ l. w.process.id ∷ l) (ids-of waits)

-- the resources held are the same after one more wait began that is not shown
pub held-more : {C M : Type 0} (shown : ℕ) (old new : List (GivenUpAction WaitOf C M)) (p : AgentProcess) → processes new ≡ processes old ++ p ∷ [] → shown ≤ length old
    → take shown (ids_of new) ≡ take shown (ids_of old)
held-more shown old new p more within =
    ap (take shown) (ids-of new ∙ ap (map (λ q. q.id)) more ∙ map-append (λ q. q.id) (processes old) (p ∷ []) ∙ ap (λ l. l ++ p.id ∷ []) (sym (ids-of old)))
    ∙ take-append-le shown (ids_of old) (p.id ∷ []) (omega (arith, within, length-map old (λ w. w.process.id)))

-- the invariant after an agent was spawned and let run
pub start_keeps : {R C M : Type 0} (view : R → SystemView) (process_of : C → AgentProcess) (launch : LaunchOf Call) (leader : Option (List ℕ)) (k : Keeper R C M) (rt : R) (book : Book M) (agents : Agents C M) (agent : Agent C)
    → KeeperInvariant view process_of k → IsBegun process_of launch leader (view k.rt) (view rt) agent → k.last_run < launch.run
    → agents.agents.items ≡ k.agents.agents.items ++ agent ∷ [] → agents.given_up ≡ k.agents.given_up → k.agents.given_up.items ≡ []
    → vec_len k.waits.waits + vec_len k.agents.agents < 3 * live_limit → started_runs book.log.items ≡ started_runs k.book.log.items ++ launch.run ∷ []
    → KeeperInvariant view process_of (record k { rt = rt; book = book; agents = agents; last_run = launch.run })
start_keeps view process_of launch leader k rt book agents agent kept begun above more given_up ended room log =
    let v = view k.rt in
    let p = agent.process in
    let live : (view rt).sights.live ≡ v.sights.live ++ p ∷ [] = ap (λ w. w.sights.live) begun.after in
    record {
      live = record {
        are = live ∙ ap (λ l. l ++ p ∷ []) kept.live.are ∙ sym (map-append (λ a. a.process) k.agents.agents.items (agent ∷ []))
            ∙ ap agent_processes (sym more);
        its = All-same (IsIts process_of) agents.agents.items (k.agents.agents.items ++ agent ∷ []) more
            (All-append (IsIts process_of) k.agents.agents.items (agent ∷ []) kept.live.its (All-one (IsIts process_of) agent begun.its));
      };
      given_up = subst (λ l. AreEnding process_of (view rt).sights k.waits.waits.items l.items) (sym given_up)
          (record { are = ap (λ w. w.sights.given_up) begun.after ∙ kept.given_up.are; matched = kept.given_up.matched; its = kept.given_up.its });
      runs = subst (All (λ q. q.run ≤ launch.run)) (sym live)
          (All-append (λ q. q.run ≤ launch.run) v.sights.live (p ∷ [])
          (All-weaker (λ q. q.run ≤ k.last_run) (λ q. q.run ≤ launch.run) (λ q h. omega (arith, h, above)) v.sights.live kept.runs)
          (All-one (λ q. q.run ≤ launch.run) p (omega (arith, begun.run))));
      distinct = subst AreDistinct (sym live) (distinct_more k.last_run v.sights.live p kept.distinct kept.runs (omega (arith, above, begun.run)));
      room = omega (
        arith,
        room,
        size agents.agents,
        size k.agents.agents,
        size k.agents.given_up,
        ap length ended,
        ap (λ l. vec_len l) given_up,
        ap length more,
        length-append k.agents.agents.items (agent ∷ []),
      );
      shown = kept.shown;
      fresh = kept.fresh;
      started = ap (λ w. process_runs w.let_run) begun.after ∙ map-append (λ q. q.run) v.let_run (p ∷ [])
          ∙ ap (λ l. l ++ p.run ∷ []) kept.started ∙ ap (λ r. started_runs k.book.log.items ++ r ∷ []) begun.run ∙ sym log;
      numbered = numbered_more v (view rt) k.last_run launch.run (record { process = p; call = launch.invocation; leader = leader })
          kept.numbered above begun.run (ap (λ w. w.spawned) begun.after) (ap (λ w. w.asked) begun.after);
    }

-- the invariant after a start that spawned nothing
pub later_keeps : {R C M : Type 0} (view : R → SystemView) (process_of : C → AgentProcess) (run : ℕ) (k : Keeper R C M) (rt : R)
    → KeeperInvariant view process_of k → k.last_run < run → view rt ≡ view k.rt → KeeperInvariant view process_of (record k { rt = rt; last_run = run })
later_keeps view process_of run k rt kept above same = record {
  live = subst (λ w. AreLive process_of w.sights k.agents.agents.items) (sym same) kept.live;
  given_up = subst (λ w. AreEnding process_of w.sights k.waits.waits.items k.agents.given_up.items) (sym same) kept.given_up;
  runs = subst (λ (w : SystemView). All (λ q. q.run ≤ run) w.sights.live) (sym same)
      (All-weaker (λ q. q.run ≤ k.last_run) (λ q. q.run ≤ run) (λ q h. omega (arith, h, above)) (view k.rt).sights.live kept.runs);
  distinct = subst (λ (w : SystemView). AreDistinct w.sights.live) (sym same) kept.distinct;
  room = kept.room;
  shown = kept.shown;
  fresh = kept.fresh;
  started = ap (λ w. process_runs w.let_run) same ∙ kept.started;
  numbered = numbered_same (view k.rt) (view rt) run (numbered_later (view k.rt) k.last_run run kept.numbered above)
      (ap (λ w. w.spawned) same) (ap (λ w. w.asked) same);
}

-- the invariant after the entry of a start that was refused
pub refuse_keeps : {R C M : Type 0} (view : R → SystemView) (process_of : C → AgentProcess) (run : ℕ) (k : Keeper R C M) (book : Book M)
    → KeeperInvariant view process_of (record k { last_run = run }) → started_runs book.log.items ≡ started_runs k.book.log.items
    → KeeperInvariant view process_of (record k { book = book; last_run = run })
refuse_keeps view process_of run k book kept log = record {
  live = kept.live;
  given_up = kept.given_up;
  runs = kept.runs;
  distinct = kept.distinct;
  room = kept.room;
  shown = kept.shown;
  fresh = kept.fresh;
  started = kept.started ∙ sym log;
  numbered = kept.numbered;
}

-- no runs are those of no agents
pub none_by_runs : {C : Type 0} (agents : List (Agent C)) → runs_of agents ≡ [] → agents ≡ []
none_by_runs [] none = refl
none_by_runs (a ∷ agents) none = absurd (omega (arith, ap length none))
