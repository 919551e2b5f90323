-- What the system shows is what the children say.
use Rattle.std.specs.Prelude.{◌≡◌, ◌≤◌, ◌*◌, ℕ, List, [], ◌∷◌, ◌++◌, None, All, drop, length, map, take, vec_len}
use Rattle.std.proofs.Common.{ap, arith, refl, subst, sym, ◌∙◌}
use Rattle.std.proofs.lemmas.List.{append-nil, drop-append-le, drop_all, length-map, length-take-le, map-append, take-append-le}
use Rattle.std.proofs.lemmas.List.Elements.{All-nil, All-same}
use Rattle.std.proofs.Math.Seq.{take-length}
use Rattle.agent_system.specs.Sights.{Sights}
use Rattle.agent_system.specs.SystemView.{SystemView}
use Rattle.agent_system.specs.declared.agent_process.AgentProcess.{AgentProcess}
use Rattle.child_keeper.specs.Agents.{IsIts, just_given_up, runs_of}
use Rattle.child_keeper.specs.Keepers.{AreDistinct, AreEnding, AreLive, IsIdle, KeeperInvariant, children_of, process_runs, started_runs}
use Rattle.child_keeper.specs.Openings.{OnlyOpens}
use Rattle.child_keeper.specs.Processes.{ProcessesInvariant, fresh_processes, given_up_ids, given_up_processes, given_up_runs}
use Rattle.child_keeper.specs.Waits.{IsFresh, ids_of}
use Rattle.child_keeper.specs.declared.agents.Agent.{Agent}
use Rattle.child_keeper.specs.declared.keeper.Keeper.{Keeper}
use Rattle.child_keeper.specs.declared.wait.WaitOf.{WaitOf}
use Rattle.child_keeper.proofs.KeeperLemmas.{numbered_none}
use Rattle.child_keeper.proofs.Keeping.{runs-processes}
use Rattle.child_keeper.proofs.Launching.{none_by_runs}
use Rattle.child_keeper.proofs.Waiting.{size}
use Rattle.child_model.specs.Children.{live_limit}
use Rattle.process_ends.specs.Endings.{AreGivenUp, given_up_of, processes}
use Rattle.process_ends.specs.declared.given_up.GivenUpAction.{GivenUpAction}

-- the ids and the runs of waits, as the system shows them
ids-given_up : {C M : Type 0} (waits : List (GivenUpAction WaitOf C M)) → given_up_ids (map given_up_of waits) ≡ ids_of waits
ids-given_up [] = refl
ids-given_up (w ∷ waits) = ap (λ l. w.process.id ∷ l) (ids-given_up waits)

runs-just : {C : Type 0} (agents : List (Agent C)) → given_up_runs (map just_given_up agents) ≡ runs_of agents
runs-just [] = refl
runs-just (a ∷ agents) = ap (λ l. a.process.run ∷ l) (runs-just agents)

-- once all that was given up waits and is shown, those resources are held
pub held_all : {R C M : Type 0} (view : R → SystemView) (process_of : C → AgentProcess) (k : Keeper R C M) → KeeperInvariant view process_of k
    → (children_of k).held ≡ ids_of k.waits.waits.items → (children_of k).given_up ≡ []
    → (children_of k).held ≡ given_up_ids (view k.rt).sights.given_up
held_all view process_of k kept held none =
    held ∙ sym (ids-given_up k.waits.waits.items) ∙ ap given_up_ids (sym (append-nil (map given_up_of k.waits.waits.items)))
    ∙ ap (λ l. given_up_ids (map given_up_of k.waits.waits.items ++ map just_given_up l)) (sym (none_by_runs k.agents.given_up.items none))
    ∙ ap given_up_ids (sym kept.given_up.are)

-- what a keeper shows
pub known : {R C M : Type 0} (view : R → SystemView) (process_of : C → AgentProcess) (k : Keeper R C M) (leader : _) → KeeperInvariant view process_of k
    → ProcessesInvariant (record { children = children_of k; system = view k.rt; leader = leader })
known view process_of k leader kept =
    let s = (view k.rt).sights in
    let waits = k.waits.waits.items in
    let ids = ids_of waits in
    let within : k.shown ≤ length ids = omega (arith, kept.shown, size k.waits.waits, length-map waits (λ w. w.process.id)) in
    let shown : length (take k.shown ids) ≡ k.shown = length-take-le k.shown ids within in
    let all : given_up_ids s.given_up ≡ ids ++ given_up_ids (map just_given_up k.agents.given_up.items) =
    ap given_up_ids kept.given_up.are ∙ map-append (λ u. u.process.id) (map given_up_of waits) (map just_given_up k.agents.given_up.items)
    ∙ ap (λ l. l ++ given_up_ids (map just_given_up k.agents.given_up.items)) (ids-given_up waits) in
    record {
      live = ap process_runs kept.live.are ∙ sym (runs-processes k.agents.agents.items);
      held = ap (λ n. take n (given_up_ids s.given_up)) shown ∙ ap (take k.shown) all
          ∙ take-append-le k.shown ids (given_up_ids (map just_given_up k.agents.given_up.items)) within;
      given_up = (
        drop k.shown (given_up_runs (map given_up_of waits)),
        ap (λ n. drop n (given_up_runs s.given_up)) shown ∙ ap (λ l. drop k.shown (given_up_runs l)) kept.given_up.are
            ∙ ap (drop k.shown) (map-append (λ u. u.process.run) (map given_up_of waits) (map just_given_up k.agents.given_up.items))
            ∙ drop-append-le k.shown (given_up_runs (map given_up_of waits)) (given_up_runs (map just_given_up k.agents.given_up.items))
            (omega (
              arith,
              kept.shown,
              size k.waits.waits,
              length-map waits given_up_of,
              length-map (map given_up_of waits) (λ u. u.process.run),
            ))
            ∙ ap (λ l. drop k.shown (given_up_runs (map given_up_of waits)) ++ l) (runs-just k.agents.given_up.items),
      );
      started = kept.started;
    }

-- the invariant of a keeper that was just made
pub new_keeps : {R C M : Type 0} (view : R → SystemView) (process_of : C → AgentProcess) (k : Keeper R C M) (v : SystemView) → IsIdle v
    → OnlyOpens v (view k.rt) → AreGivenUp process_of (view k.rt).sights k.waits.waits.items → k.agents.agents.items ≡ []
    → k.agents.given_up.items ≡ [] → vec_len k.waits.waits ≤ 3 * live_limit → k.shown ≡ vec_len k.waits.waits → k.book.log.items ≡ []
    → KeeperInvariant view process_of k
new_keeps view process_of k v idle opens given_up none ended few shown no_log =
    let no_live : (view k.rt).sights.live ≡ [] = opens.live ∙ idle.live in
    record {
      live = subst (AreLive process_of (view k.rt).sights) (sym none) (record { are = no_live; its = All-nil (IsIts process_of) });
      given_up = subst (AreEnding process_of (view k.rt).sights k.waits.waits.items) (sym ended)
          (record {
            are = given_up.are ∙ sym (append-nil (map given_up_of k.waits.waits.items));
            matched = given_up.matched;
            its = All-nil (IsIts process_of);
          });
      runs = subst (All (λ p. p.run ≤ k.last_run)) (sym no_live) (All-nil (λ p. p.run ≤ k.last_run));
      distinct = subst AreDistinct (sym no_live) (λ p q hp hq same. absurd (omega (arith, hp.1)));
      room = omega (arith, few, size k.agents.agents, size k.agents.given_up, ap length none, ap length ended);
      shown = omega (arith, shown);
      fresh = All-same IsFresh (drop k.shown k.waits.waits.items) [] (drop_all k.shown k.waits.waits.items (omega (arith, shown, size k.waits.waits)))
          (All-nil IsFresh);
      started = ap process_runs (opens.let_run ∙ idle.let_run) ∙ ap started_runs (sym no_log);
      numbered = numbered_none (view k.rt) k.last_run (opens.spawned ∙ idle.spawned) (opens.asked ∙ idle.asked);
    }

-- the children of a keeper that was just made
pub new_children : {R C M : Type 0} (k : Keeper R C M) (book : ℕ) → k.book.entries.items ≡ [] → k.book.log.items ≡ [] → k.book.room ≡ book
    → k.last_run ≡ 0 → k.agents.agents.items ≡ [] → k.agents.given_up.items ≡ []
    → children_of k ≡ fresh_processes book (take k.shown (ids_of k.waits.waits.items))
new_children k book entries log room last none ended = λ i. record {
  book = entries i;
  log = log i;
  room = room i;
  last_run = last i;
  live = ap runs_of none i;
  given_up = ap runs_of ended i;
  held = take k.shown (ids_of k.waits.waits.items);
  site = None;
}

-- the processes of waits, as the system shows them
pub processes-given_up : {C M : Type 0} (process_of : C → AgentProcess) (s : Sights) (waits : List (GivenUpAction WaitOf C M)) → AreGivenUp process_of s waits
    → processes waits ≡ given_up_processes s.given_up
processes-given_up process_of s waits given_up = same waits ∙ ap given_up_processes (sym given_up.are)
  where
    same : {C M : Type 0} (xs : List (GivenUpAction WaitOf C M)) → processes xs ≡ given_up_processes (map given_up_of xs)
    same [] = refl
    same (x ∷ xs) = ap (λ l. x.process ∷ l) (same xs)

-- the resources that a keeper holds that was just made
pub new_held : {C M : Type 0} (process_of : C → AgentProcess) (s : Sights) (waits : List (GivenUpAction WaitOf C M)) (shown : ℕ) → AreGivenUp process_of s waits
    → shown ≡ length waits → take shown (ids_of waits) ≡ given_up_ids s.given_up
new_held process_of s waits shown given_up is =
    ap (λ n. take n (ids_of waits)) (is ∙ sym (length-map waits (λ w. w.process.id))) ∙ take-length (ids_of waits) ∙ sym (ids-given_up waits)
    ∙ ap given_up_ids (sym given_up.are)
