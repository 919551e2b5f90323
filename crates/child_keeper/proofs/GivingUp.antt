-- All agents are given up, one after another.
use Rattle.std.specs.Prelude.{◌≡◌, ◌⊎◌, ◌==◌, ◌+◌, ◌≤◌, ℕ, zero, suc, Bool, List, [], ◌∷◌, ◌++◌, Option, All, Contains, cond, drop, false, filter, length, map, not, true, vec_len}
use Rattle.std.proofs.Common.{ap, append_assoc, arith, inl, inr, refl, subst, sym, ◌∙◌}
use Rattle.std.proofs.lemmas.Bool.{cond_both, eqb-true}
use Rattle.std.proofs.lemmas.List.{append-nil, drop-append-le, map-append}
use Rattle.std.proofs.lemmas.List.Elements.{All-append, All-contains, All-contains_itself, All-map, All-nil, All-same, All-weaker, Contains-append_left, Contains-append_right}
use Rattle.agent_system.specs.Sights.{GivenUp, Sights}
use Rattle.agent_system.specs.SystemView.{SystemView, after_give_up, without_process}
use Rattle.agent_system.specs.declared.agent_process.AgentProcess.{AgentProcess}
use Rattle.child_keeper.specs.Agents.{IsIts, agent_processes, just_given_up}
use Rattle.child_keeper.specs.Keepers.{AreDistinct, AreEnding, AreLive, EndsAll, EndsFrom, GivesUpAll, IsMoved, KeeperInvariant, process_runs}
use Rattle.child_keeper.specs.declared.agents.Agent.{Agent}
use Rattle.child_keeper.specs.declared.agents.Agents.{Agents}
use Rattle.child_keeper.specs.declared.keeper.Keeper.{Keeper}
use Rattle.child_keeper.specs.declared.wait.WaitOf.{WaitOf}
use Rattle.agent_system.specs.declared.signal.Target.{Target}
use Rattle.agent_system.specs.declared.signal.Target.TheVariants as target
use Rattle.proc_files.specs.declared.process.Process.{Process}
use Rattle.process_ends.specs.Endings.{HasKill, HasKilled, HasLook, IsNoGroup, IsOneKilled, given_up_of}
use Rattle.process_ends.specs.declared.given_up.GivenUpAction.{GivenUpAction}
use Rattle.child_keeper.proofs.KeeperLemmas.{All-one, numbered_same}

-- these agents were given up so far: what lived before is theirs, or lives
pub record GivesUp {C : Type 0} (process_of : C → AgentProcess) (v w : SystemView) (old new : List (Agent C)) : Type 0 where
  pub agents : List (Agent C)
  pub its : All (IsIts process_of) agents
  pub appended : new ≡ old ++ agents
  pub all : (p : AgentProcess) → Contains v.sights.live p → Contains (agent_processes agents) p ⊎ Contains w.sights.live p
  pub after : w ≡ record v { sights = record v.sights { live = w.sights.live; given_up = v.sights.given_up ++ map just_given_up agents } }

-- none was given up yet
pub gives_none : {C : Type 0} (process_of : C → AgentProcess) (v : SystemView) (old : List (Agent C)) → GivesUp process_of v v old old
gives_none process_of v old = record {
  agents = [];
  its = All-nil (IsIts process_of);
  appended = sym (append-nil old);
  all = λ p h. inr h;
  after = λ i. record v { sights = record v.sights { given_up = sym (append-nil v.sights.given_up) i } };
}

-- an element that passes is left by a filter
pub filter_leaves : {X : Type 0} (p : X → Bool) (xs : List X) (x : X) → Contains xs x → p x ≡ true → Contains (filter p xs) x
filter_leaves p [] x h is = absurd (omega (arith, h.1))
filter_leaves p (y ∷ ys) x (zero, within, e) is =
    subst (λ b. Contains (cond b (y ∷ filter p ys) (filter p ys)) x) (sym (ap p e ∙ is)) (0, omega arith, e)
filter_leaves p (y ∷ ys) x (suc k, within, e) is =
    let rest = filter_leaves p ys x (k, omega (arith, within), e) is in
    cond_both (p y) (y ∷ filter p ys) (filter p ys) (λ l. Contains l x) (λ _. (suc rest.0, omega (arith, rest.1), rest.2)) (λ _. rest)

-- what lived before is the process that was given up, or lives after it
pub moved_or_lives : (w u : SystemView) (a p : AgentProcess) → AreDistinct w.sights.live → Contains w.sights.live a → u ≡ after_give_up w a
    → Contains w.sights.live p → (p ≡ a) ⊎ Contains u.sights.live p
moved_or_lives w u a p distinct lives after h = by (p.run == a.run) refl
  where
    by : (b : Bool) → (p.run == a.run) ≡ b → (p ≡ a) ⊎ Contains u.sights.live p
    by true is = inl (distinct p a h lives (eqb-true p.run a.run is))
    by false is = inr
        (subst (λ x. Contains x.sights.live p) (sym after) (filter_leaves (λ q. not (q.run == a.run)) w.sights.live p h (ap not is)))

-- one more was given up
pub gives_one : {C : Type 0} (process_of : C → AgentProcess) (run : ℕ) (v w u : SystemView) (old new last : List (Agent C)) → GivesUp process_of v w old new
    → AreDistinct w.sights.live → IsMoved process_of run w u new last → GivesUp process_of v u old last
gives_one {C} process_of run v w u old new last given distinct moved =
    let a = moved.agent in
    record {
      agents = given.agents ++ a ∷ [];
      its = All-append (IsIts process_of) given.agents (a ∷ []) given.its (All-one (IsIts process_of) a moved.its);
      appended = moved.appended ∙ ap (λ l. l ++ a ∷ []) given.appended ∙ append_assoc old given.agents (a ∷ []);
      all = λ p h. subst (λ l. Contains l p ⊎ Contains u.sights.live p) (sym (map-append (λ x. x.process) given.agents (a ∷ [])))
          (elim (given.all p h) [
            | inl before ↦ inl (Contains-append_left (agent_processes given.agents) (a.process ∷ []) p before)
            | inr now ↦ elim (moved_or_lives w u a.process p distinct moved.lives moved.after now) [
              | inl is ↦ inl (Contains-append_right (agent_processes given.agents) (a.process ∷ []) p (0, omega arith, sym is))
              | inr lives ↦ inr lives
            ]
          ]);
      after = moved.after ∙ ap (λ x. after_give_up x a.process) given.after
          ∙ (λ i. record v { sights = record v.sights { live = live i; given_up = more i } });
    }
  where
    live : without_process moved.agent.process.run w.sights.live ≡ u.sights.live
    live = sym (ap (λ x. x.sights.live) moved.after)

    more : (v.sights.given_up ++ map just_given_up given.agents) ++ just_given_up moved.agent ∷ []
        ≡ v.sights.given_up ++ map just_given_up (given.agents ++ moved.agent ∷ [])
    more =
        append_assoc v.sights.given_up (map just_given_up given.agents) (just_given_up moved.agent ∷ [])
        ∙ ap (λ l. v.sights.given_up ++ l) (sym (map-append just_given_up given.agents (moved.agent ∷ [])))

-- once none lives, all were given up
pub gives_all : {C : Type 0} (process_of : C → AgentProcess) (v w : SystemView) (old new : List (Agent C)) → GivesUp process_of v w old new
    → w.sights.live ≡ [] → GivesUpAll process_of v w old new
gives_all process_of v w old new given none = record {
  agents = given.agents;
  its = given.its;
  appended = given.appended;
  all = λ p h. elim (given.all p h) [
    | inl is ↦ is
    | inr lives ↦ absurd (omega (arith, (subst (λ l. Contains l p) none lives).1))
  ];
  after = given.after
      ∙ ap (λ l. record v { sights = record v.sights { live = l; given_up = v.sights.given_up ++ map just_given_up given.agents } }) none;
}

-- what was killed since a later view was killed since an earlier one, after which no signal was requested and nothing was looked at
module _ (v u w : SystemView) (sent : u.sent ≡ v.sent) (looked : u.looked ≡ v.looked) where
  kill_before : (to : Target) → HasKill u w to → HasKill v w to
  kill_before to h = (h.0, h.1 ∙ ap (λ l. l ++ h.0) sent, h.2)

  look_before : (pid : ℕ) (answer : Option (Option Process)) → HasLook u w pid answer → HasLook v w pid answer
  look_before pid answer h = (h.0, h.1 ∙ ap (λ l. l ++ h.0) looked, h.2)

  no_group_before : (g : GivenUp) → IsNoGroup u w g → IsNoGroup v w g
  no_group_before g (inl h) = inl (h.0, look_before g.process.pid h.0 h.1, h.2, h.3)
  no_group_before g (inr own) = inr own

  group_before : (g : GivenUp) → HasKill u w (target.Group g.process.pid) ⊎ IsNoGroup u w g → HasKill v w (target.Group g.process.pid) ⊎ IsNoGroup v w g
  group_before g (inl h) = inl (kill_before (target.Group g.process.pid) h)
  group_before g (inr none) = inr (no_group_before g none)

  one_before : (group : ℕ) (q : Process) → IsOneKilled u w group q → IsOneKilled v w group q
  one_before group q (inl h) = inl (kill_before (target.Process q.pid) h)
  one_before group q (inr (inl h)) = inr (inl (h.0, kill_before (target.Group group) h.1))
  one_before group q (inr (inr h)) = inr (inr (h.0, look_before q.pid h.0 h.1, h.2))

  pub killed_before : (p : AgentProcess) → HasKilled u w p → HasKilled v w p
  killed_before p h = (
    h.0,
    h.1,
    record {
      group = group_before h.0 h.2.group;
      agent = λ is. kill_before (target.Process h.0.process.pid) (h.2.agent is);
      known = All-weaker (IsOneKilled u w h.0.process.pid) (IsOneKilled v w h.0.process.pid) (one_before h.0.process.pid) h.0.known h.2.known;
    },
  )

-- what holds of all elements of two lists holds of those of each
All-left : {X : Type 0} (P : X → Type 0) (xs ys : List X) → All P (xs ++ ys) → All P xs
All-left P xs ys all = All-weaker (Contains xs) P (λ x h. All-contains P (xs ++ ys) x all (Contains-append_left xs ys x h)) xs (All-contains_itself xs)

-- the processes of agents that were just given up
processes-just : {C : Type 0} (agents : List (Agent C)) → agent_processes agents ≡ map (λ x. x.process) (map just_given_up agents)
processes-just [] = refl
processes-just (a ∷ agents) = ap (λ l. a.process ∷ l) (processes-just agents)

-- once all were given up and then killed
pub ends_all : {C : Type 0} (process_of : C → AgentProcess) (shown : ℕ) (v u w : SystemView) (old new : List (Agent C)) → shown ≤ length v.sights.given_up
    → GivesUpAll process_of v u old new → EndsFrom shown u w → EndsAll shown v w
ends_all process_of shown v u w old new within given ends = record {
  live = ends.ends.live ∙ ap (λ x. x.sights.live) given.after;
  own = ends.ends.own ∙ ap (λ x. x.sights.own) given.after;
  spawned = ends.ends.spawned ∙ ap (λ x. x.spawned) given.after;
  asked = ends.ends.asked ∙ ap (λ x. x.asked) given.after;
  let_run = ends.ends.let_run ∙ ap (λ x. x.let_run) given.after;
  polled = ends.ends.polled ∙ ap (λ x. x.polled) given.after;
  found = ends.ends.found ∙ ap (λ x. x.found) given.after;
  killed_live = All-weaker (Contains v.sights.live) (HasKilled v w) (λ p h. since p (its p (given.all p h))) v.sights.live
      (All-contains_itself v.sights.live);
  killed = All-weaker (λ x. HasKilled u w x.process) (λ x. HasKilled v w x.process) (λ x h. since x.process h) (drop shown v.sights.given_up)
      (All-left (λ x. HasKilled u w x.process) (drop shown v.sights.given_up) (map just_given_up given.agents) all);
}
  where
    since : (p : AgentProcess) → HasKilled u w p → HasKilled v w p
    since p h = killed_before v u w (ap (λ x. x.sent) given.after) (ap (λ x. x.looked) given.after) p h

    all : All (λ x. HasKilled u w x.process) (drop shown v.sights.given_up ++ map just_given_up given.agents)
    all = All-same (λ x. HasKilled u w x.process) (drop shown v.sights.given_up ++ map just_given_up given.agents) (drop shown u.sights.given_up)
        (sym (ap (λ x. drop shown x.sights.given_up) given.after ∙ drop-append-le shown v.sights.given_up (map just_given_up given.agents) within))
        ends.killed

    its : (p : AgentProcess) → Contains (agent_processes given.agents) p → HasKilled u w p
    its p h = All-contains (HasKilled u w) (map (λ x. x.process) (drop shown v.sights.given_up ++ map just_given_up given.agents)) p
        (All-map (HasKilled u w) (λ x. x.process) (drop shown v.sights.given_up ++ map just_given_up given.agents) all)
        (subst (λ l. Contains l p) (sym (map-append (λ x. x.process) (drop shown v.sights.given_up) (map just_given_up given.agents)))
        (Contains-append_right (map (λ x. x.process) (drop shown v.sights.given_up)) (map (λ x. x.process) (map just_given_up given.agents)) p
        (subst (λ l. Contains l p) (processes-just given.agents) h)))

-- more agents were given up
pub ending-many : {C M : Type 0} (process_of : C → AgentProcess) (s t : Sights) (waits : List (GivenUpAction WaitOf C M)) (old agents : List (Agent C))
    → AreEnding process_of s waits old → All (IsIts process_of) agents → t.given_up ≡ s.given_up ++ map just_given_up agents
    → AreEnding process_of t waits (old ++ agents)
ending-many process_of s t waits old agents ending its more = record {
  are = more ∙ ap (λ l. l ++ map just_given_up agents) ending.are
      ∙ append_assoc (map given_up_of waits) (map just_given_up old) (map just_given_up agents)
      ∙ ap (λ l. map given_up_of waits ++ l) (sym (map-append just_given_up old agents));
  matched = ending.matched;
  its = All-append (IsIts process_of) old agents ending.its its;
}

-- the invariant after all agents were given up
pub give_up_all_keeps : {R C M : Type 0} (view : R → SystemView) (process_of : C → AgentProcess) (k : Keeper R C M) (rt : R) (agents : Agents C M)
    → KeeperInvariant view process_of k → agents.agents.items ≡ [] → GivesUpAll process_of (view k.rt) (view rt) k.agents.given_up.items agents.given_up.items
    → vec_len agents.agents + vec_len agents.given_up ≤ vec_len k.agents.agents + vec_len k.agents.given_up
    → KeeperInvariant view process_of (record k { rt = rt; agents = agents })
give_up_all_keeps view process_of k rt agents kept none given few = record {
  live = subst (AreLive process_of (view rt).sights) (sym none) (record { are = no_live; its = All-nil (IsIts process_of) });
  given_up = subst (AreEnding process_of (view rt).sights k.waits.waits.items) (sym given.appended)
      (ending-many process_of (view k.rt).sights (view rt).sights k.waits.waits.items k.agents.given_up.items given.agents kept.given_up
      given.its (ap (λ x. x.sights.given_up) given.after));
  runs = subst (All (λ p. p.run ≤ k.last_run)) (sym no_live) (All-nil (λ p. p.run ≤ k.last_run));
  distinct = subst AreDistinct (sym no_live) (λ p q hp hq same. absurd (omega (arith, hp.1)));
  room = omega (arith, kept.room, few);
  shown = kept.shown;
  fresh = kept.fresh;
  started = ap (λ x. process_runs x.let_run) given.after ∙ kept.started;
  numbered = numbered_same (view k.rt) (view rt) k.last_run kept.numbered (ap (λ x. x.spawned) given.after) (ap (λ x. x.asked) given.after);
}
  where
    no_live : (view rt).sights.live ≡ []
    no_live = ap (λ x. x.sights.live) given.after
