-- The invariant of a keeper after all that was given up was ended.
use Rattle.std.specs.Prelude.{◌≡◌, ◌≤◌, ℕ, List, [], ◌∷◌, ◌++◌, None, All, Vec, drop, is_some, length, map, take, vec_len}
use Rattle.std.proofs.Common.{ap, arith, inl, inr, refl, rules, subst, sym, ◌∙◌}
use Rattle.std.proofs.lemmas.List.{append-nil, drop-append-le, drop-map, drop_all, length-append, length-map, map-append}
use Rattle.std.proofs.lemmas.List.Elements.{All-append, All-cons, All-drop, All-head, All-map, All-nil, All-same, All-tail}
use Rattle.std.proofs.Math.Seq.{take-length}
use Rattle.agent_system.specs.Sights.{Sights}
use Rattle.agent_system.specs.SystemView.{SystemView}
use Rattle.agent_system.specs.declared.agent_process.AgentProcess.{AgentProcess}
use Rattle.child_keeper.specs.Agents.{IsIts, just_given_up, runs_of}
use Rattle.child_keeper.specs.Keepers.{AreDistinct, AreEnding, AreFor, AreLive, AreWaitsFor, KeeperInvariant, children_of, process_runs}
use Rattle.child_keeper.specs.Waits.{IsFresh, IsPart, IsWaitFor, ids_of}
use Rattle.child_keeper.specs.declared.agents.Agent.{Agent}
use Rattle.child_keeper.specs.declared.agents.Agents.{Agents}
use Rattle.child_keeper.specs.declared.keeper.Keeper.{Keeper}
use Rattle.child_keeper.specs.declared.wait.WaitOf.{WaitOf}
use Rattle.child_keeper.specs.declared.waits.Waits.{Waits}
use Rattle.child_keeper.proofs.KeeperLemmas.{numbered_same}
use Rattle.child_model.specs.Children.{after_ends}
use Rattle.process_ends.specs.Endings.{AreGivenUp, HasKilled, IsMatched, OnlyEnds, given_up_of, processes}
use Rattle.process_ends.specs.declared.given_up.GivenUpAction.{GivenUpAction}

-- the wait for an agent that was just given up
pub given_up_for : {C M : Type 0} (a : Agent C) (w : GivenUpAction WaitOf C M) → IsWaitFor a w → given_up_of w ≡ just_given_up a
given_up_for a w for = λ i. record { process = for.process i; is_child = ap is_some for.child i; known = for.known i }

pub matched_for : {C M : Type 0} (process_of : C → AgentProcess) (a : Agent C) (w : GivenUpAction WaitOf C M) → IsWaitFor a w → IsIts process_of a
    → IsMatched process_of w
matched_for process_of a w for its =
    subst (λ child. IsMatched process_of (record w { child = child })) (sym for.child) (its ∙ sym for.process)

-- the waits for agents that were given up
pub given-up-for : {C M : Type 0} (agents : List (Agent C)) (waits : List (GivenUpAction WaitOf C M)) → AreFor agents waits
    → map given_up_of waits ≡ map just_given_up agents
given-up-for [] [] are = refl
given-up-for [] (w ∷ waits) are = absurd are
given-up-for (a ∷ agents) [] are = absurd are
given-up-for (a ∷ agents) (w ∷ waits) are =
    ap (λ u. u ∷ map given_up_of waits) (given_up_for a w are.0) ∙ ap (λ us. just_given_up a ∷ us) (given-up-for agents waits are.1)

pub matched-for : {C M : Type 0} (process_of : C → AgentProcess) (agents : List (Agent C)) (waits : List (GivenUpAction WaitOf C M)) → AreFor agents waits
    → All (IsIts process_of) agents → All (IsMatched process_of) waits
matched-for process_of [] [] are its = All-nil (IsMatched process_of)
matched-for process_of [] (w ∷ waits) are its = absurd are
matched-for process_of (a ∷ agents) [] are its = absurd are
matched-for process_of (a ∷ agents) (w ∷ waits) are its =
    All-cons (IsMatched process_of) w waits (matched_for process_of a w are.0 (All-head (IsIts process_of) a agents its))
    (matched-for process_of agents waits are.1 (All-tail (IsIts process_of) a agents its))

pub fresh-for : {C M : Type 0} (agents : List (Agent C)) (waits : List (GivenUpAction WaitOf C M)) → AreFor agents waits → All IsFresh waits
fresh-for [] [] are = All-nil IsFresh
fresh-for [] (w ∷ waits) are = absurd are
fresh-for (a ∷ agents) [] are = absurd are
fresh-for (a ∷ agents) (w ∷ waits) are = All-cons IsFresh w waits are.0.fresh (fresh-for agents waits are.1)

pub length-for : {C M : Type 0} (agents : List (Agent C)) (waits : List (GivenUpAction WaitOf C M)) → AreFor agents waits → length waits ≡ length agents
length-for [] [] are = refl
length-for [] (w ∷ waits) are = absurd are
length-for (a ∷ agents) [] are = absurd are
length-for (a ∷ agents) (w ∷ waits) are = omega (arith, length-for agents waits are.1)

-- the length of a vector
pub size : {X M : Type 0} (v : Vec X M) → length v.items ≡ vec_len v
size v = search rules

-- a part of a list is no longer
pub length-part : {X : Type 0} (xs ys : List X) → IsPart xs ys → length xs ≤ length ys
length-part xs [] part = omega (arith, ap length part)
length-part xs (y ∷ ys) (inl part) = omega (arith, length-part xs ys part)
length-part xs (y ∷ ys) (inr part) = omega (arith, ap length part.1, length-part part.0 ys part.2)

-- once each agent that was given up has a wait, the waits are all that was given up
pub given_up_waits : {C M : Type 0} (process_of : C → AgentProcess) (s : Sights) (old new : List (GivenUpAction WaitOf C M)) (agents : List (Agent C))
    → AreEnding process_of s old agents → AreWaitsFor agents old new → AreGivenUp process_of s new
given_up_waits process_of s old new agents ending waits = record {
  are = ending.are ∙ ap (λ l. map given_up_of old ++ l) (sym (given-up-for agents waits.0 waits.2)) ∙ sym (map-append given_up_of old waits.0)
      ∙ ap (map given_up_of) (sym waits.1);
  matched = All-same (IsMatched process_of) new (old ++ waits.0) waits.1
      (All-append (IsMatched process_of) old waits.0 ending.matched (matched-for process_of agents waits.0 waits.2 ending.its));
}

-- all that are not shown are fresh
pub fresh_waits : {C M : Type 0} (shown : ℕ) (old new : List (GivenUpAction WaitOf C M)) (agents : List (Agent C)) → shown ≤ length old
    → All IsFresh (drop shown old) → AreWaitsFor agents old new → All IsFresh (drop shown new)
fresh_waits shown old new agents within fresh waits =
    All-same IsFresh (drop shown new) (drop shown old ++ waits.0) (ap (drop shown) waits.1 ∙ drop-append-le shown old waits.0 within)
    (All-append IsFresh (drop shown old) waits.0 fresh (fresh-for agents waits.0 waits.2))

-- all that was given up since that many were shown was killed
pub killed_from : {C M : Type 0} (process_of : C → AgentProcess) (shown : ℕ) (v w : SystemView) (waits : List (GivenUpAction WaitOf C M))
    → AreGivenUp process_of v.sights waits → All IsFresh (drop shown waits) → All (λ x. IsFresh x → HasKilled v w x.process) waits
    → All (λ u. HasKilled v w u.process) (drop shown v.sights.given_up)
killed_from process_of shown v w waits given_up fresh killed =
    All-same (λ u. HasKilled v w u.process) (drop shown v.sights.given_up) (map given_up_of (drop shown waits))
    (ap (drop shown) given_up.are ∙ drop-map given_up_of shown waits)
    (All-map (λ u. HasKilled v w u.process) given_up_of (drop shown waits)
    (λ k d h. All-drop (λ x. IsFresh x → HasKilled v w x.process) shown waits killed k d h (fresh k d h)))

-- the invariant after all that was given up was ended
pub end_keeps : {R C M : Type 0} (view : R → SystemView) (process_of : C → AgentProcess) (k : Keeper R C M) (rt : R) (agents : Agents C M) (mid waits : Waits C M) (shown : ℕ)
    → KeeperInvariant view process_of k → agents.given_up.items ≡ [] → agents.agents ≡ k.agents.agents
    → AreWaitsFor k.agents.given_up.items k.waits.waits.items mid.waits.items → AreGivenUp process_of (view rt).sights waits.waits.items
    → OnlyEnds (view k.rt) (view rt) → IsPart (processes waits.waits.items) (processes mid.waits.items)
    → shown ≡ vec_len waits.waits → KeeperInvariant view process_of (record k { rt = rt; agents = agents; waits = waits; shown = shown })
end_keeps view process_of k rt agents mid waits shown kept none live for given_up ends part all =
    record {
      live = subst (λ l. AreLive process_of (view rt).sights l.items) (sym live)
          (record { are = ends.live ∙ kept.live.are; its = kept.live.its });
      given_up = subst (AreEnding process_of (view rt).sights waits.waits.items) (sym none)
          (record {
            are = given_up.are ∙ sym (append-nil (map given_up_of waits.waits.items));
            matched = given_up.matched;
            its = All-nil (IsIts process_of);
          });
      runs = subst (All (λ p. p.run ≤ k.last_run)) (sym ends.live) kept.runs;
      distinct = subst AreDistinct (sym ends.live) kept.distinct;
      room = omega (
        arith,
        kept.room,
        ap (λ l. vec_len l) live,
        size agents.given_up,
        ap length none,
        size waits.waits,
        size mid.waits,
        size k.waits.waits,
        size k.agents.given_up,
        length-part (processes waits.waits.items) (processes mid.waits.items) part,
        length-map waits.waits.items (λ a. a.process),
        length-map mid.waits.items (λ a. a.process),
        ap length for.1,
        length-append k.waits.waits.items for.0,
        length-for k.agents.given_up.items for.0 for.2,
      );
      shown = omega (arith, all);
      fresh = All-same IsFresh (drop shown waits.waits.items) []
          (drop_all shown waits.waits.items (omega (arith, size waits.waits, all))) (All-nil IsFresh);
      started = ap process_runs ends.let_run ∙ kept.started;
      numbered = numbered_same (view k.rt) (view rt) k.last_run kept.numbered ends.spawned ends.asked;
    }

-- the children after it
pub end_children : {R C M : Type 0} (k : Keeper R C M) (rt : R) (agents : Agents C M) (waits : Waits C M) (shown : ℕ)
    → agents.given_up.items ≡ [] → agents.agents ≡ k.agents.agents → shown ≡ vec_len waits.waits
    → children_of (record k { rt = rt; agents = agents; waits = waits; shown = shown })
    ≡ after_ends (children_of k) (ids_of waits.waits.items)
end_children k rt agents waits shown none live is = λ i. record {
  book = k.book.entries.items;
  log = k.book.log.items;
  room = k.book.room;
  last_run = k.last_run;
  live = ap (λ l. runs_of l.items) live i;
  given_up = ap runs_of none i;
  held = all i;
  site = None;
}
  where
    all : take shown (ids_of waits.waits.items) ≡ ids_of waits.waits.items
    all =
        ap (λ n. take n (ids_of waits.waits.items)) (is ∙ sym (size waits.waits) ∙ sym (length-map waits.waits.items (λ w. w.process.id)))
        ∙ take-length (ids_of waits.waits.items)
