-- Agents and waits as the system shows them, and the log of their starts.
use Rattle.std.specs.Prelude.{◌≡◌, ◌==◌, ◌<◌, ◌≤◌, ℕ, zero, suc, List, [], ◌∷◌, ◌++◌, All, Contains, cond, false, filter, map, not, true}
use Rattle.std.proofs.Common.{ap, append_assoc, arith, refl, subst, sym, ◌∙◌}
use Rattle.std.proofs.lemmas.List.{map-append}
use Rattle.std.proofs.lemmas.List.Elements.{All-append, All-contains, All-contains_itself, All-filter, All-from_recursion, All-nil, All-weaker}
use Rattle.agent_system.specs.Histories.{HaveOwnRuns, processes_of}
use Rattle.agent_system.specs.Sights.{Sights}
use Rattle.agent_system.specs.SystemView.{Spawned, SystemView, without_process}
use Rattle.agent_system.specs.declared.agent_process.AgentProcess.{AgentProcess}
use Rattle.child_keeper.specs.Agents.{IsIts, agent_processes, just_given_up, others_of}
use Rattle.child_keeper.specs.Keepers.{AreDistinct, AreEnding, AreFor, AreLive, AreNumbered, AreWaitsFor, run_started, started_runs}
use Rattle.child_keeper.specs.Waits.{IsWaitFor}
use Rattle.child_keeper.specs.declared.agents.Agent.{Agent}
use Rattle.child_keeper.specs.declared.wait.WaitOf.{WaitOf}
use Rattle.child_model.specs.declared.answer.Entry.{Entry}
use Rattle.process_ends.specs.Endings.{given_up_of}
use Rattle.process_ends.specs.declared.given_up.GivenUpAction.{GivenUpAction}

-- the processes of the agents of all other runs are the live processes of all other runs
pub processes-others : {C : Type 0} (run : ℕ) (agents : List (Agent C)) → agent_processes (others_of run agents)
    ≡ without_process run (agent_processes agents)
processes-others run [] = refl
processes-others run (a ∷ agents) =
    elim (a.process.run == run) as (λ b. agent_processes (cond (not b) (a ∷ others_of run agents) (others_of run agents))
    ≡ cond (not b) (a.process ∷ without_process run (agent_processes agents)) (without_process run (agent_processes agents))) [
      | true ↦ processes-others run agents
      | false ↦ ap (λ ps. a.process ∷ ps) (processes-others run agents)
    ]

-- what lives without a run, when its agent was removed
pub live-others : {C : Type 0} (process_of : C → AgentProcess) (run : ℕ) (s t : Sights) (agents : List (Agent C)) → AreLive process_of s agents
    → t.live ≡ without_process run s.live → AreLive process_of t (others_of run agents)
live-others process_of run s t agents live gone = record {
  are = gone ∙ ap (without_process run) live.are ∙ sym (processes-others run agents);
  its = All-filter _ (IsIts process_of) agents live.its;
}

-- what holds of one element
pub All-one : {X : Type 0} (P : X → Type 0) (x : X) → P x → All P (x ∷ [])
All-one P x h = All-from_recursion P (x ∷ []) (h, tt)

-- what a function gives at an element of a list
pub Contains-map : {X Y : Type 0} (f : X → Y) (xs : List X) (x : X) → Contains xs x → Contains (map f xs) (f x)
Contains-map f [] x (k, within, e) = absurd (omega (arith, within))
Contains-map f (y ∷ ys) x (zero, within, e) = (0, omega arith, ap f e)
Contains-map f (y ∷ ys) x (suc k, within, e) =
    let rest = Contains-map f ys x (k, omega (arith, within), e) in (suc rest.0, omega (arith, rest.1), rest.2)

-- the process of an agent that lives
pub lives_in : {C : Type 0} (process_of : C → AgentProcess) (s : Sights) (agents : List (Agent C)) (a : Agent C) → AreLive process_of s agents
    → Contains agents a → Contains s.live a.process
lives_in process_of s agents a live h =
    subst (λ ps. Contains ps a.process) (sym live.are) (Contains-map (λ x. x.process) agents a h)

-- an element that a filter left
pub Contains-filter : {X : Type 0} (p : X → _) (xs : List X) (x : X) → Contains (filter p xs) x → Contains xs x
Contains-filter p xs x h = All-contains (Contains xs) (filter p xs) x (All-filter p (Contains xs) xs (All-contains_itself xs)) h

pub distinct-others : (run : ℕ) (live : List AgentProcess) → AreDistinct live → AreDistinct (without_process run live)
distinct-others run live distinct = λ p q hp hq same. distinct p q (Contains-filter _ live p hp) (Contains-filter _ live q hq) same

-- the same was spawned
pub numbered_same : (v w : SystemView) (last : ℕ) → AreNumbered v last → w.spawned ≡ v.spawned → w.asked ≡ v.asked → AreNumbered w last
numbered_same v w last numbered spawned asked = record {
  unasked = asked ∙ numbered.unasked;
  runs = subst (λ (l : List Spawned). All (λ p. p.run ≤ last) (map (λ s. s.process) l)) (sym spawned) numbered.runs;
  distinct = subst (λ (l : List Spawned). HaveOwnRuns (map (λ s. s.process) l)) (sym spawned) numbered.distinct;
}

-- nothing was spawned yet
pub numbered_none : (w : SystemView) (last : ℕ) → w.spawned ≡ [] → w.asked ≡ [] → AreNumbered w last
numbered_none w last spawned asked = record {
  unasked = asked;
  runs = subst (λ (l : List Spawned). All (λ p. p.run ≤ last) (map (λ s. s.process) l)) (sym spawned) (All-nil (λ p. p.run ≤ last));
  distinct = subst (λ (l : List Spawned). HaveOwnRuns (map (λ s. s.process) l)) (sym spawned) (λ p q hp hq same. absurd (omega (arith, hp.1)));
}

-- a later run is the last
pub numbered_later : (v : SystemView) (last run : ℕ) → AreNumbered v last → last < run → AreNumbered v run
numbered_later v last run numbered above = record {
  unasked = numbered.unasked;
  runs = All-weaker (λ q. q.run ≤ last) (λ q. q.run ≤ run) (λ q h. omega (arith, h, above)) (processes_of v) numbered.runs;
  distinct = numbered.distinct;
}

-- one more entry of a log
pub started-one : (log : List Entry) (e : Entry) → started_runs (log ++ e ∷ []) ≡ started_runs log ++ run_started e.answer e.run
started-one [] e = append_nil (run_started e.answer e.run)
  where
    append_nil : (xs : List ℕ) → xs ++ [] ≡ [] ++ xs
    append_nil [] = refl
    append_nil (x ∷ xs) = ap (λ ys. x ∷ ys) (append_nil xs)
started-one (x ∷ log) e =
    ap (λ rest. run_started x.answer x.run ++ rest) (started-one log e)
    ∙ sym (append_assoc (run_started x.answer x.run) (started_runs log) (run_started e.answer e.run))

-- one more agent was given up
pub ending-one : {C M : Type 0} (process_of : C → AgentProcess) (s t : Sights) (waits : List (GivenUpAction WaitOf C M)) (agents : List (Agent C)) (a : Agent C)
    → AreEnding process_of s waits agents → IsIts process_of a → t.given_up ≡ s.given_up ++ just_given_up a ∷ []
    → AreEnding process_of t waits (agents ++ a ∷ [])
ending-one {C} process_of s t waits agents a ending its more = record {
  are = more ∙ ap (λ l. l ++ just_given_up a ∷ []) ending.are
      ∙ append_assoc (map given_up_of waits) (map just_given_up agents) (just_given_up a ∷ [])
      ∙ ap (λ l. map given_up_of waits ++ l) (sym (map-append just_given_up agents (a ∷ [])));
  matched = ending.matched;
  its = All-append (IsIts process_of) agents (a ∷ []) ending.its (All-one (IsIts process_of) a its);
}

-- waits for agents go on with one more
pub for-one : {C M : Type 0} (agents : List (Agent C)) (waits : List (GivenUpAction WaitOf C M)) (a : Agent C) (w : GivenUpAction WaitOf C M)
    → AreFor agents waits → IsWaitFor a w → AreFor (agents ++ a ∷ []) (waits ++ w ∷ [])
for-one [] [] a w are one = (one, tt)
for-one [] (x ∷ waits) a w are one = absurd are
for-one (b ∷ agents) [] a w are one = absurd are
for-one (b ∷ agents) (x ∷ waits) a w are one = (are.0, for-one agents waits a w are.1 one)

pub waits-one : {C M : Type 0} (agents : List (Agent C)) (old new last : List (GivenUpAction WaitOf C M)) (a : Agent C) (w : GivenUpAction WaitOf C M)
    → AreWaitsFor agents old new → IsWaitFor a w → last ≡ new ++ w ∷ [] → AreWaitsFor (agents ++ a ∷ []) old last
waits-one agents old new last a w are one more = (
  are.0 ++ w ∷ [],
  more ∙ ap (λ l. l ++ w ∷ []) are.1 ∙ append_assoc old are.0 (w ∷ []),
  for-one agents are.0 a w are.2 one,
)
