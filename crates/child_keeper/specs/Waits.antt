-- Resources that are held, and when the processes are killed that they wait for.
use Rattle.std.specs.Prelude.{◌≡◌, ◌⊎◌, ℕ, ◌+◌, true, false, List, [], ◌∷◌, Some, None, if◌then◌else◌, map, max, min, nat_le}
use Rattle.agent_system.specs.SystemView.{process_in}
use Rattle.agents_file.specs.declared.entry.AgentEntry.{AgentEntry}
use Rattle.child_keeper.specs.declared.agents.Agent.{Agent}
use Rattle.child_keeper.specs.declared.wait.WaitOf.{WaitOf}
use Rattle.process_ends.specs.declared.given_up.GivenUpAction.{GivenUpAction}

-- the ids of the resources that wait, in the order in which their waits began
abbrev pub ids_of : {C M : Type 0} → List (GivenUpAction WaitOf C M) → List (List ℕ)
ids_of = map (λ w. w.process.id)

-- a wait begins: it was not reported, and its processes are killed at the next look
abbrev pub IsFresh : {C M : Type 0} → GivenUpAction WaitOf C M → Type 0
IsFresh w = (w.what.until ≡ 0) × (w.what.is_reported ≡ false)

-- this is the wait for an agent that was given up
pub record IsWaitFor {C M : Type 0} (agent : Agent C) (w : GivenUpAction WaitOf C M) : Type 0 where
  pub process : w.process ≡ agent.process
  pub child : w.child ≡ Some agent.child
  pub known : w.known.items ≡ []
  pub fresh : IsFresh w

-- this is the wait for an agent that an earlier executor spawned
pub record IsWaitIn {C M : Type 0} (entry : AgentEntry) (w : GivenUpAction WaitOf C M) : Type 0 where
  pub process : w.process ≡ process_in entry
  pub child : w.child ≡ None
  pub known : w.known.items ≡ []

-- a wait, marked if its processes are to be killed at this reading of the monotonic clock
abbrev pub marked : {C M : Type 0} → ℕ → GivenUpAction WaitOf C M → GivenUpAction WaitOf C M
marked now w = record w { is_due = nat_le w.what.until now }

-- a wait after its processes were killed, if that was due: they are killed again at this reading of the clock
abbrev pub settled : {C M : Type 0} → ℕ → GivenUpAction WaitOf C M → GivenUpAction WaitOf C M
settled until w =
    if w.is_due then record w { is_due = false; what = record w.what { until = until; is_killed = true } } else w

-- a wait that was reported
abbrev pub reported : {C M : Type 0} → GivenUpAction WaitOf C M → GivenUpAction WaitOf C M
reported w = record w { what = record w.what { is_reported = true } }

-- the first list has elements of the second, each once, in its order
abbrev pub IsPart : {X : Type 0} → List X → List X → Type 0
IsPart xs [] = xs ≡ []
IsPart xs (y ∷ ys) = IsPart xs ys ⊎ ((rest : List _) × (xs ≡ y ∷ rest) × IsPart rest ys)

-- when an agent of an earlier executor is killed, in milliseconds: when its timeout has passed, but no later than the limit from now
-- on, and no sooner than a second from now
abbrev pub killed_at : AgentEntry → ℕ → ℕ → ℕ
killed_at entry limit now = max (min (entry.began + entry.timeout) (now + limit)) (now + 1000)
