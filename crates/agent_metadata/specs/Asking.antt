-- One agent that is asked, while no other agent of this view lives.
use Rattle.std.specs.Prelude.{◌≡◌, ◌⊎◌, ℕ, List, [], ◌∷◌, ◌++◌, Option}
use Rattle.agent_system.specs.Sights.{Sights}
use Rattle.agent_system.specs.SystemView.{SystemView}
use Rattle.agent_system.specs.declared.agent_process.AgentProcess.{AgentProcess}
use Rattle.ocf_env.specs.Locations.{Call}
use Rattle.process_ends.specs.Endings.{HasKilled}

-- no agent lives, and none that was given up may be left
pub record IsIdle (s : Sights) : Type 0 where
  pub live : s.live ≡ []
  pub given_up : s.given_up ≡ []

-- this agent lives and no other, and none that was given up may be left
pub record IsAlone (s : Sights) (p : AgentProcess) : Type 0 where
  pub live : s.live ≡ p ∷ []
  pub given_up : s.given_up ≡ []

-- exactly one agent was asked, by this call and this leader, and none was spawned for a run
pub record AsksOne (leader : Option (List ℕ)) (call : Call) (v w : SystemView) (p : AgentProcess) : Type 0 where
  pub asked : w.asked ≡ v.asked ++ record { process = p; call = call; leader = leader } ∷ []
  pub spawned : w.spawned ≡ v.spawned

-- exactly one agent was asked, and let run
pub record RunsOne (leader : Option (List ℕ)) (call : Call) (v w : SystemView) (p : AgentProcess) : Type 0 where
  pub asks : AsksOne leader call v w p
  pub let_run : w.let_run ≡ v.let_run ++ p ∷ []

-- exactly one agent was asked, could not be let run, and was given up and killed
pub record IsNotRun (leader : Option (List ℕ)) (call : Call) (v w : SystemView) : Type 0 where
  pub process : AgentProcess
  pub asks : AsksOne leader call v w process
  pub let_run : w.let_run ≡ v.let_run
  pub live : w.sights.live ≡ []
  pub killed : HasKilled v w process

-- no agent was asked, or one that could not be let run
abbrev pub IsRefused : Option (List ℕ) → Call → SystemView → SystemView → Type 0
IsRefused leader call v w = (w ≡ v) ⊎ IsNotRun leader call v w

-- exactly one agent was asked, by a call of this kind, and let run
abbrev pub AsksFor : Option (List ℕ) → (Call → Type 0) → SystemView → SystemView → AgentProcess → Type 0
AsksFor leader Is v w p = (call : Call) × Is call × RunsOne leader call v w p

-- no agent was asked, or one by a call of this kind that could not be let run
abbrev pub AsksForNone : Option (List ℕ) → (Call → Type 0) → SystemView → SystemView → Type 0
AsksForNone leader Is v w = (w ≡ v) ⊎ ((call : Call) × Is call × IsNotRun leader call v w)

-- no agent was asked, spawned or let run
pub record AsksNone (v w : SystemView) : Type 0 where
  pub spawned : w.spawned ≡ v.spawned
  pub asked : w.asked ≡ v.asked
  pub let_run : w.let_run ≡ v.let_run

-- no signal was sent, and no number was looked at
pub record SendsNone (v w : SystemView) : Type 0 where
  pub sent : w.sent ≡ v.sent
  pub looked : w.looked ≡ v.looked

-- nothing was asked of the system but whether agents have ended
abbrev pub OnlyPolls : SystemView → SystemView → Type 0
OnlyPolls v w = AsksNone v w × SendsNone v w

-- the agent was given up and killed, and lives no longer as far as this view has it
pub record EndsOne (v w : SystemView) (p : AgentProcess) : Type 0 where
  pub none : AsksNone v w
  pub polled : w.polled ≡ v.polled
  pub live : w.sights.live ≡ []
  pub killed : HasKilled v w p
