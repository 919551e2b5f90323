-- Agents, by their processes and their runs.
use Rattle.std.specs.Prelude.{◌≡◌, ℕ, ◌==◌, true, List, [], filter, map, not}
use Rattle.agent_system.specs.Sights.{GivenUp}
use Rattle.agent_system.specs.declared.agent_process.AgentProcess.{AgentProcess}
use Rattle.child_keeper.specs.declared.agents.Agent.{Agent}

-- the run of an agent
abbrev pub run_of : {C : Type 0} → Agent C → ℕ
run_of a = a.process.run

-- the runs of these agents, in order
abbrev pub runs_of : {C : Type 0} → List (Agent C) → List ℕ
runs_of = map (λ a. a.process.run)

-- their processes, in order
abbrev pub agent_processes : {C : Type 0} → List (Agent C) → List AgentProcess
agent_processes = map (λ a. a.process)

-- the agents of all other runs
abbrev pub others_of : {C : Type 0} → ℕ → List (Agent C) → List (Agent C)
others_of run = filter (λ a. not (a.process.run == run))

-- the agent's process is the one that it says
abbrev pub IsIts : {C : Type 0} → (C → AgentProcess) → Agent C → Type 0
IsIts process_of a = process_of a.child ≡ a.process

-- what is seen of an agent that was just given up: a child of which nothing else is known
abbrev pub just_given_up : {C : Type 0} → Agent C → GivenUp
just_given_up a = record { process = a.process; is_child = true; known = [] }
