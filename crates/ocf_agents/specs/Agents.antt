-- The agents: their types, and the actions that each has.
use Rattle.std.specs.Prelude.{ℕ, Bool, true, false, List, codes}
use Rattle.ocf_types.specs.declared.action.Action.{Action}
use Rattle.ocf_types.specs.declared.action.Action.TheVariants.{Promote, Demote}
use Rattle.ocf_agents.specs.declared.agent.Agent.{Agent}
use Rattle.ocf_agents.specs.declared.agent.Agent.TheVariants.{Dummy, Stateful}

-- the type of an agent
abbrev pub agent_word : Agent → List ℕ
agent_word Dummy = codes "Dummy"
agent_word Stateful = codes "Stateful"

-- the actions of an agent, apart from its metadata: only the promotable one has those that change a role
abbrev pub has_action : Agent → Action → Bool
has_action Dummy Promote = false
has_action Dummy Demote = false
has_action agent action = true
