-- The call that the last argument and the environment ask for, or the exit code of their refusal.
use Rattle.std.specs.Prelude.{◌≡◌, ◌≢◌, ◌⊎◌, ℕ, List, [], Option, Some, None, Result, Ok, Err, IsTrue, codes}
use Rattle.ocf_types.specs.Actions.{action_word}
use Rattle.ocf_types.specs.declared.action.Action.{Action}
use Rattle.ocf_codes.specs.declared.exit_code.Code.{Code}
use Rattle.ocf_codes.specs.declared.exit_code.Code.TheVariants as code
use Rattle.ocf_agents.specs.declared.agent.Agent.{Agent}
use Rattle.ocf_agents.specs.declared.call.Call.{Call}
use Rattle.ocf_agents.specs.declared.call.Call.TheVariants.{Metadata, Act}
use Rattle.ocf_agents.specs.Agents.{agent_word, has_action}

-- an argument or a variable, if it is given
abbrev pub Text : Type 0
Text = Option (List ℕ)

-- the word for the metadata
abbrev pub metadata_word : List ℕ
metadata_word = codes "meta-data"

-- the type names an agent
abbrev pub Types : Text → Agent → Type 0
Types type agent = type ≡ Some (agent_word agent)

-- the word names an action of this agent, apart from its metadata
abbrev pub Asks : Text → Agent → Action → Type 0
Asks word agent action = (word ≡ Some (action_word action)) × IsTrue (has_action agent action)

-- there is no state file, or it has no name
abbrev pub IsBlank : Text → Type 0
IsBlank state = (state ≡ None) ⊎ (state ≡ Some [])

-- the call that the last argument, the type and the state file's name ask for, in this order
abbrev pub IsCall : Text → Text → Text → Call → Type 0
IsCall word type state (Metadata agent) = Types type agent × (word ≡ Some metadata_word)
IsCall word type state (Act agent action path) =
    Types type agent × Asks word agent action × (state ≡ Some path.now) × (path.now ≢ [])

-- the first error: no argument; no agent of this type; no such action of the agent; no state file
abbrev pub IsRefusal : Text → Text → Text → Code → Type 0
IsRefusal word type state code.Args = word ≡ None
IsRefusal word type state code.Installed = (word ≢ None) × ((agent : Agent) → ¬ (Types type agent))
IsRefusal word type state code.Unimplemented =
    (agent : Agent) × Types type agent × (word ≢ None) × (word ≢ Some metadata_word)
    × ((action : Action) → ¬ (Asks word agent action))
IsRefusal word type state code.Configured =
    (agent : Agent) × (action : Action) × Types type agent × Asks word agent action × IsBlank state
IsRefusal word type state _ = ⊥

-- the result of reading them
abbrev pub IsRead : Text → Text → Text → Result Call Code → Type 0
IsRead word type state (Ok call) = IsCall word type state call
IsRead word type state (Err refusal) = IsRefusal word type state refusal
