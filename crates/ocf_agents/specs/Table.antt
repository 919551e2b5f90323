-- The result of an action, by what it finds in the state file.
use Rattle.std.specs.Prelude.{◌≡◌, ◌≢◌, ℕ, List, codes}
use Rattle.ocf_types.specs.declared.action.Action.{Action}
use Rattle.ocf_types.specs.declared.action.Action.TheVariants.{Start, Stop, Monitor, Promote, Demote}
use Rattle.ocf_codes.specs.declared.exit_code.Code.{Code}
use Rattle.ocf_codes.specs.declared.exit_code.Code.TheVariants as code
use Rattle.ocf_agents.specs.declared.agent.Agent.{Agent}
use Rattle.ocf_agents.specs.declared.agent.Agent.TheVariants.{Dummy, Stateful}
use Rattle.ocf_agents.specs.declared.table.Role.{Role}
use Rattle.ocf_agents.specs.declared.table.Role.TheVariants.{Unpromoted, Promoted}
use Rattle.ocf_agents.specs.declared.table.Held.{Held}
use Rattle.ocf_agents.specs.declared.table.Held.TheVariants.{Absent, Named, Other}
use Rattle.ocf_agents.specs.declared.table.Deed.{Deed}
use Rattle.ocf_agents.specs.declared.table.Deed.TheVariants.{Leave, Make, MakeIn, Write, Remove}

-- the name of a role
abbrev pub role_word : Role → List ℕ
role_word Unpromoted = codes "unpromoted"
role_word Promoted = codes "promoted"

-- what a state file with this content holds
abbrev pub HoldsAs : List ℕ → Held → Type 0
HoldsAs content Absent = ⊥
HoldsAs content (Named role) = content ≡ role_word role
HoldsAs content Other = (role : Role) → content ≢ role_word role

-- the exit code of an action
abbrev pub code_for : Agent → Action → Held → Code
code_for Dummy Promote held = code.Unimplemented
code_for Dummy Demote held = code.Unimplemented
code_for Stateful Promote Absent = code.NotRunning
code_for Stateful Demote Absent = code.NotRunning
code_for agent Monitor Absent = code.NotRunning
code_for Stateful Monitor (Named Promoted) = code.RunningPromoted
code_for Stateful Monitor Other = code.Generic
code_for agent action held = code.Success

-- the deed of an action on the state file
abbrev pub deed_for : Agent → Action → Held → Deed
deed_for Dummy Start Absent = Make
deed_for Stateful Start Absent = MakeIn Unpromoted
deed_for agent Stop held = Remove
deed_for Stateful Promote (Named role) = Write Promoted
deed_for Stateful Promote Other = Write Promoted
deed_for Stateful Demote (Named role) = Write Unpromoted
deed_for Stateful Demote Other = Write Unpromoted
deed_for agent action held = Leave

-- what the state file holds after a deed
abbrev pub held_after : Deed → Held → Held
held_after Leave held = held
held_after Make held = Other
held_after (MakeIn role) held = Named role
held_after (Write role) held = Named role
held_after Remove held = Absent

-- what the state file holds after an action
abbrev pub held_by : Agent → Action → Held → Held
held_by agent action held = held_after (deed_for agent action held) held
