-- The call of the agent of an action that is run once.
use Rattle.ocf_types.specs.Kinds.{Registration}
use Rattle.ocf_env.specs.Invocations.{IsInvocation}
use Rattle.ocf_env.specs.Locations.{Call, SiteView}
use Rattle.agent_metadata.specs.MetaCalls.{IsMetaCall}
use Rattle.exec_once.specs.declared.call.OnceCall.{OnceCall}
use Rattle.exec_once.specs.declared.call.What.{What}
use Rattle.exec_once.specs.declared.call.What.TheVariants.{MetaData, Action}

-- the resource of an action that is run once
abbrev pub registration_of : OnceCall → Registration
registration_of c = record { id = c.id; provider = c.provider; agent = c.agent; params = c.params }

-- a call asks the agent for exactly what is to be run once
abbrev pub IsCallOf : SiteView → OnceCall → What → Call → Type 0
IsCallOf site c MetaData call = IsMetaCall site c.provider c.agent call
IsCallOf site c (Action running) call = IsInvocation site (registration_of c) running call

-- the same by what the call to be run once names
abbrev pub IsCallFor : SiteView → OnceCall → Call → Type 0
IsCallFor site c call = IsCallOf site c c.what call
