-- The lengths of the names of actions.
use Rattle.std.proofs.Common.{◌≤◌, length, lit≤}
use Rattle.ocf_types.specs.Actions.{action_word}
use Rattle.ocf_types.specs.declared.action.Action.{Action}
use Rattle.ocf_types.specs.declared.action.Action.TheVariants.{Start, Stop, Monitor, Promote, Demote, ReloadAgent, ValidateAll}

pub words : (a : Action) → length (action_word a) ≤ 12
words Start = lit≤ tt
words Stop = lit≤ tt
words Monitor = lit≤ tt
words Promote = lit≤ tt
words Demote = lit≤ tt
words ReloadAgent = lit≤ tt
words ValidateAll = lit≤ tt
