-- Keys of operations.
use Rattle.std.specs.Prelude.{ℕ, List, ◌++◌, codes, decimal}
use Rattle.ocf_types.specs.Actions.{action_word}
use Rattle.ocf_types.specs.declared.action.Action.{Action}

-- Pacemaker Explained, resource operations: the resource, the action and the interval in milliseconds
abbrev pub key_text : List ℕ → Action → ℕ → List ℕ
key_text id action interval = id ++ codes "_" ++ action_word action ++ codes "_" ++ decimal interval
