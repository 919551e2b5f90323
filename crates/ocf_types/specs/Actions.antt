-- Actions, their words, and the checks of monitors.
use Rattle.std.specs.Prelude.{ℕ, ◌==◌, Bool, true, false, if◌then◌else◌, IsTrue, List, [], ◌∷◌, Option, Some, None, codes}
use Rattle.std.specs.List.{find}
use Rattle.std.specs.Str.{bytes_eq}
use Rattle.ocf_types.specs.declared.action.Action.{Action}
use Rattle.ocf_types.specs.declared.action.Action.TheVariants as action
use Rattle.ocf_types.specs.declared.action.Level.{Level}
use Rattle.ocf_types.specs.declared.action.Level.TheVariants.{Zero, Ten, Twenty}
use Rattle.ocf_types.specs.declared.action.Check.{Check}
use Rattle.ocf_types.specs.declared.expect.Expect.{Expect}
use Rattle.ocf_types.specs.declared.expect.Expect.TheVariants.{Success}

-- the agent's argument: OCF Resource Agent API 1.1, actions
abbrev pub action_word : Action → List ℕ
action_word action.Start = codes "start"
action_word action.Stop = codes "stop"
action_word action.Monitor = codes "monitor"
action_word action.Promote = codes "promote"
action_word action.Demote = codes "demote"
action_word action.ReloadAgent = codes "reload-agent"
action_word action.ValidateAll = codes "validate-all"

-- whether an action is a monitor
abbrev pub is_monitor : Action → Bool
is_monitor action.Monitor = true
is_monitor _ = false

-- all actions
abbrev pub actions : List Action
actions = action.Start ∷ action.Stop ∷ action.Monitor ∷ action.Promote ∷ action.Demote ∷ action.ReloadAgent ∷ action.ValidateAll ∷ []

-- the action of a word
abbrev pub action_named : List ℕ → Option Action
action_named word = find (λ a. bytes_eq word (action_word a)) actions

-- OCF Resource Agent API 1.1, OCF_CHECK_LEVEL
abbrev pub level_number : Level → ℕ
level_number Zero = 0
level_number Ten = 10
level_number Twenty = 20

-- the level of a number
abbrev pub level_numbered : ℕ → Option Level
level_numbered n = find (λ l. n == level_number l) (Zero ∷ Ten ∷ Twenty ∷ [])

-- the check of every action except a monitor: level 0, and success is expected
abbrev pub plain : Check
plain = record { level = Zero; expect = Success }

-- an action and its check
pub record TaskView : Type 0 where
  pub action : Action
  pub check : Check

-- a task by its parts
abbrev pub task : Action → Check → TaskView
task action check = record { action = action; check = check }

-- whether an action can have this level and this expectation: a monitor any, each other action level 0 and success
abbrev pub can_check : Action → Level → Expect → Bool
can_check action.Monitor _ _ = true
can_check _ Zero Success = true
can_check _ _ _ = false

-- the action can have the check: only a monitor has one that is not plain
abbrev pub IsTask : TaskView → Type 0
IsTask t = IsTrue (can_check t.action t.check.level t.check.expect)

-- the task of an action and a check that it can have
abbrev pub task_of : Action → Check → Option TaskView
task_of action check = if can_check action check.level check.expect then Some (task action check) else None
