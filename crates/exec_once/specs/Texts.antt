-- The names and levels of actions that are to be run once.
use Rattle.std.specs.Prelude.{◌≡◌, ℕ, List, Option, None, codes, unwrap_or}
use Rattle.ocf_types.specs.Actions.{TaskView, action_word}
use Rattle.ocf_types.specs.declared.action.Level.{Level}
use Rattle.ocf_types.specs.declared.action.Level.TheVariants.{Zero}
use Rattle.ocf_types.specs.declared.operation.Running.{Running}
use Rattle.exec_once.specs.declared.call.What.{What}
use Rattle.exec_once.specs.declared.call.What.TheVariants.{MetaData, Action}

-- the word names this action, which has this level
abbrev pub IsTaskOf : List ℕ → Level → TaskView → Type 0
IsTaskOf word level task = (word ≡ action_word task.action) × (task.check.level ≡ level)

-- the task is run with this timeout, and not again
abbrev pub IsRunningOf : TaskView → ℕ → Running → Type 0
IsRunningOf task timeout running = (running.task ≡ task) × (running.timeout ≡ timeout) × (running.interval ≡ 0)

-- the word names what is to be run, with this level and this timeout; an agent's metadata has no level
abbrev pub IsWhat : List ℕ → Option Level → ℕ → What → Type 0
IsWhat word level timeout MetaData = (word ≡ codes "meta-data") × (level ≡ None)
IsWhat word level timeout (Action running) =
    IsTaskOf word (unwrap_or level Zero) running.task × (running.timeout ≡ timeout) × (running.interval ≡ 0)
