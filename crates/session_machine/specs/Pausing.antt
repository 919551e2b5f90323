-- How long a session may wait after a turn that it made by itself, and pause between two turns of a drain or of an orderly end.
use Rattle.std.specs.Prelude.{◌≡◌, ◌≤◌, ◌⊎◌, ℕ, ◌+◌, ◌-◌, ◌*◌, Bool, true, false, List, Option, Some, All}
use Rattle.std.specs.List.{list_all}
use Rattle.ocf_model.specs.Boot.{any_busy}
use Rattle.child_model.specs.declared.answer.Answer.{Answer}
use Rattle.child_model.specs.declared.answer.Answer.TheVariants as asked
use Rattle.child_model.specs.declared.answer.Entry.{Entry}
use Rattle.child_model.specs.declared.answer.Poll.TheVariants.{Running}
use Rattle.exec_state.specs.StateValue.{all_pairs}
use Rattle.executor.specs.ExecutorView.{ExecutorView}
use Rattle.session_machine.specs.Limits.{longest_pause, longest_wait, short_pause}

-- an agent process that was polled still runs
abbrev pub still_runs : Answer → Bool
still_runs (asked.Poll Running) = true
still_runs _ = false

-- Nothing ended or began in a turn with this book: each agent process that was polled still runs, and none was spawned.
abbrev pub is_quiet : List Entry → Bool
is_quiet book = list_all (λ e. still_runs e.answer) book

-- A pause of `micros` microseconds, after a turn at `now`, where no action has ended or begun since `since` (both in
-- milliseconds): a millisecond at most; or a hundredth of the time between them, and 50 milliseconds at most. An action that
-- runs during the pause began at `since` or before, so its end is seen late by at most a hundredth of its duration or a
-- millisecond, whichever is more.
abbrev pub IsShort : ℕ → ℕ → ℕ → Type 0
IsShort since now micros = (micros ≤ short_pause) ⊎ ((micros ≤ longest_pause) × (micros ≤ 10 * (now - since)))

-- Nothing is queued or running, and no monitor is due within this many microseconds from the last clock reading; a second at most.
pub record IsUntilDue {S : Type 0} (x : ExecutorView S) (shown : Option ℕ) (micros : ℕ) : Type 0 where
  pub idle : any_busy x.state ≡ false
  pub moment : ℕ
  pub read : shown ≡ Some moment
  pub brief : micros ≤ 1000 * longest_wait
  pub before : All (λ p. 1000 * moment + micros ≤ 1000 * p.0) (all_pairs x.monitors)
