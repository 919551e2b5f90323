-- The third batch of a turn: the actions that have begun are spawned, and each refusal makes a result.
use Rattle.std.specs.Prelude.{◌≡◌, ℕ, ◌<◌, List, [], ◌∷◌, map, fold, option_and_then, Result, Ok, Err, Some, ⊤}
use Rattle.std.specs.List.{flat_map, AllByRecursion}
use Rattle.ocf_types.specs.Kinds.{Event}
use Rattle.ocf_model.specs.State.{State, resource_at}
use Rattle.ocf_types.specs.declared.operation.Running.{Running}
use Rattle.ocf_types.specs.declared.outcome.RunEnd.{RunEnd}
use Rattle.ocf_types.specs.declared.outcome.RunEnd.TheVariants.{NotStarted}
use Rattle.ocf_types.specs.declared.outcome.StartFault.{StartFault}
use Rattle.ocf_types.specs.declared.notice.Notice.{Notice}
use Rattle.child_model.specs.Children.{ChildrenView, after_start, start_answer}
use Rattle.child_model.specs.declared.answer.Entry.{Entry}
use Rattle.exec_ledger.specs.Actives.{Active}
use Rattle.exec_turn.specs.Actives.{notice_of, result_of}

-- one start: the action, and the answer
pub record Started : Type 0 where
  pub what : Active
  pub answer : Result Unit StartFault

-- how an action ended whose start was refused
abbrev pub refused_end : Result Unit StartFault → List RunEnd
refused_end (Ok x) = []
refused_end (Err fault) = NotStarted fault ∷ []

-- the entries of these starts, requested when the store had made `clock` device calls, and the children after them
abbrev pub starts : ℕ → List Started → List Entry
starts clock xs = map (λ x. record { run = x.what.running.run; at = clock; answer = start_answer x.answer }) xs

abbrev pub after_starts : ℕ → ChildrenView → List Started → ChildrenView
after_starts clock v xs = fold (λ w x. after_start w x.what.running.run clock x.answer) v xs

-- the batch of results of those that were refused, and its notices
abbrev pub refusals : ℕ → List Started → List Event
refusals at xs = flat_map (λ x. map (result_of at x.what) (refused_end x.answer)) xs

abbrev pub refusal_notices : ℕ → List Started → List Notice
refusal_notices at xs = flat_map (λ x. map (notice_of at x.what) (refused_end x.answer)) xs

-- These were spawned or refused once each, in this order: from one view of the children to another, with this batch of results
-- and these notices.
pub record Starts (at clock : ℕ) (all : List Active) (old new : ChildrenView) (batch : List Event) (reported : List Notice) : Type 0 where
  pub answers : List Started
  pub each : map (λ x. x.what) answers ≡ all
  pub children : new ≡ after_starts clock old answers
  pub batch_is : batch ≡ refusals at answers
  pub reported_is : reported ≡ refusal_notices at answers

-- the resource of this id runs an action under this call and run
pub record RunsUnder (s : State) (id : List ℕ) (call run : ℕ) : Type 0 where
  pub running : Running
  pub is : option_and_then (λ r. r.history.running) (resource_at s id) ≡ Some running
  pub call_is : running.call ≡ call
  pub run_is : running.run ≡ run

-- each of these runs under its call and its run
abbrev pub AllRun : State → List Active → Type 0
AllRun s begun = AllByRecursion (λ a. RunsUnder s a.id a.running.call a.running.run) begun

-- each run is above the one before it, the first above this one
abbrev pub Rising : ℕ → List Active → Type 0
Rising last [] = ⊤
Rising last (a ∷ rest) = (last < a.running.run) × Rising a.running.run rest
