-- The first batch of a turn: every running action is polled, and each that has ended makes a result. Pacemaker Explained,
-- resource operations, timeout.
use Rattle.std.specs.Prelude.{◌≡◌, ℕ, ◌+◌, ◌<◌, nat_le, Bool, List, [], ◌∷◌, map, fold, Option, Some, None, option_to_list, Result, if◌then◌else◌, ⊤}
use Rattle.std.specs.List.{flat_map, AllByRecursion}
use Rattle.ocf_types.specs.Kinds.{Event}
use Rattle.ocf_types.specs.declared.operation.Running.{Running}
use Rattle.ocf_types.specs.declared.outcome.RunEnd.{RunEnd}
use Rattle.ocf_types.specs.declared.outcome.RunEnd.TheVariants as run_end
use Rattle.ocf_types.specs.declared.notice.Notice.{Notice}
use Rattle.child_model.specs.Children.{ChildrenView, after_kill, after_poll, kill_answer, poll_answer}
use Rattle.child_model.specs.declared.answer.Answer.{Answer}
use Rattle.child_model.specs.declared.answer.Entry.{Entry}
use Rattle.child_model.specs.declared.answer.KillFault.{KillFault}
use Rattle.child_model.specs.declared.answer.Poll.{Poll}
use Rattle.child_model.specs.declared.answer.Poll.TheVariants as poll
use Rattle.exec_ledger.specs.Actives.{Active}
use Rattle.exec_turn.specs.Actives.{notice_of, result_of}

-- one poll: the action, the answer, and the answer of the kill where there was one
pub record Polled : Type 0 where
  pub who : Active
  pub poll : Poll
  pub kill : Result Unit KillFault

-- the timeout of an action has passed
abbrev pub is_late : ℕ → Running → Bool
is_late at x = nat_le (x.since + x.timeout) at

-- an answer to a poll or a kill of a run, as an entry of the book; only the entry of a start has a count of device calls, in `at`
abbrev pub book_entry : ℕ → Answer → Entry
book_entry run answer = record { run = run; at = 0; answer = answer }

-- the entries of a poll in the book: the poll, and the kill of an action that runs past its timeout
abbrev pub entries_of : ℕ → Running → Poll → Result Unit KillFault → List Entry
entries_of at x poll.Running kill =
    book_entry x.run (poll_answer poll.Running) ∷ (if is_late at x then book_entry x.run (kill_answer kill) ∷ [] else [])
entries_of at x (poll.Exited code) kill = book_entry x.run (poll_answer (poll.Exited code)) ∷ []
entries_of at x (poll.Signaled signal) kill = book_entry x.run (poll_answer (poll.Signaled signal)) ∷ []
entries_of at x poll.Fault kill = book_entry x.run (poll_answer poll.Fault) ∷ []

-- the children after a poll
abbrev pub polled_on : ℕ → Running → Poll → Result Unit KillFault → ChildrenView → ChildrenView
polled_on at x poll.Running kill v =
    if is_late at x then after_kill (after_poll v x.run poll.Running) x.run kill else after_poll v x.run poll.Running
polled_on at x (poll.Exited code) kill v = after_poll v x.run (poll.Exited code)
polled_on at x (poll.Signaled signal) kill v = after_poll v x.run (poll.Signaled signal)
polled_on at x poll.Fault kill v = after_poll v x.run poll.Fault

-- how the run ended, if it did: an action that still runs past its timeout has timed out, whatever the kill answered
abbrev pub ending : ℕ → Running → Poll → Option RunEnd
ending at x poll.Running = if is_late at x then Some run_end.TimedOut else None
ending at x (poll.Exited code) = Some (run_end.Done code)
ending at x (poll.Signaled signal) = Some run_end.Signaled
ending at x poll.Fault = Some run_end.Lost

abbrev pub ends_of : ℕ → Polled → List RunEnd
ends_of at p = option_to_list (ending at p.who.running p.poll)

-- the entries of these polls, and the children after them
abbrev pub polls : ℕ → List Polled → List Entry
polls at ps = flat_map (λ p. entries_of at p.who.running p.poll p.kill) ps

abbrev pub after_polls : ℕ → ChildrenView → List Polled → ChildrenView
after_polls at v ps = fold (λ w p. polled_on at p.who.running p.poll p.kill w) v ps

-- the batch of their results, and its notices
abbrev pub results : ℕ → List Polled → List Event
results at ps = flat_map (λ p. map (result_of at p.who) (ends_of at p)) ps

abbrev pub result_notices : ℕ → List Polled → List Notice
result_notices at ps = flat_map (λ p. map (notice_of at p.who) (ends_of at p)) ps

-- an exit code is a byte, and so is the number of a signal
abbrev pub IsPoll : Poll → Type 0
IsPoll (poll.Exited code) = code < 256
IsPoll poll.Running = ⊤
IsPoll (poll.Signaled signal) = signal < 256
IsPoll poll.Fault = ⊤

-- These actions were polled once each, in this order: from one view of the children to another, with this batch of results and
-- these notices.
pub record Polls (at : ℕ) (all : List Active) (old new : ChildrenView) (batch : List Event) (reported : List Notice) : Type 0 where
  pub answers : List Polled
  pub each : map (λ p. p.who) answers ≡ all
  pub bytes : AllByRecursion (λ p. IsPoll p.poll) answers
  pub children : new ≡ after_polls at old answers
  pub batch_is : batch ≡ results at answers
  pub reported_is : reported ≡ result_notices at answers
