-- Actions whose timeout has passed.
use Rattle.std.specs.Prelude.{◌≡◌, ℕ, List, Contains, Result}
use Rattle.child_model.specs.Children.{kill_answer, poll_answer}
use Rattle.child_model.specs.declared.answer.Entry.{Entry}
use Rattle.child_model.specs.declared.answer.KillFault.{KillFault}
use Rattle.child_model.specs.declared.answer.Poll.{Poll}
use Rattle.child_model.specs.declared.answer.Poll.TheVariants.{Running}
use Rattle.exec_turn.specs.Polls.{book_entry}

-- by this book the agent process of this run was polled, and if it still ran, it was killed
abbrev pub IsEndedBy : List Entry → ℕ → Type 0
IsEndedBy book run =
    (poll : Poll) × Contains book (book_entry run (poll_answer poll))
    × (poll ≡ Running → (kill : Result Unit KillFault) × Contains book (book_entry run (kill_answer kill)))
