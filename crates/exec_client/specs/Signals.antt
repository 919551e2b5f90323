-- The signal that ended a run, by the answers of its agent process.
use Rattle.std.specs.Prelude.{ℕ, ◌==◌, ◌&&◌, Bool, List, Option, Some, None, is_some, option_map}
use Rattle.std.specs.List.{find}
use Rattle.std.specs.Option.{option_map_or}
use Rattle.child_model.specs.declared.answer.Answer.{Answer}
use Rattle.child_model.specs.declared.answer.Answer.TheVariants as asked
use Rattle.child_model.specs.declared.answer.Entry.{Entry}
use Rattle.child_model.specs.declared.answer.Poll.TheVariants as poll

-- the number of the signal, as in signal(7), if the answer is that of a poll which says that a signal ended the run
abbrev pub signal_in : Answer → Option ℕ
signal_in (asked.Poll (poll.Signaled signal)) = Some signal
signal_in _ = None

-- the entry says that a signal ended this run
abbrev pub names_signal : ℕ → Entry → Bool
names_signal run e = e.run == run && is_some (signal_in e.answer)

-- the answer that says that a signal ended this run, if there is one
abbrev pub ending_answer : List Entry → ℕ → Option Answer
ending_answer book run = option_map (λ e. e.answer) (find (names_signal run) book)

-- the signal that ended a run by these answers, if one did; a run is polled until it has ended, so at most one answer says so
abbrev pub signal_of : List Entry → ℕ → Option ℕ
signal_of book run = option_map_or signal_in (ending_answer book run) None
