-- What the system said of a descriptor.
use Rattle.std.specs.Prelude.{ℕ, zero, suc, ◌+◌, Bool, true, false, ◌||◌, nat_le, nat_lt, Result, Ok, Err, List, length}
use Rattle.std.specs.IoError.{error_kind}
use Rattle.std.specs.declared.io.Error.{Error}
use Rattle.std.specs.declared.io.ErrorKind.{ErrorKind}
use Rattle.std.specs.declared.io.ErrorKind.TheVariants.{Interrupted, WouldBlock}
use Rattle.ocf_types.specs.Limits.{num_max}

-- whether it said that the input has ended, whether a call failed, or the replies had no reader, whether all that was written is flushed,
-- how often a call was to be made again, since it would have blocked or was interrupted, and for how many milliseconds it was polled at most
pub record SystemAnswers : Type 0 where
  pub ended : Bool
  pub broke : Bool
  pub flushed : Bool
  pub again : ℕ
  pub waited : ℕ

-- nothing was said yet
abbrev pub no_answers : SystemAnswers
no_answers = record { ended = false; broke = false; flushed = false; again = 0; waited = 0 }

-- bytes in memory end where none is left
abbrev pub whole : List ℕ → SystemAnswers
whole bytes = record no_answers { ended = nat_le (length bytes) 0 }

-- a call failed, or calls were to be made again as often as any call is tried
abbrev pub has_failed : SystemAnswers → Bool
has_failed t = t.broke || nat_le num_max t.again

-- the call is to be made again
abbrev pub after_wait : SystemAnswers → SystemAnswers
after_wait t = record t { again = t.again + 1 }

-- after an error
abbrev pub after_error : SystemAnswers → ErrorKind → SystemAnswers
after_error t WouldBlock = after_wait t
after_error t Interrupted = after_wait t
after_error t _ = record t { broke = true }

-- after a read into a buffer of this length
abbrev pub after_read : SystemAnswers → ℕ → Result ℕ Error → SystemAnswers
after_read t room (Ok zero) = record t { ended = t.ended || nat_lt 0 room }
after_read t room (Ok (suc n)) = t
after_read t room (Err error) = after_error t (error_kind error)

-- after a write of so many bytes; one that took none of them failed
abbrev pub after_write : SystemAnswers → ℕ → Result ℕ Error → SystemAnswers
after_write t len (Ok zero) = record t { flushed = false; broke = t.broke || nat_lt 0 len }
after_write t len (Ok (suc n)) = record t { flushed = false }
after_write t len (Err error) = record (after_error t (error_kind error)) { flushed = false }

abbrev pub after_flush : SystemAnswers → Result Unit Error → SystemAnswers
after_flush t (Ok x) = record t { flushed = true }
after_flush t (Err error) = record t { broke = true; flushed = false }

-- after a poll for at most so many milliseconds
abbrev pub after_poll : SystemAnswers → ℕ → Bool → SystemAnswers
after_poll t millis true = record t { waited = t.waited + millis }
after_poll t millis false = record (after_wait t) { waited = t.waited + millis }

-- after a look whether the replies have no reader
abbrev pub after_look : SystemAnswers → Bool → SystemAnswers
after_look t true = record t { broke = true }
after_look t false = t
