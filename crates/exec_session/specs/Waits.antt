-- Waits of a session in `serve`.
use Rattle.std.specs.Prelude.{◌≡◌, Bool, true, false, [], None}
use Rattle.session_machine.specs.Behaviours.{Trace}
use Rattle.session_machine.specs.May.{IsAtRest}
use Rattle.session_machine.specs.Session.{SessionState, Reading, lines_in}
use Rattle.session_machine.specs.declared.rules.Mode.TheVariants.{Serve}
use Rattle.exec_session.specs.Standing.{HasAnswered, KnowsTurn, Lasts, Standing}

-- It may wait: it serves, has not waited since its last own turn, and each line is answered, except one that asks for metadata.
pub record MayWaitNow {S : Type 0} (s : SessionState S) : Type 0 where
  pub serves : s.rules.mode ≡ Serve
  pub at : s.at ≡ Reading
  pub goes_on : s.ended ≡ false
  pub noted : s.found ≡ None
  pub rests : IsAtRest (lines_in s)
  pub once : s.own.waits ≡ 0

-- It asked its surroundings, but it read nothing and the executor did nothing.
pub record Asks {S : Type 0} (old new : Trace S) : Type 0 where
  pub lasts : Lasts old new
  pub at : new.state.at ≡ old.state.at
  pub executor : new.state.executor ≡ old.state.executor
  pub lines : new.state.lines ≡ old.state.lines
  pub part : new.state.part ≡ old.state.part
  pub found : new.state.found ≡ old.state.found
  pub ended : new.state.ended ≡ old.state.ended
  pub now : new.state.own.now ≡ old.state.own.now
  pub since : new.state.own.since ≡ old.state.own.since
  pub end : new.state.own.end ≡ old.state.own.end
  pub reads : new.state.own.reads ≡ old.state.own.reads
  pub looked : old.state.own.looked ≡ true → new.state.own.looked ≡ true
  pub woken : old.state.own.woken ≡ true → new.state.own.woken ≡ true

-- it read the clock, or did nothing
pub record OnlyShows {S : Type 0} (old new : Trace S) : Type 0 where
  pub asks : Asks old new
  pub polls : new.state.own.polls ≡ old.state.own.polls
  pub waits : new.state.own.waits ≡ old.state.own.waits

-- it waited at most once, without another poll
pub record HasWaited {S : Type 0} (old new : Trace S) : Type 0 where
  pub asks : Asks old new
  pub polls : new.state.own.polls ≡ old.state.own.polls

-- It waited: it knows its last own turn, and a further one may come.
pub record WaitsOn {S : Type 0} (old new : Standing S) : Type 0 where
  pub pending : new.pending ≡ old.pending
  pub knows : KnowsTurn new
  pub waited : HasWaited old.trace new.trace
  pub woken : new.trace.state.own.woken ≡ true

-- The source of metadata was asked for those of a held line: it was answered, or nothing else happened.
abbrev pub PollsSource : {S : Type 0} → Bool → Trace S → Trace S → Type 0
PollsSource true old new = HasAnswered old new [] × (new.state.own.looked ≡ true)
PollsSource false old new = OnlyShows old new × (new.state.own.looked ≡ true)
