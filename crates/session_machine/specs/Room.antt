-- Tidies that a session makes by itself, and the calls of its executor before which it makes them.
use Rattle.std.specs.Prelude.{◌≡◌, ◌↔◌, ◌≤◌, ℕ, ◌+◌, ◌-◌, ◌*◌, ◌/◌, Bool, true, false, ◌&&◌, ◌||◌, not, min, nat_le, nat_lt, List, length, replicate}
use Rattle.std.specs.List.{list_any}
use Rattle.ocf_model.specs.Boot.{any_busy}
use Rattle.ocf_types.specs.Kinds.{Command, Request}
use Rattle.ocf_model.specs.Answer.{Reply}
use Rattle.ocf_types.specs.Limits.{event_limit, part_limit, reserve}
use Rattle.ocf_model.specs.declared.refusal.Refusal.TheVariants.{Disk}
use Rattle.ocf_model.specs.declared.reply.ReplyOf.TheVariants.{Refused}
use Rattle.ocf_model.specs.declared.reply.TidyEnd.{TidyEnd}
use Rattle.ocf_model.specs.declared.reply.TurnEnd.{TurnEnd}
use Rattle.store_model.specs.StoreView.{StoreView}
use Rattle.store_model.specs.Calls.{tail_after}
use Rattle.exec_state.specs.StateValue.{all_pairs}
use Rattle.executor.specs.Commands.{Serves}
use Rattle.executor.specs.CommandBatches.{TakesCommands}
use Rattle.executor.specs.ExecutorView.{ExecutorView}
use Rattle.executor.specs.TidyCalls.{Tidies}
use Rattle.executor.specs.TurnCalls.{TakesTurn, with_empty_book}
use Rattle.session_machine.specs.declared.rules.Rules.{Rules}

-- the least gain of a tidy, in bytes: a quarter of a part
abbrev pub worthwhile : ℕ
worthwhile = 2097152

-- The second mark: at it a part still has its reserve and space for seventy of the longest events. So neither a group commit, of
-- sixty-four commands at most, nor a turn that begins up to here finds the part full.
abbrev pub second_mark : ℕ
second_mark = part_limit - (reserve + 70 * event_limit)

-- a tidy would gain enough
abbrev pub is_worthwhile : {S : Type 0} → (S → StoreView) → ExecutorView S → Bool
is_worthwhile view x = nat_le (tail_after x.state + worthwhile) (view x.store).tail

-- the time of a tidy, in milliseconds, where each piece of 4,096 bytes takes this many
abbrev pub tidy_time : {S : Type 0} → ExecutorView S → ℕ → ℕ
tidy_time x pace = pace * (tail_after x.state / 4096 + 1)

-- a monitor is due within this many milliseconds from this time, or was due before
abbrev pub is_monitor_due : {S : Type 0} → ExecutorView S → ℕ → ℕ → Bool
is_monitor_due x now lasts = list_any (λ p. nat_le (p.0 - now) lasts) (all_pairs x.monitors)

-- Nothing would have to wait for this many milliseconds from this time on: nothing is queued or running, and no monitor is due within
-- them.
abbrev pub is_at_leisure : {S : Type 0} → ExecutorView S → ℕ → ℕ → Bool
is_at_leisure x now lasts = not (any_busy x.state) && not (is_monitor_due x now lasts)

-- A tidy is due at this time, where each piece takes this many milliseconds: the tail is past the first mark, or past the second one if
-- that is lower, and the tidy would gain enough; and either nothing would have to wait for it, or the tail is past the second mark.
abbrev pub is_tidy_due : {S : Type 0} → (S → StoreView) → Rules → ExecutorView S → ℕ → ℕ → Bool
is_tidy_due view rules x now pace =
    nat_lt 0 rules.tidy_at && nat_lt (min rules.tidy_at second_mark) (view x.store).tail && is_worthwhile view x
    && (nat_lt second_mark (view x.store).tail || is_at_leisure x now (tidy_time x pace))

-- If a tidy is due at this time, one is made, and else nothing is done. The time of a piece, at least a millisecond, was measured in the
-- last tidy, or is a guess.
pub record MakesRoom {S : Type 0} (view : S → StoreView) (rules : Rules) (now : ℕ) (old new : ExecutorView S) : Type 0 where
  pub pace : ℕ
  pub some_time : 1 ≤ pace
  pub made : is_tidy_due view rules old now pace ≡ true → (end : TidyEnd) × Tidies view old new end
  pub none : is_tidy_due view rules old now pace ≡ false → new ≡ old

-- An open executor serves a request at this time: a due tidy is made, and then the request is served. If a disk fault closed the executor in
-- the tidy, the request is refused for that and nothing else is done.
pub record ServesNow {S : Type 0} (view : S → StoreView) (rules : Rules) (now : ℕ) (request : Request) (old new : ExecutorView S)
    (reply : Reply) : Type 0 where
  pub middle : ExecutorView S
  pub room : MakesRoom view rules now old middle
  pub serves : middle.is_open ≡ true → Serves view now request middle new reply
  pub fails : middle.is_open ≡ false → (reply ≡ Refused Disk) × (new ≡ middle)
  pub closes : new.is_open ≡ false ↔ (reply ≡ Refused Disk)

-- The same of a group commit.
pub record ServesTogether {S : Type 0} (view : S → StoreView) (rules : Rules) (now : ℕ) (commands : List Command)
    (old new : ExecutorView S) (given : List Reply) : Type 0 where
  pub middle : ExecutorView S
  pub room : MakesRoom view rules now old middle
  pub takes : middle.is_open ≡ true → TakesCommands view now commands middle new given
  pub fails : middle.is_open ≡ false → (given ≡ replicate (length commands) (Refused Disk)) × (new ≡ middle)

-- An open executor makes a turn at this time: its book is emptied, a due tidy is made, and then the turn.
pub record TurnsNow {S : Type 0} (view : S → StoreView) (rules : Rules) (now : ℕ) (old new : ExecutorView S) (end : TurnEnd) : Type 0 where
  pub middle : ExecutorView S
  pub room : MakesRoom view rules now (with_empty_book old) middle
  pub is_open : middle.is_open ≡ true
  pub takes : TakesTurn view now middle new end

-- The same up to a disk fault in the tidy, which closed the executor: no turn is made.
pub record FailsNow {S : Type 0} (view : S → StoreView) (rules : Rules) (now : ℕ) (old new : ExecutorView S) : Type 0 where
  pub room : MakesRoom view rules now (with_empty_book old) new
  pub closed : new.is_open ≡ false
