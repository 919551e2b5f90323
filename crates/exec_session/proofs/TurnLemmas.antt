-- Turns of a session.
use Rattle.std.proofs.Common.{◌≡◌, ◌≢◌, ℕ, Bool, true, false, Option, Some, None, refl, sym, ap, subst, ◌∙◌}
use Rattle.ocf_model.specs.declared.reply.TurnEnd.{TurnEnd}
use Rattle.ocf_model.specs.declared.reply.TurnEnd.TheVariants.{Disk}
use Rattle.store_model.specs.StoreView.{StoreView}
use Rattle.executor.specs.ExecutorView.{ExecutorView}
use Rattle.executor.specs.TurnCalls.{TakesTurn, TurnsWhile, with_empty_book}
use Rattle.session_machine.specs.After.{drain_now, faulted, time_of, turned}
use Rattle.session_machine.specs.Behaviours.{Trace, then}
use Rattle.session_machine.specs.Events.{Faulted, Turned}
use Rattle.session_machine.specs.May.{IsTurnDue, MayTurn}
use Rattle.session_machine.specs.Room.{MakesRoom}
use Rattle.session_machine.specs.Session.{Drain, SessionState}

module _ {S : Type 0} (view : S → StoreView) where
  -- the executor emptied its book, made room and then made the turn that is due
  pub turn_may : (p s : SessionState S) (now : ℕ) (x cleared middle y : ExecutorView S) (end : TurnEnd) → s ≡ p → x ≡ s.executor
      → cleared ≡ with_empty_book x → p.executor.is_open ≡ true → p.shown ≡ Some now → IsTurnDue p p.at now
      → MakesRoom view s.rules now cleared middle → middle.is_open ≡ true → TurnsWhile middle.is_open view now middle y end → MayTurn view s end y
  turn_may p s now x cleared middle y end same of empties is_open shown due room stays turns =
      subst (λ (q : SessionState S). MayTurn view q end y) (sym same) (record {
        is_open = is_open;
        now = now;
        shown = shown;
        due = due;
        turns = record {
          middle = middle;
          room =
              subst (λ (q : SessionState S). MakesRoom view q.rules now (with_empty_book q.executor) middle) same
              (subst (λ (z : ExecutorView S). MakesRoom view s.rules now z middle) (empties ∙ ap with_empty_book of) room);
          is_open = stays;
          takes = subst (λ (b : Bool). TurnsWhile b view now middle y end) stays turns;
        };
      })

  -- only a disk fault closes it in a turn
  open_by : (is_open : Bool) (end : TurnEnd) → (is_open ≡ false → end ≡ Disk) → end ≢ Disk → is_open ≡ true
  open_by true end closes other = refl
  open_by false end closes other = absurd (other (closes refl))

  pub stays_open : (now : ℕ) (middle y : ExecutorView S) (end : TurnEnd) → middle.is_open ≡ true
      → TurnsWhile middle.is_open view now middle y end → end ≢ Disk → y.is_open ≡ true
  stays_open now middle y end is_open turns =
      let takes : TakesTurn view now middle y end = subst (λ (b : Bool). TurnsWhile b view now middle y end) is_open turns in
      open_by y.is_open end takes.closes.0

turned_executor : {S : Type 0} (s : SessionState S) (drain : Option Drain) (now : ℕ) (end : TurnEnd) (x : ExecutorView S)
    → (turned s drain now end x).executor ≡ x
turned_executor s None now end x = refl
turned_executor s (Some d) now end x = refl

-- the executor after a turn
pub executor_after : {S : Type 0} (old new : Trace S) (end : TurnEnd) (y : ExecutorView S) → new ≡ then old (Turned end y)
    → new.state.executor ≡ y
executor_after old new end y is =
    ap (λ (t : Trace _). t.state.executor) is ∙ turned_executor old.state (drain_now old.state) (time_of old.state.shown) end y

faulted_executor : {S : Type 0} (s : SessionState S) (drain : Option Drain) (now : ℕ) (x : ExecutorView S) → (faulted s drain now x).executor ≡ x
faulted_executor s None now x = refl
faulted_executor s (Some d) now x = refl

-- and after a disk fault in the tidy before it
pub executor_faulted : {S : Type 0} (old new : Trace S) (y : ExecutorView S) → new ≡ then old (Faulted y) → new.state.executor ≡ y
executor_faulted old new y is =
    ap (λ (t : Trace _). t.state.executor) is ∙ faulted_executor old.state (drain_now old.state) (time_of old.state.shown) y
