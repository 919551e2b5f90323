-- A turn that begins nothing, and ended done: the machine of one resource makes its part.
use Rattle.std.proofs.Common.{◌≡◌, ℕ, ◌≤◌, Bool, List, filter, le_refl, subst, sym}
use Rattle.std.specs.List.{AllByRecursion}
use Rattle.ocf_model.specs.Answer.{moment}
use Rattle.ocf_model.specs.declared.reply.TurnEnd.{TurnEnd}
use Rattle.ocf_model.specs.declared.reply.TurnEnd.TheVariants.{Done}
use Rattle.ocf_types.specs.Kinds.{Event}
use Rattle.ocf_model.specs.State.{State, after_all}
use Rattle.child_model.specs.declared.answer.Entry.{Entry}
use Rattle.exec_ledger.specs.Actives.{active}
use Rattle.exec_ledger.specs.Lemmas.{same_entries, same_events}
use Rattle.exec_ledger.specs.Pieces.{Effects}
use Rattle.exec_ledger.specs.BatchStarts.{due_after_all, batch_start}
use Rattle.exec_turn.specs.Polls.{Polled, polls, results}
use Rattle.exec_turn.specs.Turn.{EachPolled, IsFinish, OnlyResults}
use Rattle.executor_laws.specs.Isolated.{Isolated, IsolatedPoll, cut, running_in}
use Rattle.executor_laws.specs.Projections.{events_of}
use Rattle.executor.specs.ExecutorView.{ExecutorView, due_in}
use Rattle.executor.specs.TurnCalls.{FinishesTurn}
use Rattle.executor_laws.proofs.Isolation.Changes.{IsolatedAs}
use Rattle.executor_laws.proofs.Isolation.Requests.{Does, moment_is, seen}
use Rattle.executor_laws.proofs.Isolation.CommandBatches.{AreOwn, IsEnd, ends_fresh, results_end}
use Rattle.executor_laws.proofs.Isolation.Turns.{AreApart, clock_after, ends_at, own_polls}
use Rattle.store_model.specs.StoreView.{StoreView}

-- A turn that begins nothing ended done, at the moment that was handed in.
pub record FinishDone {S : Type 0} (now : ℕ) (old new : ExecutorView S) (effects : Effects) : Type 0 where
  pub polled : List Polled
  pub tail : ℕ
  pub each_polled : EachPolled (batch_start old.state (due_in old) tail (cut now) old.refuses) polled
  pub entries : effects.entries ≡ polls (cut now) polled
  pub events : effects.events ≡ results (cut now) polled
  pub state : new.state ≡ after_all old.state effects.events
  pub due : due_in new ≡ due_after_all old.state (due_in old) effects.events

pub finish_done : {S : Type 0} (view : S → StoreView) (now : ℕ) (old new : ExecutorView S) (end : TurnEnd) (takes : FinishesTurn view now old new end)
    → old.state.clock ≤ cut now → end ≡ Done → FinishDone now old new takes.turns.effects
finish_done view now old new end takes clock is_done =
    let turns = takes.turns in
    let found = λ (at : ℕ). batch_start old.state (due_in old) (view old.store).tail at old.refuses in
    let raw : OnlyResults (found (moment old.state now)) turns.effects new.reported =
    subst (λ (e : TurnEnd). IsFinish new.children.held e (found (moment old.state now)) turns.effects new.reported) is_done turns.does in
    let only : OnlyResults (found (cut now)) turns.effects new.reported =
    subst (λ (at : ℕ). OnlyResults (found at) turns.effects new.reported) (moment_is old.state now clock) raw in record {
      polled = only.0;
      tail = (view old.store).tail;
      each_polled = only.1;
      entries = same_entries only.2;
      events = same_events only.2;
      state = turns.crash.state;
      due = turns.due_is;
    }

module _ {S : Type 0} (now : ℕ) (old new : ExecutorView S) (effects : Effects) (finish : FinishDone now old new effects) where
  -- the state after it is that after its events
  pub finish_does : old.state.clock ≤ cut now → Does (cut now) (seen old) (seen new) effects.events
  finish_does clock =
      let batch : List Event = results (cut now) finish.polled in
      let ends = results_end (cut now) finish.polled in record {
        state = finish.state;
        due = finish.due;
        next = ends_fresh (cut now) effects.events
            (subst (λ (l : List Event). AllByRecursion (IsEnd (cut now)) l) (sym finish.events) ends) old.state;
        clock = subst (λ (s : State). s.clock ≤ cut now) (sym finish.state)
            (subst (λ (l : List Event). (after_all old.state l).clock ≤ cut now) (sym finish.events)
            (clock_after old.state (cut now) (cut now) batch (ends_at (cut now) batch ends) (le_refl (cut now)) clock));
      }

  -- the machine makes its part of it
  pub finish_isolated : (mine : ℕ → Bool) (id : List ℕ) (y : Isolated) → IsolatedAs y old.state (due_in old) id → AreApart old.state
      → AreOwn mine id (active old.state)
      → IsolatedPoll id (cut now) (running_in y) (filter (λ e. mine e.run) effects.entries) (events_of id effects.events)
  finish_isolated mine id y holds apart runs =
      subst (λ (l : List Entry). IsolatedPoll id (cut now) (running_in y) (filter (λ e. mine e.run) l) (events_of id effects.events))
      (sym finish.entries)
      (subst (λ (l : List Event). IsolatedPoll id (cut now) (running_in y) (filter (λ e. mine e.run) (polls (cut now) finish.polled)) (events_of id l))
      (sym finish.events)
      (own_polls mine id (cut now) y old.state finish.polled finish.each_polled.each finish.each_polled.bytes apart runs holds.resource))
