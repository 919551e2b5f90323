-- The effects of a call on one resource: its state and due moments.
use Rattle.std.proofs.Common.{◌≡◌, ℕ, ◌≤◌, Bool, true, false, true≢false, List, [], ◌∷◌, ◌++◌, refl, sym, ap, subst, ◌∙◌, le_refl}
use Rattle.std.specs.List.{AllByRecursion}
use Rattle.std.proofs.lemmas.List.{append-nil}
use Rattle.ocf_types.specs.Kinds.{Command, Event, Request}
use Rattle.ocf_model.specs.Answer.{Reply}
use Rattle.ocf_model.specs.State.{State, after, after_all}
use Rattle.ocf_types.specs.declared.command.RequestOf.TheVariants as asked
use Rattle.ocf_model.specs.declared.reply.TidyEnd.{TidyEnd}
use Rattle.ocf_model.specs.declared.reply.TurnEnd.{TurnEnd}
use Rattle.ocf_model.specs.declared.reply.TurnEnd.TheVariants as turn_end
use Rattle.exec_state.specs.StateValue.{due_of}
use Rattle.exec_ledger.specs.LedgerView.{LedgerView}
use Rattle.exec_ledger.specs.Lemmas.{same_events}
use Rattle.exec_ledger.specs.Pieces.{Effects, no_effects, batch_effects}
use Rattle.exec_ledger.specs.Together.{batch_replies}
use Rattle.executor.specs.FinishCalls.{FinishedWhile}
use Rattle.executor.specs.Exchanges.{Abandoned, Cleared, Exchange, Finished, Batch, Tidied, Took}
use Rattle.executor.specs.Exchanges.{Does as Called}
use Rattle.executor_laws.specs.Projections.{IsAnswered, IsPlain, events_of, moment_in, projection_of}
use Rattle.executor.specs.BatchCalls.{TakesBatch}
use Rattle.executor.specs.Sessions.{Input, TakesWhile, closed_reply}
use Rattle.executor.specs.ExecutorView.{ExecutorView, due_in}
use Rattle.executor.specs.TidyCalls.{TidiesWhile}
use Rattle.executor_laws.specs.Isolated.{cut, isolated_of}
use Rattle.executor.specs.declared.session.InputOf.TheVariants as input
use Rattle.executor_laws.proofs.Isolation.Batches.{AllRefused, AreReportedOf, failed_reported, keep_own, batch_alone, batch_does}
use Rattle.executor_laws.proofs.Isolation.Changes.{AreFresh, IsolatedAs}
use Rattle.executor_laws.proofs.Isolation.Finishes.{finish_does, finish_done}
use Rattle.executor_laws.proofs.Isolation.Requests.{AllKeep, Does, Seen, commands, rested, seen, seen_after}
use Rattle.executor_laws.proofs.Isolation.Turns.{AllBeginOwn, turn_does, turn_done}
use Rattle.store_model.specs.StoreView.{StoreView}

-- the replies of a closed executor are not plain
pub closed_plain : (i : Input) (r : Reply) → r ≡ closed_reply i → IsPlain r → ⊥
closed_plain (input.Request now request) r is plain = subst IsPlain is plain
closed_plain (input.Turn now) r is plain = let bad : turn_end.Closed ≡ turn_end.Done = subst IsPlain is plain in cc

-- a prefix of new events, and events that are one's own after others
pub first_fresh : (s : State) (es fs : List Event) → AreFresh s (es ++ fs) → AreFresh s es
first_fresh s [] fs h = tt
first_fresh s (e ∷ es) fs h = (h.0, first_fresh (after s e) es fs h.1)

pub own_append : (mine : ℕ → Bool) (id : List ℕ) (es fs : List Event) → AllBeginOwn mine id es → AllBeginOwn mine id fs
    → AllBeginOwn mine id (es ++ fs)
own_append mine id [] fs one two = two
own_append mine id (e ∷ es) fs one two = (one.0, own_append mine id es fs one.1 two)

-- each resource by itself, as it is in an executor
pub here : {S : Type 0} (x : ExecutorView S) (id : List ℕ) → IsolatedAs (isolated_of x id) x.state (due_in x) id
here x id = record { resource = refl; due = λ call there. refl; calls = le_refl x.state.next_call; runs = le_refl x.state.next_run }

-- The effects of a call on one resource: the state and the due moments are those after its events, and after events of others that a
-- disk fault left pending as it closed the executor.
pub record Went {S : Type 0} (mine : ℕ → Bool) (id : List ℕ) (at : ℕ) (old new : ExecutorView S) (es : List Event) : Type 0 where
  pub more : List Event
  pub does : Does at (seen old) (seen new) (es ++ more)
  pub others : events_of id more ≡ []
  pub begins : AllBeginOwn mine id more
  pub whole : new.is_open ≡ true → more ≡ []

module _ {S : Type 0} (view : S → StoreView) (mine : ℕ → Bool) (id : List ℕ) where
  -- all events are recorded, or there are none
  went_so : (at : ℕ) (old new : ExecutorView S) (es : List Event) → Does at (seen old) (seen new) es → Went mine id at old new es
  went_so at old new es does = record {
    more = [];
    does = subst (λ (l : List Event). Does at (seen old) (seen new) l) (sym (append-nil es)) does;
    others = refl;
    begins = tt;
    whole = λ _. refl;
  }

  went_nowhere : (at : ℕ) (old new : ExecutorView S) (d : Effects) → old.state.clock ≤ at → seen new ≡ seen old → d ≡ no_effects
      → Went mine id at old new d.events
  went_nowhere at old new d clock same none =
      subst (λ (x : Effects). Went mine id at old new x.events) (sym none) (went_so at old new [] (rested at (seen old) (seen new) clock same))

  -- a request, and a turn
  request_went : (b : Bool) (now : ℕ) (r : Reply) (old new : ExecutorView S) (d : Effects) (request : Request) → old.state.clock ≤ cut now
      → TakesWhile b view (input.Request now request) old new r d → Went mine id (cut now) old new d.events
  request_went true now r old new d (asked.Command c) clock takes = went_so (cut now) old new d.events (commands view now c old new r d clock takes).does
  request_went true now r old new d (asked.Question q) clock takes = went_nowhere (cut now) old new d clock (ap seen takes.serves.1) takes.does
  request_went false now r old new d request clock takes = went_nowhere (cut now) old new d clock (ap seen takes.1) takes.2

  turn_went : (b : Bool) (now : ℕ) (r : Reply) (old new : ExecutorView S) (d : Effects) → old.state.clock ≤ cut now → IsPlain r
      → TakesWhile b view (input.Turn now) old new r d → Went mine id (cut now) old new d.events
  turn_went true now r old new d clock plain takes =
      went_so (cut now) old new d.events (turn_does now old new r d (turn_done view now old new r d clock plain takes) clock)
  turn_went false now r old new d clock plain takes = absurd (closed_plain (input.Turn now) r takes.0 plain)

  -- a turn that begins nothing
  finish_went : (b : Bool) (now : ℕ) (end : TurnEnd) (old new : ExecutorView S) (d : Effects) → old.state.clock ≤ cut now → end ≡ turn_end.Done
      → FinishedWhile b view now old new end d → Went mine id (cut now) old new d.events
  finish_went true now end old new d clock done (takes, did) =
      let finish = finish_done view now old new end takes clock done in
      subst (λ (x : Effects). Went mine id (cut now) old new x.events) (sym did)
      (went_so (cut now) old new takes.turns.effects.events (finish_does now old new takes.turns.effects finish clock))
  finish_went false now end old new d clock done takes = absurd (let bad : turn_end.Closed ≡ turn_end.Done = sym takes.0 ∙ done in cc)

  tidy_went : (b : Bool) (at : ℕ) (end : TidyEnd) (old new : ExecutorView S) (d : Effects) → old.state.clock ≤ at → d ≡ no_effects
      → TidiesWhile b view old new end → Went mine id at old new d.events
  tidy_went true at end old new d clock none (tidies, beside) =
      let seen_in : LedgerView S → Seen = λ h. record { state = h.state; due = due_of h.monitors } in
      went_nowhere at old new d clock (ap seen_in tidies.same) none
  tidy_went false at end old new d clock none rests = went_nowhere at old new d clock (ap seen rests.1) none

  -- a batch of commands
  batch_went : (now : ℕ) (cs : List Command) (rs : List Reply) (old new : ExecutorView S) (d : Effects) → old.state.clock ≤ cut now
      → AllByRecursion IsAnswered (projection_of id (Batch now cs rs)) → TakesBatch view now cs old new rs d → Went mine id (cut now) old new d.events
  batch_went now cs rs old new d clock plain batch = by new.is_open refl batch.takes.reported (same_events batch.does)
    where
      es : List Event
      es = batch.takes.events

      did : Does (cut now) (seen old) (seen_after (seen old) es) es × AllKeep es
      did = batch_does now id (seen old) cs batch.takes.meant es clock batch.takes.answered

      state : new.state ≡ after_all old.state es
      state = ap (λ (x : LedgerView S). x.state) batch.takes.records.went.same

      done : Does (cut now) (seen old) (seen new) es
      done = record {
        state = state;
        due = batch.takes.records.went.due;
        next = did.0.next;
        clock = subst (λ (s : State). s.clock ≤ cut now) (sym state) did.0.clock;
      }

      by : (b : Bool) → new.is_open ≡ b → rs ≡ batch_replies b batch.takes.meant → d.events ≡ (batch_effects b es).events
          → Went mine id (cut now) old new d.events
      by true is reported events = subst (λ (l : List Event). Went mine id (cut now) old new l) (sym events) (went_so (cut now) old new es done)
      by false is reported events =
          let bad = failed_reported batch.takes.meant in record {
            more = es;
            does = subst (λ (l : List Event). Does (cut now) (seen old) (seen new) (l ++ es)) (sym events) done;
            others = (batch_alone now id (isolated_of old id) (seen old) cs rs batch.takes.meant es clock plain (here old id) batch.takes.answered
                (subst (λ (l : List Reply). AreReportedOf l batch.takes.meant) (sym reported) bad.0)).1 (subst AllRefused (sym reported) bad.1);
            begins = keep_own mine id es did.1;
            whole = λ open_now. absurd (true≢false (sym open_now ∙ is));
          }

  -- any call
  pub call_went : (at : ℕ) (e : Exchange) (old new : ExecutorView S) (d : Effects) → old.state.clock ≤ moment_in at e
      → AllByRecursion IsAnswered (projection_of id e) → Called view e old new d → Went mine id (moment_in at e) old new d.events
  call_went at (Took (input.Request now request) r) old new d clock plain does = request_went old.is_open now r old new d request clock does
  call_went at (Took (input.Turn now) r) old new d clock plain does = turn_went old.is_open now r old new d clock plain.0 does
  call_went at (Batch now cs rs) old new d clock plain does = batch_went now cs rs old new d clock plain does
  call_went at (Finished now end) old new d clock plain does = finish_went old.is_open now end old new d clock plain.0 does
  call_went at (Tidied end) old new d clock plain does = tidy_went old.is_open at end old new d clock does.1 does.0
  call_went at Cleared old new d clock plain does = went_nowhere at old new d clock (ap seen does.0) does.1
  call_went at Abandoned old new d clock plain does = went_nowhere at old new d clock (ap seen does.0.2) does.1
