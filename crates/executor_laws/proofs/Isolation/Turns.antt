-- A turn that ended done: the machine of one resource makes its part.
use Rattle.std.proofs.Common.{◌≡◌, ℕ, ◌≤◌, Bool, false, not, List, [], ◌∷◌, ◌++◌, map, filter, Option, option_and_then, refl, sym, ap, subst, ◌∙◌, arith, ap₂, append_assoc, le_refl}
use Rattle.std.specs.List.{AllByRecursion, IsDistinct}
use Rattle.std.specs.Prelude.{⊤}
use Rattle.std.specs.Map.{keys_of}
use Rattle.std.specs.Str.{bytes_eq}
use Rattle.std.proofs.lemmas.Cmp.{nat_list_eq_equiv}
use Rattle.std.proofs.lemmas.List.{map-append}
use Rattle.std.proofs.lemmas.List.Elements.{filter-append}
use Rattle.std.proofs.lemmas.Map.Keys.{IsDistinct-push}
use Rattle.ocf_model.specs.Answer.{moment}
use Rattle.ocf_model.specs.Due.{Due}
use Rattle.ocf_types.specs.Kinds.{Change, Event}
use Rattle.ocf_model.specs.Answer.{Reply}
use Rattle.ocf_model.specs.Resource.{Resource}
use Rattle.ocf_model.specs.State.{State, after, after_all, changed, registered, resource_at, stepped}
use Rattle.ocf_types.specs.declared.event.Change.TheVariants as change
use Rattle.ocf_types.specs.declared.event.Step.TheVariants as step
use Rattle.ocf_model.specs.declared.reply.ReplyOf.TheVariants as reply
use Rattle.ocf_model.specs.declared.reply.TurnEnd.{TurnEnd}
use Rattle.ocf_model.specs.declared.reply.TurnEnd.TheVariants.{Done}
use Rattle.ocf_model.specs.RegistryLemmas.{absent_any, distinct_filter, each_filter, keys-at_id}
use Rattle.ocf_types.specs.Lemmas.{each_append, each_weaken}
use Rattle.child_model.specs.Children.{is_held}
use Rattle.child_model.specs.declared.answer.Entry.{Entry}
use Rattle.exec_ledger.specs.Actives.{Active, active, active_of}
use Rattle.exec_turn.specs.Picks.{ArePicks, begin_of, begins}
use Rattle.exec_turn.specs.Polls.{IsPoll, Polled, polls, results}
use Rattle.exec_turn.specs.Starts.{Started, refusals, starts}
use Rattle.exec_turn.specs.Turn.{IsTurn, TurnAnswers, Whole}
use Rattle.exec_ledger.specs.BatchStarts.{due_after_all, batch_start}
use Rattle.executor_laws.specs.Projections.{IsPlain, events_of}
use Rattle.exec_ledger.specs.Lemmas.{same_entries, same_events}
use Rattle.exec_ledger.specs.Pieces.{Effects}
use Rattle.executor.specs.Sessions.{TakesATurn}
use Rattle.executor.specs.ExecutorView.{ExecutorView, due_in}
use Rattle.executor_laws.specs.Isolated.{Isolated, IsolatedPoll, IsolatedTurn, cut, running_in, isolated_after_all}
use Rattle.executor_laws.proofs.Isolation.Changes.{AreFresh, IsFresh, IsolatedAs, holds_all}
use Rattle.executor_laws.proofs.Isolation.Lists.{each_first, each_last, each_map, each_of_all, each_unmap, filter-map}
use Rattle.executor_laws.proofs.Isolation.Begins.{isolated_begins}
use Rattle.executor_laws.proofs.Isolation.Picks.{begins_fresh, chosen, own_of}
use Rattle.executor_laws.proofs.Isolation.Requests.{Does, moment_is, seen}
use Rattle.executor_laws.proofs.Isolation.CommandBatches.{AreOwn, IsEnd, begins_kept, ends_fresh, names_it, own_active, polls_kept, refusals_end, refusals_kept, results_end, results_kept, isolated_poll, starts_kept}
use Rattle.store_model.specs.StoreView.{StoreView}

-- new events after new events
pub fresh-append : (s : State) (es fs : List Event) → AreFresh s es → AreFresh (after_all s es) fs → AreFresh s (es ++ fs)
fresh-append s [] fs h k = k
fresh-append s (e ∷ es) fs h k = (h.0, fresh-append (after s e) es fs h.1 k)

-- ids stay distinct
abbrev pub AreApart : State → Type 0
AreApart s = IsDistinct bytes_eq (keys_of s.resources)

ids_kept : (at : ℕ) (c : Change) (s : State) → IsFresh s c → AreApart s → IsDistinct bytes_eq (keys_of (changed at c s.resources))
ids_kept at (change.Register r) s h apart = rw (map-append (λ (e : List ℕ × Resource). e.0) s.resources (registered r ∷ []))
    (IsDistinct-push nat_list_eq_equiv (keys_of s.resources) r.id apart (absent_any r.id s.resources h))
ids_kept at (change.Unregister id) s h apart =
    distinct_filter bytes_eq (λ (e : List ℕ × Resource). e.0) (λ e. not (bytes_eq id e.0)) s.resources apart
ids_kept at (change.Step id what) s h apart = rw (keys-at_id id (stepped at what) s.resources) apart
ids_kept at change.Boot s h apart = absurd h

pub ids_stay : (s : State) (es : List Event) → AreFresh s es → AreApart s → AreApart (after_all s es)
ids_stay s [] h apart = apart
ids_stay s (e ∷ es) h apart = ids_stay (after s e) es h.1 (ids_kept e.at e.change s h.0 apart)

pub clock_after : (s : State) (at last : ℕ) (es : List Event) → AllByRecursion (λ e. e.at ≡ at) es → at ≤ last → s.clock ≤ last
    → (after_all s es).clock ≤ last
clock_after s at last [] h le clock = clock
clock_after s at last (e ∷ es) h le clock = clock_after (after s e) at last es h.1 le (omega (arith, h.0, le))

pub ends_at : (at : ℕ) (es : List Event) → AllByRecursion (IsEnd at) es → AllByRecursion (λ e. e.at ≡ at) es
ends_at at es h = each_weaken (IsEnd at) (λ e. e.at ≡ at) (λ e end. end.now) es h

-- a begin draws a run of the resource exactly when it names it
abbrev pub BeginsOwn : (ℕ → Bool) → List ℕ → Change → Type 0
BeginsOwn mine id (change.Step other (step.Begin call run)) = mine run ≡ bytes_eq id other
BeginsOwn mine id _ = ⊤

abbrev pub AllBeginOwn : (ℕ → Bool) → List ℕ → List Event → Type 0
AllBeginOwn mine id es = AllByRecursion (λ e. BeginsOwn mine id e.change) es

-- of the polls of all running actions, one resource's are its own machine's, and so are their results
pub own_polls : (mine : ℕ → Bool) (id : List ℕ) (at : ℕ) (y : Isolated) (s : State) (ps : List Polled) → map (λ p. p.who) ps ≡ active s
    → AllByRecursion (λ p. IsPoll p.poll) ps → AreApart s → AreOwn mine id (active s) → y.resource ≡ resource_at s id
    → IsolatedPoll id at (running_in y) (filter (λ e. mine e.run) (polls at ps)) (events_of id (results at ps))
own_polls mine id at y s ps each bytes apart runs resource =
    let own : List Polled = filter (λ p. bytes_eq id p.who.id) ps in
    let who : map (λ p. p.who) own ≡ active_of id (running_in y) = sym (filter-map (λ a. bytes_eq id a.id) (λ p. p.who) ps)
    ∙ ap (own_of id) each ∙ own_active s id apart
    ∙ ap (λ (o : Option Resource). active_of id (option_and_then (λ r. r.history.running) o)) (sym resource) in
    subst (λ (l : List Entry). IsolatedPoll id at (running_in y) l (events_of id (results at ps)))
    (sym (polls_kept mine id at ps (subst (AreOwn mine id) (sym each) runs)))
    (subst (λ (l : List Event). IsolatedPoll id at (running_in y) (polls at own) l) (sym (results_kept id at ps))
    (isolated_poll id at (running_in y) own (each_filter (λ p. IsPoll p.poll) (λ p. bytes_eq id p.who.id) ps bytes) who))

-- A turn that ended done, at the moment that was handed in.
pub record TurnDone {S : Type 0} (now : ℕ) (old new : ExecutorView S) (given : Reply) (effects : Effects) : Type 0 where
  pub done : given ≡ reply.Turn Done
  pub tail : ℕ
  pub t : TurnAnswers new.children.held Done (batch_start old.state (due_in old) tail (cut now) old.refuses)
  pub entries : effects.entries ≡ polls (cut now) t.polled ++ starts t.clock t.started
  pub events : effects.events ≡ results (cut now) t.polled ++ (begins (cut now) t.begun ++ refusals (cut now) t.started)
  pub state : new.state ≡ after_all old.state effects.events
  pub due : due_in new ≡ due_after_all old.state (due_in old) effects.events

pub turn_done : {S : Type 0} (view : S → StoreView) (now : ℕ) (old new : ExecutorView S) (given : Reply) (effects : Effects) → old.state.clock ≤ cut now
    → IsPlain given
    → TakesATurn view now old new given effects → TurnDone now old new given effects
turn_done {S} view now old new given effects clock plain takes =
    let turns = takes.takes.turns in
    let is_done : takes.end ≡ Done = subst IsPlain takes.replies plain in
    let raw : Whole new.children.held Done (batch_start old.state (due_in old) (view old.store).tail (moment old.state now) old.refuses) turns.effects new.reported =
    subst (λ (e : TurnEnd). IsTurn new.children.held e
    (batch_start old.state (due_in old) (view old.store).tail (moment old.state now) old.refuses) turns.effects new.reported) is_done turns.does in
    let whole : Whole new.children.held Done (batch_start old.state (due_in old) (view old.store).tail (cut now) old.refuses) turns.effects new.reported =
    subst (λ (at : ℕ). Whole new.children.held Done (batch_start old.state (due_in old) (view old.store).tail at old.refuses) turns.effects new.reported)
    (moment_is old.state now clock) raw in
    let batch : effects.events ≡ turns.effects.events = same_events takes.does in record {
      done = takes.replies ∙ ap (λ (e : TurnEnd). reply.Turn e) is_done;
      tail = (view old.store).tail;
      t = whole.0;
      entries = ap (λ (x : Effects). x.entries) takes.does ∙ same_entries whole.1;
      events =
          batch ∙ same_events whole.1 ∙ append_assoc (results (cut now) whole.0.polled) (begins (cut now) whole.0.begun)
          (refusals (cut now) whole.0.started);
      state = turns.crash.state ∙ ap (after_all old.state) (sym batch);
      due = turns.due_is ∙ ap (due_after_all old.state (due_in old)) (sym batch);
    }

module _ {S : Type 0} (now : ℕ) (old new : ExecutorView S) (given : Reply) (effects : Effects) (turn : TurnDone now old new given effects) where
  at : ℕ
  at = cut now

  -- its state and due moments after the results, the events after these, and its picks there
  mid : State
  mid = after_all old.state (results at turn.t.polled)

  moments : Due
  moments = due_after_all old.state (due_in old) (results at turn.t.polled)

  following : List Event
  following = begins at turn.t.begun ++ refusals at turn.t.started

  picks : ArePicks new.children.held moments at mid.next_run mid.resources turn.t.begun
  unfolding at moments mid
  picks = turn.t.picked.0.0

  results_new : AreFresh old.state (results at turn.t.polled)
  results_new = ends_fresh at (results at turn.t.polled) (results_end at turn.t.polled) old.state

  after_new : AreFresh mid following
  unfolding following
  after_new = begins_fresh new.children.held moments at mid.next_run mid.resources turn.t.begun picks mid (refusals at turn.t.started) refl
      (ends_fresh at (refusals at turn.t.started) (refusals_end at turn.t.started))

  now_all : AllByRecursion (λ e. e.at ≡ at) (results at turn.t.polled ++ following)
  unfolding following
  now_all =
      each_append (λ e. e.at ≡ at) (results at turn.t.polled) (begins at turn.t.begun ++ refusals at turn.t.started)
      (ends_at at (results at turn.t.polled) (results_end at turn.t.polled))
      (each_append (λ e. e.at ≡ at) (begins at turn.t.begun) (refusals at turn.t.started)
      (each_map (λ e. e.at ≡ at) (begin_of at) turn.t.begun (each_of_all (λ (a : Active). at ≡ at) (λ a. refl) turn.t.begun))
      (ends_at at (refusals at turn.t.started) (refusals_end at turn.t.started)))

  -- the state after it is that after its events
  pub turn_does : old.state.clock ≤ cut now → Does (cut now) (seen old) (seen new) effects.events
  unfolding at mid following
  turn_does clock = record {
    state = turn.state;
    due = turn.due;
    next = subst (AreFresh old.state) (sym turn.events) (fresh-append old.state (results at turn.t.polled) following results_new after_new);
    clock = subst (λ (s : State). s.clock ≤ cut now) (sym turn.state)
        (subst (λ (l : List Event). (after_all old.state l).clock ≤ cut now) (sym turn.events)
        (clock_after old.state at (cut now) (results at turn.t.polled ++ following) now_all (le_refl (cut now)) clock));
  }

  module _ (mine : ℕ → Bool) (id : List ℕ) (y : Isolated) where
    -- its own begins and starts
    own_begun : List Active
    own_begun = own_of id turn.t.begun

    own_started : List Started
    own_started = filter (λ x. bytes_eq id x.what.id) turn.t.started

    -- the machine makes its part of the turn
    pub turn_isolated : IsolatedAs y old.state (due_in old) id → AreApart old.state → AreOwn mine id (active old.state)
        → AllBeginOwn mine id effects.events → is_held new.children.held id ≡ false
        → IsolatedTurn id (cut now) y given (filter (λ e. mine e.run) effects.entries) (events_of id effects.events)
    unfolding at mid moments following own_begun own_started
    turn_isolated holds apart runs own free =
        let test : Entry → Bool = λ e. mine e.run in
        let polled : List Entry = polls at turn.t.polled in
        let batch : List Event = results at turn.t.polled in
        let later : List Event = begins at turn.t.begun ++ refusals at turn.t.started in
        let all_own : AllBeginOwn mine id (batch ++ later) = subst (AllBeginOwn mine id) turn.events own in
        let begins_own : AllBeginOwn mine id (begins at turn.t.begun) = each_first (λ e. BeginsOwn mine id e.change)
        (begins at turn.t.begun) (refusals at turn.t.started) (each_last (λ e. BeginsOwn mine id e.change) batch later all_own) in
        let begun_own : AreOwn mine id turn.t.begun = each_unmap (λ e. BeginsOwn mine id e.change) (begin_of at) turn.t.begun begins_own in
        let started_own : AreOwn mine id (map (λ x. x.what) turn.t.started) = subst (AreOwn mine id) (sym turn.t.each_started) begun_own in
        let what : map (λ x. x.what) own_started ≡ own_begun = sym (filter-map (λ a. bytes_eq id a.id) (λ x. x.what) turn.t.started)
        ∙ ap (own_of id) turn.t.each_started in
        let there : IsolatedAs (isolated_after_all y (events_of id batch)) mid moments id =
        holds_all y old.state (due_in old) id batch holds results_new in record {
          done = turn.done;
          polled = filter test polled;
          started = starts turn.t.clock own_started;
          results = events_of id batch;
          begins = begins at own_begun ++ refusals at own_started;
          all_entries = ap (filter test) turn.entries ∙ filter-append test polled (starts turn.t.clock turn.t.started)
              ∙ ap (λ (l : List Entry). filter test polled ++ l) (starts_kept mine id turn.t.clock turn.t.started started_own);
          all_events =
              ap (events_of id) turn.events ∙ filter-append (names_it id) batch later
              ∙ ap (λ (l : List Event). events_of id batch ++ l) (filter-append (names_it id) (begins at turn.t.begun) (refusals at turn.t.started)
              ∙ ap₂ (λ (a b : List Event). a ++ b) (begins_kept id at turn.t.begun) (refusals_kept id at turn.t.started));
          polls = own_polls mine id at y old.state turn.t.polled turn.t.each_polled.each turn.t.each_polled.bytes apart runs holds.resource;
          goes_on =
              isolated_begins (isolated_after_all y (events_of id batch)) id at turn.t.clock mid.next_run moments
              (resource_at mid id) own_begun own_started there.resource there.due there.runs
              (chosen new.children.held moments at mid.next_run mid.resources turn.t.begun id free (ids_stay old.state batch results_new apart) picks) what;
        }
