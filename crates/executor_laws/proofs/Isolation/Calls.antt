-- Each resource's part of calls is a behaviour of its own machine.
use Rattle.std.proofs.Common.{◌≡◌, ℕ, ◌≤◌, Bool, true, false, cond, List, [], ◌∷◌, ◌++◌, filter, refl, sym, ap, subst, ◌∙◌, le_refl, le_trans}
use Rattle.std.specs.List.{AllByRecursion}
use Rattle.std.proofs.lemmas.List.{append-nil}
use Rattle.std.proofs.lemmas.List.Elements.{filter-append}
use Rattle.ocf_model.specs.Due.{Due}
use Rattle.ocf_types.specs.Kinds.{Command, Event, Request}
use Rattle.ocf_model.specs.Answer.{Reply}
use Rattle.ocf_model.specs.State.{State, after_all}
use Rattle.ocf_types.specs.declared.command.RequestOf.TheVariants as asked
use Rattle.ocf_model.specs.declared.reply.TurnEnd.{TurnEnd}
use Rattle.ocf_model.specs.declared.reply.TurnEnd.TheVariants as turn_end
use Rattle.child_model.specs.Children.{is_held}
use Rattle.child_model.specs.declared.answer.Entry.{Entry}
use Rattle.exec_ledger.specs.Actives.{active}
use Rattle.exec_ledger.specs.Lemmas.{same_entries, same_events}
use Rattle.exec_ledger.specs.Pieces.{Effects, no_effects, batch_effects}
use Rattle.exec_ledger.specs.Together.{Answered, batch_replies}
use Rattle.executor_laws.specs.Joins.{SameIsolated, as_calls}
use Rattle.executor.specs.FinishCalls.{FinishedWhile}
use Rattle.executor.specs.Exchanges.{Abandoned, Calls, Cleared, Exchange, Finished, Batch, Tidied, Took}
use Rattle.executor.specs.Exchanges.{Does as Called}
use Rattle.executor_laws.specs.Projections.{AreRising, DistinctKeys, IsAnswered, IsFree, IsFreeSession, IsPlain, WasFree, entries_of_runs, events_of, is_about, moment_in, own_runs, part, projection_of}
use Rattle.executor.specs.Sessions.{Input, Session, TakesWhile}
use Rattle.executor.specs.ExecutorView.{ExecutorView, due_in}
use Rattle.executor_laws.specs.Isolated.{Alone, Isolated, IsolatedPoll, cut, isolated_after_all, isolated_of, running_in}
use Rattle.executor.specs.declared.session.InputOf.TheVariants as input
use Rattle.executor_laws.proofs.Isolation.Batches.{AllRefused, AreReportedOf, IsStep, failed_reported, own_command, plain_first, batch_alone, sent_so}
use Rattle.executor_laws.proofs.Isolation.Changes.{AreFresh, IsolatedAs, single-append, holds_all}
use Rattle.executor_laws.proofs.Isolation.Finishes.{finish_done, finish_isolated}
use Rattle.executor_laws.proofs.Isolation.Joins.{lemma_projections_join, holds_self}
use Rattle.executor_laws.proofs.Isolation.Lists.{each_first, each_last}
use Rattle.executor_laws.proofs.Isolation.Replies.{isolated_question}
use Rattle.executor_laws.proofs.Isolation.Requests.{commands, seen}
use Rattle.executor_laws.proofs.Isolation.CommandBatches.{AreOwn, names_it}
use Rattle.executor_laws.proofs.Isolation.Runs.{is_mine, own_stays, runs_own}
use Rattle.executor_laws.proofs.Isolation.Turns.{AllBeginOwn, AreApart, BeginsOwn, fresh-append, ids_stay, turn_done, turn_isolated}
use Rattle.executor_laws.proofs.Isolation.Went.{Went, call_went, closed_plain, first_fresh, here, own_append}
use Rattle.executor_laws.proofs.Incarnations.Calls.{calls_closed}
use Rattle.executor_laws.proofs.SessionCalls.{free_calls, lemma_session_is_calls}
use Rattle.store_model.specs.StoreView.{StoreView}

module _ {S : Type 0} (view : S → StoreView) (mine : ℕ → Bool) (id : List ℕ) where
  own_entries : List Entry → List Entry
  own_entries es = filter (λ e. mine e.run) es

  no_entries : (effects : Effects) → effects ≡ no_effects → own_entries effects.entries ≡ []
  unfolding own_entries
  no_entries effects none = ap (λ (x : Effects). own_entries x.entries) none

  no_events : (effects : Effects) → effects ≡ no_effects → events_of id effects.events ≡ []
  no_events effects none = ap (λ (x : Effects). events_of id x.events) none

  -- the machine agrees with the executor after a call
  holds_after : (at : ℕ) (y : Isolated) (old new : ExecutorView S) (es : List Event) → Went mine id at old new es
      → IsolatedAs y old.state (due_in old) id → IsolatedAs (isolated_after_all y (events_of id es)) new.state (due_in new) id
  holds_after at y old new es went holds =
      let own : events_of id (es ++ went.more) ≡ events_of id es = filter-append (names_it id) es went.more
      ∙ ap (λ (l : List Event). events_of id es ++ l) went.others ∙ append-nil (events_of id es) in
      subst (λ (l : List Event). IsolatedAs (isolated_after_all y l) new.state (due_in new) id) own
      (subst (λ (s : State). IsolatedAs (isolated_after_all y (events_of id (es ++ went.more))) s (due_in new) id) (sym went.does.state)
      (subst (λ (u : Due). IsolatedAs (isolated_after_all y (events_of id (es ++ went.more))) (after_all old.state (es ++ went.more)) u id)
      (sym went.does.due) (holds_all y old.state (due_in old) id (es ++ went.more) holds went.does.next)))

  -- the machine takes its part of a request, and of any call
  request_alone : (open_now b : Bool) (y : Isolated) (now : ℕ) (old new : ExecutorView S) (r : Reply) (d : Effects) (request : Request)
      → is_about id request ≡ b → old.state.clock ≤ cut now → (b ≡ true → IsPlain r) → IsolatedAs y old.state (due_in old) id
      → TakesWhile open_now view (input.Request now request) old new r d
      → IsStep b id y (Took (input.Request now request) r) (own_entries d.entries) (events_of id d.events)
  unfolding own_entries
  request_alone false true y now old new r d request about clock plain holds takes =
      absurd (closed_plain (input.Request now request) r takes.0 (plain refl))
  request_alone false false y now old new r d request about clock plain holds takes = (no_entries d takes.2, no_events d takes.2)
  request_alone true b y now old new r d (asked.Command c) about clock plain holds takes =
      let did = commands view now c old new r d clock takes in
      subst (λ (l : List Entry). IsStep b id y (Took (input.Request now (asked.Command c)) r) l (events_of id d.events))
      (sym (ap own_entries did.no_entries)) (own_command b id y now c (seen old) (seen new) r d about clock plain holds did)
  request_alone true true y now old new r d (asked.Question q) about clock plain holds takes =
      (no_entries d takes.does, no_events d takes.does, isolated_question y.resource old.state id q r holds.resource about takes.serves.0 (plain refl))
  request_alone true false y now old new r d (asked.Question q) about clock plain holds takes = (no_entries d takes.does, no_events d takes.does)

  one_alone : (b : Bool) (y : Isolated) (e : Exchange) (es : List Entry) (vs : List Event) → IsStep b id y e es vs
      → Alone id y (cond b (e ∷ []) []) es vs
  one_alone true y e es vs step = (es, [], vs, [], sym (append-nil es), sym (append-nil vs), step, (refl, refl))
  one_alone false y e es vs step = step

  turn_alone : (open_now : Bool) (y : Isolated) (now : ℕ) (old new : ExecutorView S) (r : Reply) (d : Effects) → old.state.clock ≤ cut now
      → IsPlain r → IsolatedAs y old.state (due_in old) id → AreApart old.state → AreOwn mine id (active old.state) → AllBeginOwn mine id d.events
      → is_held new.children.held id ≡ false → TakesWhile open_now view (input.Turn now) old new r d
      → IsStep true id y (Took (input.Turn now) r) (own_entries d.entries) (events_of id d.events)
  unfolding own_entries
  turn_alone true y now old new r d clock plain holds apart own begins free takes =
      turn_isolated now old new r d (turn_done view now old new r d clock plain takes) mine id y holds apart own begins free
  turn_alone false y now old new r d clock plain holds apart own begins free takes = absurd (closed_plain (input.Turn now) r takes.0 plain)

  finish_alone : (open_now : Bool) (y : Isolated) (now : ℕ) (end : TurnEnd) (old new : ExecutorView S) (d : Effects) → old.state.clock ≤ cut now
      → end ≡ turn_end.Done → IsolatedAs y old.state (due_in old) id → AreApart old.state → AreOwn mine id (active old.state)
      → FinishedWhile open_now view now old new end d
      → IsStep true id y (Finished now end) (own_entries d.entries) (events_of id d.events)
  unfolding own_entries
  finish_alone true y now end old new d clock done holds apart own (takes, did) =
      let finish = finish_done view now old new end takes clock done in (
        done,
        subst (λ (x : Effects). IsolatedPoll id (cut now) (running_in y) (own_entries x.entries) (events_of id x.events)) (sym did)
            (finish_isolated now old new takes.turns.effects finish mine id y holds apart own),
      )
  finish_alone false y now end old new d clock done holds apart own takes =
      absurd (let bad : turn_end.Closed ≡ turn_end.Done = sym takes.0 ∙ done in cc)

  call_alone : (at : ℕ) (y : Isolated) (e : Exchange) (old new : ExecutorView S) (d : Effects) → old.state.clock ≤ moment_in at e
      → AllByRecursion IsAnswered (projection_of id e) → IsolatedAs y old.state (due_in old) id → AreApart old.state
      → AreOwn mine id (active old.state) → AllBeginOwn mine id d.events → WasFree id e new → Called view e old new d
      → Alone id y (projection_of id e) (own_entries d.entries) (events_of id d.events)
  unfolding own_entries
  call_alone at y (Took (input.Request now request) r) old new d clock plain holds apart own begins free does =
      let e = Took (input.Request now request) r in
      one_alone (is_about id request) y e (own_entries d.entries) (events_of id d.events)
      (request_alone old.is_open (is_about id request) y now old new r d request refl clock (plain_first (is_about id request) e [] plain).0 holds does)
  call_alone at y (Took (input.Turn now) r) old new d clock plain holds apart own begins free does =
      one_alone true y (Took (input.Turn now) r) (own_entries d.entries) (events_of id d.events)
      (turn_alone old.is_open y now old new r d clock plain.0 holds apart own begins free does)
  call_alone at y (Batch now cs rs) old new d clock plain holds apart own begins free batch =
      let entries : own_entries d.entries ≡ [] = ap own_entries (same_entries batch.does) in
      subst (λ (l : List Entry). Alone id y (projection_of id (Batch now cs rs)) l (events_of id d.events)) (sym entries)
      (by new.is_open refl batch.takes.reported (same_events batch.does))
    where
      takes : AreReportedOf rs batch.takes.meant → Alone id y (projection_of id (Batch now cs rs)) [] (events_of id batch.takes.events)
          × (AllRefused rs → events_of id batch.takes.events ≡ [])
      takes reported = batch_alone now id y (seen old) cs rs batch.takes.meant batch.takes.events clock plain holds batch.takes.answered reported

      by : (b : Bool) → new.is_open ≡ b → rs ≡ batch_replies b batch.takes.meant → d.events ≡ (batch_effects b batch.takes.events).events
          → Alone id y (projection_of id (Batch now cs rs)) [] (events_of id d.events)
      by true is reported events = subst (λ (l : List Event). Alone id y (projection_of id (Batch now cs rs)) [] (events_of id l)) (sym events)
          (takes (subst (λ (l : List Reply). AreReportedOf l batch.takes.meant) (sym reported) (sent_so batch.takes.meant))).0
      by false is reported events =
          let bad = failed_reported batch.takes.meant in
          let both = takes (subst (λ (l : List Reply). AreReportedOf l batch.takes.meant) (sym reported) bad.0) in
          subst (λ (l : List Event). Alone id y (projection_of id (Batch now cs rs)) [] l)
          (both.1 (subst AllRefused (sym reported) bad.1) ∙ sym (ap (events_of id) events)) both.0
  call_alone at y (Finished now end) old new d clock plain holds apart own begins free does =
      one_alone true y (Finished now end) (own_entries d.entries) (events_of id d.events)
      (finish_alone old.is_open y now end old new d clock plain.0 holds apart own does)
  call_alone at y (Tidied end) old new d clock plain holds apart own begins free does = (no_entries d does.1, no_events d does.1)
  call_alone at y Cleared old new d clock plain holds apart own begins free does = (no_entries d does.1, no_events d does.1)
  call_alone at y Abandoned old new d clock plain holds apart own begins free does = (no_entries d does.1, no_events d does.1)

  -- the events of calls are new
  calls_fresh : (at : ℕ) (es : List Exchange) (x z : ExecutorView S) (d : Effects) → x.state.clock ≤ at → AreRising at es
      → AllByRecursion IsAnswered (part id es) → Calls view x es z d → AreFresh x.state d.events
  calls_fresh at [] x z d clock rises plain calls = subst (λ (k : Effects). AreFresh x.state k.events) (sym calls.1) tt
  calls_fresh at (e ∷ es) x z d clock rises plain (mid, first, later, does, rest, all) =
      let went = call_went view mine id at e x mid first (le_trans clock rises.0) (each_first IsAnswered (projection_of id e) (part id es) plain) does in
      subst (λ (k : Effects). AreFresh x.state k.events) (sym all)
      (by mid.is_open refl went (first_fresh x.state first.events went.more went.does.next)
      (calls_fresh (moment_in at e) es mid z later went.does.clock rises.1 (each_last IsAnswered (projection_of id e) (part id es) plain) rest))
    where
      by : (b : Bool) → mid.is_open ≡ b → Went mine id (moment_in at e) x mid first.events → AreFresh x.state first.events
          → AreFresh mid.state later.events → AreFresh x.state (first.events ++ later.events)
      by true is went new_first new_later =
          let state : mid.state ≡ after_all x.state first.events = went.does.state
          ∙ ap (λ (l : List Event). after_all x.state (first.events ++ l)) (went.whole is)
          ∙ ap (after_all x.state) (append-nil first.events) in
          fresh-append x.state first.events later.events new_first (subst (λ (s : State). AreFresh s later.events) state new_later)
      by false is went new_first new_later =
          subst (λ (k : Effects). AreFresh x.state (first.events ++ k.events)) (sym (calls_closed view mid z es later is rest).nothing)
          (subst (AreFresh x.state) (sym (append-nil first.events)) new_first)

  -- the machine after calls
  calls_hold : (at : ℕ) (es : List Exchange) (y : Isolated) (x z : ExecutorView S) (d : Effects) → x.state.clock ≤ at → AreRising at es
      → AllByRecursion IsAnswered (part id es) → IsolatedAs y x.state (due_in x) id → Calls view x es z d
      → IsolatedAs (isolated_after_all y (events_of id d.events)) z.state (due_in z) id
  calls_hold at [] y x z d clock rises plain holds calls =
      subst (λ (k : Effects). IsolatedAs (isolated_after_all y (events_of id k.events)) z.state (due_in z) id) (sym calls.1)
      (subst (λ (w : ExecutorView S). IsolatedAs y w.state (due_in w) id) (sym calls.0) holds)
  calls_hold at (e ∷ es) y x z d clock rises plain holds (mid, first, later, does, rest, all) =
      let went = call_went view mine id at e x mid first (le_trans clock rises.0) (each_first IsAnswered (projection_of id e) (part id es) plain) does in
      let y2 = isolated_after_all y (events_of id first.events) in
      let there = calls_hold (moment_in at e) es y2 mid z later went.does.clock rises.1
      (each_last IsAnswered (projection_of id e) (part id es) plain) (holds_after (moment_in at e) y x mid first.events went holds) rest in
      subst (λ (v : Isolated). IsolatedAs v z.state (due_in z) id)
      (sym (ap (λ (k : Effects). isolated_after_all y (events_of id k.events)) all
      ∙ ap (isolated_after_all y) (filter-append (names_it id) first.events later.events)
      ∙ single-append y (events_of id first.events) (events_of id later.events))) there

  -- its part of calls is a behaviour of the machine
  alone : (at : ℕ) (es : List Exchange) (y : Isolated) (x z : ExecutorView S) (d : Effects) → x.state.clock ≤ at → AreRising at es
      → AllByRecursion IsAnswered (part id es) → IsolatedAs y x.state (due_in x) id → AreApart x.state → AreOwn mine id (active x.state)
      → AllBeginOwn mine id d.events → (calls : Calls view x es z d) → IsFree view id x es z d calls
      → Alone id y (part id es) (own_entries d.entries) (events_of id d.events)
  unfolding own_entries
  alone at [] y x z d clock rises plain holds apart own begins calls free = (no_entries d calls.1, no_events d calls.1)
  alone at (e ∷ es) y x z d clock rises plain holds apart own begins (mid, first, later, does, rest, all) free =
      let now : x.state.clock ≤ moment_in at e = le_trans clock rises.0 in
      let plain_here = each_first IsAnswered (projection_of id e) (part id es) plain in
      let went = call_went view mine id at e x mid first now plain_here does in
      let all_begin : AllBeginOwn mine id (first.events ++ later.events) = subst (λ (k : Effects). AllBeginOwn mine id k.events) all begins in
      let begins_first = each_first (λ e. BeginsOwn mine id e.change) first.events later.events all_begin in
      let begins_later = each_last (λ e. BeginsOwn mine id e.change) first.events later.events all_begin in
      let done = first.events ++ went.more in
      let y2 = isolated_after_all y (events_of id first.events) in
      let one = call_alone at y e x mid first now plain_here holds apart own begins_first free.0 does in
      let following = alone (moment_in at e) es y2 mid z later went.does.clock rises.1
      (each_last IsAnswered (projection_of id e) (part id es) plain) (holds_after (moment_in at e) y x mid first.events went holds)
      (subst AreApart (sym went.does.state) (ids_stay x.state done went.does.next apart))
      (subst (λ (s : State). AreOwn mine id (active s)) (sym went.does.state)
      (own_stays mine id x.state done went.does.next (own_append mine id first.events went.more begins_first went.begins) own))
      begins_later rest free.1 in
      subst (λ (k : Effects). Alone id y (part id (e ∷ es)) (own_entries k.entries) (events_of id k.events)) (sym all)
      (subst (λ (l : List Entry). Alone id y (part id (e ∷ es)) l (events_of id (first.events ++ later.events)))
      (sym (filter-append (λ e. mine e.run) first.entries later.entries))
      (subst (λ (l : List Event). Alone id y (part id (e ∷ es)) (own_entries first.entries ++ own_entries later.entries) l)
      (sym (filter-append (names_it id) first.events later.events))
      (lemma_projections_join id y y2 (projection_of id e) (part id es) (own_entries first.entries) (own_entries later.entries) (events_of id first.events)
      (events_of id later.events) one (holds_self y2) following)))

module _ {S : Type 0} (view : S → StoreView) (x z : ExecutorView S) where
  -- the law
  pub lemma_each_alone : (es : List Exchange) (d : Effects) (id : List ℕ) → DistinctKeys x.state → (calls : Calls view x es z d) → IsFree view id x es z d calls
      → AllByRecursion IsAnswered (part id es) → AreRising x.state.clock es
      → Alone id (isolated_of x id) (part id es) (entries_of_runs (own_runs id x.state d.events) d.entries) (events_of id d.events)
  unfolding own_entries
  lemma_each_alone es d id apart calls free plain rises =
      let mine : ℕ → Bool = is_mine id x.state d.events in
      let clock = le_refl x.state.clock in
      let own = runs_own id x.state d.events apart (calls_fresh view mine id x.state.clock es x z d clock rises plain calls) in
      alone view mine id x.state.clock es (isolated_of x id) x z d clock rises plain (here x id) apart.ids own.0 own.1 calls free

  -- and it agrees with the executor after the calls
  pub alone_ends : (es : List Exchange) (d : Effects) (id : List ℕ) → Calls view x es z d
      → AllByRecursion IsAnswered (part id es) → AreRising x.state.clock es
      → SameIsolated (isolated_after_all (isolated_of x id) (events_of id d.events)) (isolated_of z id)
  alone_ends es d id calls plain rises =
      let there = calls_hold view (λ run. false) id x.state.clock es (isolated_of x id) x z d (le_refl x.state.clock) rises plain (here x id) calls in
      record { resource = there.resource; due = there.due; calls = there.calls; runs = there.runs }

  -- the law of a session
  pub session_alone : (inputs : List Input) (replies : List Reply) (d : Effects) (id : List ℕ) → DistinctKeys x.state
      → (session : Session view x inputs replies z d) → IsFreeSession view id x inputs replies z d session
      → AllByRecursion IsAnswered (part id (as_calls inputs replies))
      → AreRising x.state.clock (as_calls inputs replies)
      → Alone id (isolated_of x id) (part id (as_calls inputs replies)) (entries_of_runs (own_runs id x.state d.events) d.entries)
      (events_of id d.events)
  session_alone inputs replies d id apart session free plain rises =
      lemma_each_alone (as_calls inputs replies) d id apart (lemma_session_is_calls view x z inputs replies d session)
      (free_calls view id x z inputs replies d session free) plain rises

-- the law of a batch
pub commands_alone : {S : Type 0} (now : ℕ) (x : ExecutorView S) (commands : List Command) (replies : List Reply) (es : List Event) (id : List ℕ)
    → Answered now x.state commands replies es → AllByRecursion IsAnswered (projection_of id (Batch now commands replies)) → x.state.clock ≤ cut now
    → Alone id (isolated_of x id) (projection_of id (Batch now commands replies)) [] (events_of id es)
commands_alone now x commands replies es id answered plain clock =
    (batch_alone now id (isolated_of x id) (seen x) commands replies replies es clock plain (here x id) answered (sent_so replies)).0
