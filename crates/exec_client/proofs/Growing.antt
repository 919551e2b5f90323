-- What each call of an executor does, and what may then be sent of it.
use Rattle.std.proofs.Common.{◌≡◌, ◌↔◌, ℕ, Bool, true, false, List, [], ◌∷◌, ◌++◌, map, Result, Ok, Err, refl, sym, ap, subst, ◌∙◌}
use Rattle.std.proofs.lemmas.List.{append-nil, map-append}
use Rattle.std.specs.List.{AllByRecursion, flat_map}
use Rattle.ocf_model.specs.Answer.{event_of}
use Rattle.ocf_types.specs.Kinds.{Command, Event, Request}
use Rattle.ocf_model.specs.Answer.{Reply}
use Rattle.ocf_types.specs.declared.command.RequestOf.TheVariants as asked
use Rattle.ocf_model.specs.declared.refusal.Refusal.{Refusal}
use Rattle.ocf_model.specs.declared.refusal.Refusal.TheVariants.{Disk}
use Rattle.ocf_model.specs.declared.reply.ReplyOf.TheVariants as reply
use Rattle.ocf_model.specs.declared.reply.TidyEnd.{TidyEnd}
use Rattle.ocf_model.specs.declared.reply.TurnEnd.{TurnEnd}
use Rattle.store_model.specs.StoreView.{StoreView}
use Rattle.executor.specs.CallLemmas.{followed_by_none}
use Rattle.executor.specs.ExchangeLemmas.{calls_after}
use Rattle.exec_ledger.specs.Commands.{Obeys}
use Rattle.executor.specs.Commands.{Serves, ServesWhile}
use Rattle.executor.specs.Exchanges.{Abandoned, Calls, Cleared, Does, Exchange, Finished, Batch, Tidied, Took}
use Rattle.executor.specs.BatchCalls.{TakesBatch}
use Rattle.executor.specs.CommandExchangeLemmas.{commands_called}
use Rattle.exec_ledger.specs.Together.{batch_replies}
use Rattle.executor.specs.CommandBatches.{TakesCommands}
use Rattle.executor.specs.CommandExchanges.{IsAt, replies_of}
use Rattle.exec_ledger.specs.Lemmas.{while_open}
use Rattle.exec_ledger.specs.Pieces.{Effects, followed_by, no_effects, batch_effects}
use Rattle.executor.specs.Sessions.{TakesWhile, command_effects}
use Rattle.executor.specs.ExecutorView.{ExecutorView, ledger_of}
use Rattle.executor.specs.TidyCalls.{Tidies, TidiesWhile}
use Rattle.executor.specs.TurnCalls.{Abandons, FinishesTurn, TakesTurn, with_empty_book}
use Rattle.executor.specs.declared.session.InputOf.TheVariants as input
use Rattle.exec_ledger.proofs.Keeping.{command_keeps}
use Rattle.exec_client.specs.BackedBy.{BackedBy, nothing}
use Rattle.exec_client.specs.ClientView.{ClientView}
use Rattle.exec_client.specs.MaySend.{AllBacked, IsOfView, MaySend, IsBacked}
use Rattle.exec_client.specs.MessageView.{MessageView}
use Rattle.exec_client.specs.SentItem.{SentItem, answered, sent_in}
use Rattle.exec_client.specs.Sends.{States, SendsCalls, noticed}
use Rattle.exec_client.proofs.Behinds.{both_after, failed_after, finish_after, reply_after, batch_after, states_nothing, turn_after}
use Rattle.exec_client.proofs.Saying.{no_claim}
use Rattle.exec_client.proofs.CallsSent.{both_send, claims_nothing, commands_send, one_sends}

-- a refusal
refused_after : (r : Reply) (why : Refusal) → r ≡ reply.Refused why → BackedBy (answered r ∷ []) []
refused_after r why is =
    subst (λ (t : Reply). BackedBy (answered t ∷ []) []) (sym is) (states_nothing (answered (reply.Refused why)) refl)

-- events that are equal to these
events_are : (ss : List SentItem) (d e : Effects) → d ≡ e → BackedBy ss e.events → BackedBy ss d.events
events_are ss d e same backed = subst (λ (f : Effects). BackedBy ss f.events) (sym same) backed

module _ {S : Type 0} (view : S → StoreView) where
  -- no call, one call, and calls after others
  pub none_holds : (x y : ExecutorView S) (items : List SentItem) → y ≡ x → BackedBy items [] → IsBacked view x y items
  none_holds x y items same backed = record {
    calls = [];
    effects = no_effects;
    leads = (same, refl);
    sends = (same, refl, claims_nothing items backed);
    backed = backed;
  }

  one_holds : (x y : ExecutorView S) (e : Exchange) (d : Effects) (items : List SentItem) → Does view e x y d → States e y items → BackedBy items d.events
      → IsBacked view x y items
  one_holds x y e d items does says backed = record {
    calls = e ∷ [];
    effects = d;
    leads = (y, d, no_effects, does, (refl, refl), sym (followed_by_none d));
    sends = one_sends view x y e d items does says;
    backed = backed;
  }

  pub both_hold : (x y z : ExecutorView S) (ss ts : List SentItem) → IsBacked view x y ss → IsBacked view y z ts
      → IsBacked view x z (ss ++ ts)
  both_hold x y z ss ts one two = record {
    calls = one.calls ++ two.calls;
    effects = followed_by one.effects two.effects;
    leads = calls_after view x y z one.calls two.calls one.effects two.effects one.leads two.leads;
    sends = both_send view x y z one.calls two.calls one.effects two.effects ss ts one.sends two.sends;
    backed = both_after ss one.effects.events ts two.effects.events one.backed two.backed;
  }

  -- nothing is sent of the later calls
  pub still_hold : (x y z : ExecutorView S) (ss : List SentItem) → IsBacked view x y ss → IsBacked view y z [] → IsBacked view x z ss
  still_hold x y z ss one two =
      subst (λ (items : List SentItem). IsBacked view x z items) (append-nil ss) (both_hold x y z ss [] one two)

  -- a command
  obeys_after : (now : ℕ) (c : Command) (x y : ExecutorView S) (r : Reply) (found : Result Event Refusal) → event_of x.state now c ≡ found
      → Obeys view found (ledger_of x) (ledger_of y) r → BackedBy (answered r ∷ []) (command_effects found r).events
  obeys_after now c x y r (Err why) is (refused, same) = refused_after r why refused
  obeys_after now c x y r (Ok e) is records = reply_after e r (command_keeps x.state now c e is) records.reported

  -- a request
  while_taken : (b : Bool) (now : ℕ) (request : Request) (x y : ExecutorView S) (r : Reply) → ServesWhile b view now request x y r
      → (b ≡ true → ((y.is_open ≡ false) ↔ (r ≡ reply.Refused Disk)))
      → (d : Effects) × TakesWhile b view (input.Request now request) x y r d × BackedBy (answered r ∷ []) d.events
  while_taken true now (asked.Question question) x y r serves closes = (
    no_effects,
    record { serves = serves; closes = closes refl; does = refl },
    states_nothing (answered r) (no_claim x question r serves.0),
  )
  while_taken true now (asked.Command c) x y r serves closes = (
    command_effects (event_of x.state now c) r,
    record { serves = serves; closes = closes refl; does = refl },
    obeys_after now c x y r (event_of x.state now c) refl serves.0,
  )
  while_taken false now request x y r serves closes = (no_effects, (serves.0, serves.1, refl), refused_after r _ serves.0)

  pub serves_holds : (now : ℕ) (request : Request) (x y : ExecutorView S) (r : Reply) → Serves view now request x y r
      → (x.is_open ≡ true → ((y.is_open ≡ false) ↔ (r ≡ reply.Refused Disk))) → IsBacked view x y (answered r ∷ [])
  serves_holds now request x y r serves closes =
      let (d, takes, backed) = while_taken x.is_open now request x y r serves closes in
      one_holds x y (Took (input.Request now request) r) d (answered r ∷ []) takes refl backed

  -- commands in a batch
  batch_holds : (now : ℕ) (cs : List Command) (x y : ExecutorView S) (rs : List Reply) (d : Effects) → TakesBatch view now cs x y rs d
      → BackedBy (map answered rs) d.events
  batch_holds now cs x y rs d takes = by y.is_open refl
    where
      sent_so : (b : Bool) → y.is_open ≡ b → BackedBy (map answered (batch_replies b takes.takes.meant)) (batch_effects b takes.takes.events).events
          → BackedBy (map answered rs) d.events
      sent_so b is backed =
          events_are (map answered rs) d (batch_effects b takes.takes.events) (takes.does ∙ ap (λ (o : Bool). batch_effects o takes.takes.events) is)
          (subst (λ (ts : List Reply). BackedBy (map answered ts) (batch_effects b takes.takes.events).events)
          (sym (takes.takes.reported ∙ ap (λ (o : Bool). batch_replies o takes.takes.meant) is)) backed)

      by : (b : Bool) → y.is_open ≡ b → BackedBy (map answered rs) d.events
      by true is = sent_so true is (batch_after now x.state cs takes.takes.meant takes.takes.events takes.takes.answered)
      by false is = sent_so false is (failed_after takes.takes.meant)

  -- one of the calls by which commands are carried out
  taken_after : (b : Bool) (at : ℕ) (c : Command) (x y : ExecutorView S) (r : Reply) (d : Effects)
      → TakesWhile b view (input.Request at (asked.Command c)) x y r d → BackedBy (answered r ∷ []) d.events
  taken_after true at c x y r d takes =
      events_are (answered r ∷ []) d (command_effects (event_of x.state at c) r) takes.does
      (obeys_after at c x y r (event_of x.state at c) refl takes.serves.0)
  taken_after false at c x y r d (refused, same, none) = events_are (answered r ∷ []) d no_effects none (refused_after r _ refused)

  one_after : (now : ℕ) (e : Exchange) (x y : ExecutorView S) (d : Effects) → IsAt now e → Does view e x y d
      → BackedBy (map answered (replies_of e)) d.events
  one_after now (Took (input.Request at (asked.Command c)) r) x y d is does = taken_after x.is_open at c x y r d does
  one_after now (Took (input.Request at (asked.Question q)) r) x y d is does = absurd is
  one_after now (Took (input.Turn at) r) x y d is does = absurd is
  one_after now (Batch at cs rs) x y d is does = batch_holds at cs x y rs d does
  one_after now (Finished at end) x y d is does = absurd is
  one_after now (Tidied end) x y d is does = absurd is
  one_after now Cleared x y d is does = absurd is
  one_after now Abandoned x y d is does = absurd is

  calls_sent : (now : ℕ) (es : List Exchange) (x y : ExecutorView S) (d : Effects) → AllByRecursion (IsAt now) es → Calls view x es y d
      → BackedBy (map answered (flat_map replies_of es)) d.events
  calls_sent now [] x y d at (same, none) = events_are [] d no_effects none nothing
  calls_sent now (e ∷ es) x y d at (mid, first, later, does, calls, is) =
      subst (λ (ss : List SentItem). BackedBy ss d.events) (sym (map-append answered (replies_of e) (flat_map replies_of es)))
      (events_are (map answered (replies_of e) ++ map answered (flat_map replies_of es)) d (followed_by first later) is
      (both_after (map answered (replies_of e)) first.events (map answered (flat_map replies_of es)) later.events
      (one_after now e x mid first at.0 does) (calls_sent now es mid y later at.1 calls)))

  pub commands_hold : (now : ℕ) (cs : List Command) (x y : ExecutorView S) (rs : List Reply) → TakesCommands view now cs x y rs
      → IsBacked view x y (map answered rs)
  commands_hold now cs x y rs does =
      let takes = commands_called view now cs rs x y does in record {
        calls = takes.exchanges;
        effects = takes.effects;
        leads = takes.calls;
        sends = subst (λ (ts : List Reply). SendsCalls view x takes.exchanges y takes.effects (map answered ts)) takes.answered
            (commands_send view now takes.exchanges x y takes.effects takes.at_once takes.calls);
        backed = subst (λ (ts : List Reply). BackedBy (map answered ts) takes.effects.events) takes.answered
            (calls_sent now takes.exchanges x y takes.effects takes.at_once takes.calls);
      }

  -- a turn, a turn that begins nothing, a tidy, and an emptied book
  pub turn_holds : (now : ℕ) (x y : ExecutorView S) (end : TurnEnd) → x.is_open ≡ true → TakesTurn view now x y end
      → IsBacked view x y (noticed y)
  turn_holds now x y end is_open takes =
      one_holds x y (Took (input.Turn now) (reply.Turn end)) takes.turns.effects (noticed y)
      (while_open _ is_open (record { end = end; takes = takes; replies = refl; does = refl })) refl
      (turn_after y.children.book y.children.held end _ takes.turns.effects y.reported takes.turns.does)

  pub finish_holds : (now : ℕ) (x y : ExecutorView S) (end : TurnEnd) → x.is_open ≡ true → FinishesTurn view now x y end
      → IsBacked view x y (noticed y)
  finish_holds now x y end is_open takes =
      one_holds x y (Finished now end) takes.turns.effects (noticed y) (while_open _ is_open (takes, refl)) refl
      (finish_after y.children.book y.children.held end _ takes.turns.effects y.reported takes.turns.does)

  pub tidied_holds : (x y : ExecutorView S) (end : TidyEnd) → TidiesWhile x.is_open view x y end → IsBacked view x y []
  tidied_holds x y end tidies = one_holds x y (Tidied end) no_effects [] (tidies, refl) refl nothing

  pub tidy_holds : (x y : ExecutorView S) (end : TidyEnd) → x.is_open ≡ true → Tidies view x y end → IsBacked view x y []
  tidy_holds x y end is_open tidies =
      tidied_holds x y end (while_open _ is_open tidies)

  pub cleared_holds : (x y : ExecutorView S) → y ≡ with_empty_book x → IsBacked view x y []
  cleared_holds x y cleared = one_holds x y Cleared no_effects [] (cleared, refl) refl nothing

  -- what may be sent of an executor after calls
  pub may_send : (client_view : ClientView S) (x y : ExecutorView S) (what : MessageView) → AllBacked view client_view x → IsBacked view x y (sent_in what)
      → IsOfView y what → MaySend view client_view y what
  may_send client_view x y what holds more says =
      record { holds = both_hold client_view.opened x y client_view.reported (sent_in what) holds more; says = says }

  -- all agent processes are given up
  pub abandoned_holds : (x y : ExecutorView S) → Abandons x y → IsBacked view x y []
  abandoned_holds x y given_up = one_holds x y Abandoned no_effects [] (given_up, refl) refl nothing
