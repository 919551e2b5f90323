-- In each state of a session, all that was said is backed by what its executor recorded since its opening.
use Rattle.std.proofs.Common.{◌≡◌, ℕ, Bool, true, false, not, cond, ◌&&◌, List, [], ◌∷◌, ◌++◌, map, drop, Option, Some, None, inl, inr, refl, sym, ap, subst, ◌∙◌, append_assoc}
use Rattle.std.proofs.lemmas.List.{append-nil}
use Rattle.std.specs.List.{AllByRecursion}
use Rattle.ocf_types.specs.declared.notice.Notice.{Notice}
use Rattle.ocf_model.specs.declared.reply.TurnEnd.{TurnEnd}
use Rattle.ocf_model.specs.declared.reply.TurnEnd.TheVariants as turn_end
use Rattle.store_model.specs.StoreView.{StoreView}
use Rattle.executor.specs.ExecutorView.{ExecutorView}
use Rattle.exec_replies.specs.declared.reply.LineReply.TheVariants as answer
use Rattle.exec_lines.specs.declared.line.Piece.{Piece}
use Rattle.exec_lines.specs.declared.line.Piece.TheVariants as piece
use Rattle.exec_client.specs.BackedBy.{BackedBy, nothing}
use Rattle.exec_client.specs.ClientView.{ClientView, IsSent}
use Rattle.exec_client.specs.MaySend.{IsBacked, IsOfView, MaySend}
use Rattle.exec_client.specs.MessageView as message
use Rattle.exec_client.specs.MessageView.{MessageView}
use Rattle.exec_client.specs.SentItem.{Answered, Reported, SentItem, sent_in}
use Rattle.exec_client.specs.Sends.{ClaimsNothing}
use Rattle.exec_client.proofs.Growing.{both_hold, none_holds, tidy_holds}
use Rattle.session_machine.specs.After.{after, asked_at, news_of, notices_of, reading, rested_at, sent_at, settled_at, took, with_end_read, with_line_read, drain_now, faulted, turned, time_of, is_empty, is_serve, unanswered, woken_by}
use Rattle.session_machine.specs.Backed.{AreAside, GoesByCalls, IsSound, first_said, owed, said}
use Rattle.session_machine.specs.Behaviours.{Behaves, May, ReceivesAs, begins, goes_on}
use Rattle.session_machine.specs.Events as event
use Rattle.session_machine.specs.Events.{Event}
use Rattle.session_machine.specs.First.{IsFirst}
use Rattle.session_machine.specs.May.{IsDue, IsTurnDue, MayAskReader, MayRest}
use Rattle.session_machine.specs.Session.{At, Drain, SessionState, Then, Closed, Finished, Draining, Ends, Over, Reading, ReadsOn, Resting, Rests, Sending, at_then, begun, ended_by, readied}
use Rattle.session_machine.specs.declared.rules.Mode.{Mode}
use Rattle.session_machine.specs.declared.rules.Mode.TheVariants.{Run, Serve}
use Rattle.session_machine.proofs.CallLemmas.{aside_holds, claims_backed, fault_goes, finish_goes, reply_plain, request_holds, request_says, together_hold, together_says, turn_goes}

-- the messages that are owed claim nothing and may be said
record OwesAside {S : Type 0} (x : ExecutorView S) (ms : List MessageView) : Type 0 where
  aside : AreAside ms
  says : AllByRecursion (IsOfView x) ms

none_owed : {S : Type 0} (x : ExecutorView S) (ms : List MessageView) → ms ≡ [] → OwesAside x ms
none_owed x [] is = record { aside = tt; says = tt }
none_owed x (m ∷ ms) is = absurd cc

first_aside : (ms : List MessageView) → AreAside ms → ClaimsNothing (first_said ms)
first_aside [] none = tt
first_aside (m ∷ ms) none = none.0

later_aside : (ms : List MessageView) → AreAside ms → AreAside (drop 1 ms)
later_aside [] none = tt
later_aside (m ∷ ms) none = none.1

reports_aside : (ns : List Notice) → ClaimsNothing (map Reported ns)
reports_aside [] = tt
reports_aside (n ∷ ns) = (refl, reports_aside ns)

ended_aside : {S : Type 0} (x : ExecutorView S) (end : TurnEnd) → OwesAside x (ended_by end ∷ [])
ended_aside x end = record { aside = ((refl, tt), tt); says = (tt, tt) }

news_aside : {S : Type 0} (x : ExecutorView S) (before end : TurnEnd) → OwesAside x (news_of before end)
news_aside x before turn_end.Done = none_owed x [] refl
news_aside x before turn_end.Disk = none_owed x [] refl
news_aside x turn_end.Full turn_end.Full = none_owed x [] refl
news_aside x turn_end.BookFull turn_end.BookFull = none_owed x [] refl
news_aside x turn_end.Closed turn_end.Closed = none_owed x [] refl
news_aside x turn_end.RunsSpent turn_end.RunsSpent = none_owed x [] refl
news_aside x turn_end.Memory turn_end.Memory = none_owed x [] refl
news_aside x before end = ended_aside x end

-- where it goes on, it owes no message, or that a disk fault ended it
at_next : {S : Type 0} (x : ExecutorView S) (next : Then) → OwesAside x (owed (at_then next))
at_next x ReadsOn = none_owed x [] refl
at_next x (Rests pause drain) = none_owed x [] refl
at_next x (Ends end) = none_owed x [] refl

either_aside : {S : Type 0} (x : ExecutorView S) (b : Bool) (p q : At) → OwesAside x (owed p) → OwesAside x (owed q) → OwesAside x (owed (cond b p q))
either_aside x true p q one two = one
either_aside x false p q one two = two

reads_aside : {S : Type 0} (x : ExecutorView S) (s : SessionState S) → OwesAside x (owed (reading s))
reads_aside x s =
    either_aside x (is_serve s.rules.mode && not s.executor.is_open) (Sending (ended_by turn_end.Disk ∷ []) (Ends Closed)) _
    (ended_aside x turn_end.Disk)
    (either_aside x (s.ended && is_empty s.lines) (Over Finished) Reading (none_owed x [] refl) (none_owed x [] refl))

settled_aside : {S : Type 0} (x : ExecutorView S) (s : SessionState S) (next : At) → OwesAside x (owed next) → OwesAside x (owed (settled_at s next))
settled_aside x s Reading owes = reads_aside x s
settled_aside x s (Sending ms next) owes = owes
settled_aside x s (Resting pause drain) owes = owes
settled_aside x s (Draining d) owes = owes
settled_aside x s (Over end) owes = owes

-- after a message that was due
sent_none : (at : At) (what : MessageView) → owed at ≡ [] → owed (sent_at at what) ≡ []
sent_none Reading (message.Reply answer.Left) none = refl
sent_none Reading what none = refl
sent_none (Resting pause drain) (message.Reply answer.Left) none = refl
sent_none (Resting pause drain) what none = refl
sent_none (Draining d) (message.Reply answer.Left) none = refl
sent_none (Draining d) what none = refl
sent_none (Over end) (message.Reply answer.Left) none = refl
sent_none (Over end) what none = refl
sent_none (Sending [] next) (message.Reply answer.Left) none = refl
sent_none (Sending [] next) what none = refl
sent_none (Sending (m ∷ ms) next) what none = absurd cc

sent_aside : {S : Type 0} (x : ExecutorView S) (at : At) (what : MessageView) → AreAside (drop 1 (owed at)) → AllByRecursion (IsOfView x) (owed at)
    → OwesAside x (owed (sent_at at what))
sent_aside x (Sending (m ∷ []) next) what aside says = at_next x next
sent_aside x (Sending (m ∷ other ∷ ms) next) what aside says = record { aside = aside; says = says.1 }
sent_aside x (Sending [] next) what aside says = none_owed x _ (sent_none (Sending [] next) what refl)
sent_aside x Reading what aside says = none_owed x _ (sent_none Reading what refl)
sent_aside x (Resting pause drain) what aside says = none_owed x _ (sent_none (Resting pause drain) what refl)
sent_aside x (Draining d) what aside says = none_owed x _ (sent_none (Draining d) what refl)
sent_aside x (Over end) what aside says = none_owed x _ (sent_none (Over end) what refl)

asked_none : (at : At) (still_reads : Bool) → MayAskReader at → owed (asked_at at still_reads) ≡ []
asked_none Reading true may = refl
asked_none Reading false may = refl
asked_none (Resting pause None) true may = refl
asked_none (Resting pause (Some d)) true may = refl
asked_none (Resting pause drain) false may = refl
asked_none (Draining d) still_reads may = absurd may
asked_none (Over end) still_reads may = absurd may
asked_none (Sending ms next) still_reads may = absurd may

reader_silent : (at : At) → MayAskReader at → owed at ≡ []
reader_silent Reading may = refl
reader_silent (Resting pause drain) may = refl
reader_silent (Draining d) may = absurd may
reader_silent (Over end) may = absurd may
reader_silent (Sending ms next) may = absurd may

module _ {S : Type 0} (view : S → StoreView) where
  -- a step: the executor goes on by calls, and what is then owed may be said
  record Steps (p q : SessionState S) : Type 0 where
    goes : GoesByCalls view p q
    aside : AreAside (drop 1 (owed q.at))
    says : AllByRecursion (IsOfView q.executor) (owed q.at)

  sound_after : (p q : SessionState S) → IsSound view p → Steps p q → IsSound view q
  sound_after p q sound steps = record {
    holds = subst (λ (o : ExecutorView S). IsBacked view o q.executor (said q)) (sym steps.goes.opened)
        (subst (λ (ss : List SentItem). IsBacked view p.client.opened q.executor ss) (sym steps.goes.more)
        (both_hold view p.client.opened p.executor q.executor (said p) steps.goes.items sound.holds steps.goes.holds));
    aside = steps.aside;
    says = steps.says;
  }

  -- nothing that was said or is owed changes
  same_steps : (p q : SessionState S) → IsSound view p → q.executor ≡ p.executor → q.client.opened ≡ p.client.opened
      → q.client.reported ≡ p.client.reported → q.at ≡ p.at → Steps p q
  same_steps p q sound same opened reported at = record {
    goes = record {
      items = [];
      opened = opened;
      more = ap (λ (ss : List SentItem). ss ++ first_said (owed q.at)) reported
          ∙ ap (λ (next : At). p.client.reported ++ first_said (owed next)) at ∙ sym (append-nil (said p));
      holds = none_holds view p.executor q.executor [] same nothing;
    };
    aside = subst (λ (next : At). AreAside (drop 1 (owed next))) (sym at) sound.aside;
    says = subst (λ (x : ExecutorView S). AllByRecursion (IsOfView x) (owed q.at)) (sym same)
        (subst (λ (next : At). AllByRecursion (IsOfView p.executor) (owed next)) (sym at) sound.says);
  }

  -- what was said before, where nothing is owed
  silent : (p : SessionState S) → owed p.at ≡ [] → said p ≡ p.client.reported
  silent p none = ap (λ (ms : List MessageView). p.client.reported ++ first_said ms) none ∙ append-nil p.client.reported

  -- what is then owed claims nothing
  aside_steps : (p q : SessionState S) (more : List SentItem) → q.client.opened ≡ p.client.opened → q.client.reported ≡ said p ++ more
      → IsBacked view p.executor q.executor more → OwesAside q.executor (owed q.at) → Steps p q
  aside_steps p q more opened reported holds owes = record {
    goes = record {
      items = more ++ first_said (owed q.at);
      opened = opened;
      more = ap (λ (ss : List SentItem). ss ++ first_said (owed q.at)) reported ∙ append_assoc (said p) more (first_said (owed q.at));
      holds = aside_holds view p.executor q.executor more (first_said (owed q.at)) (first_aside (owed q.at) owes.aside) holds;
    };
    aside = later_aside (owed q.at) owes.aside;
    says = owes.says;
  }

  -- the same after nothing was sent
  quiet_steps : (p q : SessionState S) → owed p.at ≡ [] → q.client.opened ≡ p.client.opened → q.client.reported ≡ p.client.reported
      → IsBacked view p.executor q.executor [] → OwesAside q.executor (owed q.at) → Steps p q
  quiet_steps p q none opened reported holds owes =
      aside_steps p q [] opened (reported ∙ sym (silent p none) ∙ sym (append-nil (said p))) holds owes

  stays_steps : (p q : SessionState S) → owed p.at ≡ [] → q.client.opened ≡ p.client.opened → q.client.reported ≡ p.client.reported
      → q.executor ≡ p.executor → OwesAside q.executor (owed q.at) → Steps p q
  stays_steps p q none opened reported same owes =
      quiet_steps p q none opened reported (none_holds view p.executor q.executor [] same nothing) owes

  -- a call of the executor, whose answer is sent next
  call_steps : (p q : SessionState S) → owed p.at ≡ [] → q.client.opened ≡ p.client.opened → q.client.reported ≡ p.client.reported
      → IsBacked view p.executor q.executor (first_said (owed q.at)) → AreAside (drop 1 (owed q.at)) → AllByRecursion (IsOfView q.executor) (owed q.at)
      → Steps p q
  call_steps p q none opened reported holds aside says = record {
    goes = record {
      items = first_said (owed q.at);
      opened = opened;
      more = ap (λ (ss : List SentItem). ss ++ first_said (owed q.at)) (reported ∙ sym (silent p none));
      holds = holds;
    };
    aside = aside;
    says = says;
  }

  -- a line's end, and the input's
  line_steps : (s t : SessionState S) (bytes : List ℕ) → IsSound view s → t.executor ≡ s.executor → t.client ≡ s.client → t.at ≡ s.at
      → Steps s (with_line_read t bytes)
  line_steps s t [] sound same client at =
      same_steps s (with_line_read t []) sound same (ap (λ (c : ClientView S). c.opened) client) (ap (λ (c : ClientView S). c.reported) client) at
  line_steps s t (byte ∷ bytes) sound same client at =
      same_steps s (with_line_read t (byte ∷ bytes)) sound same (ap (λ (c : ClientView S). c.opened) client)
      (ap (λ (c : ClientView S). c.reported) client) at

  end_steps : (s t : SessionState S) (bytes : List ℕ) → IsSound view s → owed s.at ≡ [] → t.executor ≡ s.executor → t.client ≡ s.client → t.at ≡ s.at
      → Steps s (with_end_read t bytes)
  end_steps s t [] sound none same client at =
      stays_steps s (with_end_read t []) none (ap (λ (c : ClientView S). c.opened) client) (ap (λ (c : ClientView S). c.reported) client) same
      (settled_aside t.executor (record t { part = []; ended = true }) Reading (none_owed t.executor [] refl))
  end_steps s t (byte ∷ bytes) sound none same client at =
      same_steps s (with_end_read t (byte ∷ bytes)) sound same (ap (λ (c : ClientView S). c.opened) client)
      (ap (λ (c : ClientView S). c.reported) client) at

  took_steps : (s t : SessionState S) (bytes : List ℕ) (found : Piece) → IsSound view s → owed s.at ≡ [] → t.executor ≡ s.executor → t.client ≡ s.client
      → t.at ≡ s.at → Steps s (took t bytes found)
  took_steps s t bytes piece.Part sound none same client at =
      same_steps s (took t bytes piece.Part) sound same (ap (λ (c : ClientView S). c.opened) client) (ap (λ (c : ClientView S). c.reported) client) at
  took_steps s t bytes piece.Last sound none same client at = line_steps s t (t.part ++ bytes) sound same client at
  took_steps s t bytes piece.Nothing sound none same client at = end_steps s t (t.part ++ bytes) sound none same client at

  -- a pause
  rested_none : (s : SessionState S) (at : At) (micros : ℕ) → MayRest s at micros → (owed at ≡ []) × (owed (rested_at at) ≡ [])
  rested_none s Reading micros may = (refl, refl)
  rested_none s (Resting pause drain) micros may = (refl, refl)
  rested_none s (Draining d) micros may = absurd may
  rested_none s (Over end) micros may = absurd may
  rested_none s (Sending ms next) micros may = absurd may

  turn_silent : (s : SessionState S) (at : At) (now : ℕ) → IsTurnDue s at now → owed at ≡ []
  turn_silent s Reading now due = refl
  turn_silent s (Draining d) now due = refl
  turn_silent s (Resting pause drain) now due = absurd due
  turn_silent s (Over end) now due = absurd due
  turn_silent s (Sending ms next) now due = absurd due

  -- a reply for which the executor is not called
  record SaysPlain (s : SessionState S) (what : MessageView) : Type 0 where
    none : ClaimsNothing (sent_in what)
    says : IsOfView s.executor what

  due_plain : (s : SessionState S) (what : MessageView) (at : At) → owed at ≡ [] → IsDue s at what → SaysPlain s what
  due_plain s what Reading none (reply, is, (found, only, given)) =
      let (claims_none, says) = reply_plain s.rules.mode s.executor found reply given in
      subst (λ (m : MessageView). SaysPlain s m) (sym is) (record { none = (claims_none, tt); says = says })
  due_plain s what (Draining d) none (now, end, shown, ends, is) =
      subst (λ (m : MessageView). SaysPlain s m) (sym is) (record { none = (refl, tt); says = tt })
  due_plain s what (Resting pause drain) none due = absurd due
  due_plain s what (Over end) none due = absurd due
  due_plain s what (Sending [] next) none due = absurd due
  due_plain s what (Sending (m ∷ ms) next) none due = absurd cc

  -- what is sent is what was said, and maybe a reply more
  record SendsMore (s : SessionState S) (what : MessageView) : Type 0 where
    more : List SentItem
    is : s.client.reported ++ sent_in what ≡ said s ++ more
    none : ClaimsNothing more
    says : IsOfView s.executor what

  sends_more : (s : SessionState S) (what : MessageView) (at : At) → s.at ≡ at → IsSound view s → IsDue s at what → SendsMore s what
  sends_more s what (Sending (m ∷ ms) next) at sound due = record {
    more = [];
    is = ap (λ (w : MessageView). s.client.reported ++ sent_in w) due
        ∙ sym (ap (λ (a : At). s.client.reported ++ first_said (owed a)) at) ∙ sym (append-nil (said s));
    none = tt;
    says = subst (λ (w : MessageView). IsOfView s.executor w) (sym due)
        (subst (λ (a : At). AllByRecursion (IsOfView s.executor) (owed a)) at sound.says).0;
  }
  sends_more s what (Sending [] next) at sound due = absurd due
  sends_more s what (Resting pause drain) at sound due = absurd due
  sends_more s what (Over end) at sound due = absurd due
  sends_more s what Reading at sound due =
      let plain = due_plain s what Reading refl due in record {
        more = sent_in what;
        is = ap (λ (ss : List SentItem). ss ++ sent_in what) (sym (silent s (ap owed at)));
        none = plain.none;
        says = plain.says;
      }
  sends_more s what (Draining d) at sound due =
      let plain = due_plain s what (Draining d) refl due in record {
        more = sent_in what;
        is = ap (λ (ss : List SentItem). ss ++ sent_in what) (sym (silent s (ap owed at)));
        none = plain.none;
        says = plain.says;
      }

  -- a message that is due may be sent
  pub due_sound : {s : SessionState S} {what : MessageView} → IsSound view s → IsDue s s.at what → MaySend view s.client s.executor what
  due_sound {s} {what} sound due =
      let sends = sends_more s what s.at refl sound due in record {
        holds = subst (λ (ss : List SentItem). IsBacked view s.client.opened s.executor ss) (sym sends.is)
            (aside_holds view s.client.opened s.executor (said s) sends.more sends.none sound.holds);
        says = sends.says;
      }

  -- after a message, or a part of it
  sent_steps : (s q : SessionState S) (what : MessageView) → IsSound view s → IsDue s s.at what → q.executor ≡ s.executor
      → IsSent s.client q.client (sent_in what) → OwesAside q.executor (owed q.at) → Steps s q
  sent_steps s q what sound due same is owes =
      let sends = sends_more s what s.at refl sound due in
      aside_steps s q sends.more is.0 (is.1 ∙ sends.is)
      (none_holds view s.executor q.executor sends.more same (claims_backed sends.more sends.none)) owes

  received : (all : Bool) (s : SessionState S) (client : ClientView S) (what : MessageView) → ReceivesAs all s.rules.form s.client client what
      → IsSent s.client client (sent_in what)
  received true s client what receives = receives.reported
  received false s client what receives = receives.reported

  -- a turn, and a disk fault before it
  turned_steps : (s : SessionState S) (drain : Option Drain) (now : ℕ) (end : TurnEnd) (x : ExecutorView S) → owed s.at ≡ []
      → IsBacked view s.executor x (first_said (notices_of x ∷ [])) → Steps s (turned s drain now end x)
  turned_steps s (Some d) now end x none holds = call_steps s (turned s (Some d) now end x) none refl refl holds tt (tt, tt)
  turned_steps s None now end x none holds =
      let news = news_aside x s.own.end end in
      call_steps s (turned s None now end x) none refl refl holds news.aside (tt, news.says)

  faulted_steps : (s : SessionState S) (drain : Option Drain) (now : ℕ) (x : ExecutorView S) → owed s.at ≡ [] → IsBacked view s.executor x []
      → Steps s (faulted s drain now x)
  faulted_steps s (Some d) now x none holds = quiet_steps s (faulted s (Some d) now x) none refl refl holds (none_owed x [] refl)
  faulted_steps s None now x none holds =
      quiet_steps s (faulted s None now x) none refl refl holds (settled_aside x (record s { executor = x; shown = None }) Reading (none_owed x [] refl))

  -- each event
  step : (s : SessionState S) (e : Event S) → IsSound view s → May view s e → Steps s (after s e)
  step s (event.Polled millis ready) sound may = same_steps s (after s (event.Polled millis ready)) sound refl refl refl refl
  step s (event.Peeked has_line) sound may = same_steps s (after s (event.Peeked has_line)) sound refl refl refl refl
  step s (event.Took bytes found) sound (listens, may) = took_steps s _ bytes found sound (ap owed listens.at) refl refl refl
  step s event.ReadFailed sound (listens, may) =
      stays_steps s (after s event.ReadFailed) (ap owed listens.at) refl refl refl (none_owed s.executor [] refl)
  step s (event.Noted found tag) sound may = same_steps s (after s (event.Noted found tag)) sound refl refl refl refl
  step s (event.GaveMetadata provider agent limit None) sound may =
      same_steps s (after s (event.GaveMetadata provider agent limit None)) sound refl refl refl refl
  step s (event.GaveMetadata provider agent limit (Some given)) sound may =
      call_steps s (after s (event.GaveMetadata provider agent limit (Some given))) (ap owed may.at) refl refl
      (none_holds view s.executor s.executor (Answered (answer.Meta given) ∷ []) refl (claims_backed _ (refl, tt))) tt (tt, tt)
  step s (event.Shown now) sound may = same_steps s (after s (event.Shown now)) sound refl refl refl refl
  step s (event.Rested micros) sound may =
      let (none, after_none) = rested_none s s.at micros may in
      stays_steps s (after s (event.Rested micros)) none refl refl refl (none_owed s.executor _ after_none)
  step s (event.Sent what true client) sound (due, receives) =
      sent_steps s (after s (event.Sent what true client)) what sound due refl (received true s client what receives)
      (settled_aside s.executor (record s { client = client; lines = unanswered what s.lines; shown = None; own = woken_by what s.own })
      (sent_at s.at what) (sent_aside s.executor s.at what sound.aside sound.says))
  step s (event.Sent what false client) sound (due, receives) =
      sent_steps s (after s (event.Sent what false client)) what sound due refl (received false s client what receives)
      (none_owed s.executor [] refl)
  step s (event.HasReader still_reads) sound may =
      stays_steps s (after s (event.HasReader still_reads)) (reader_silent s.at may) refl refl refl
      (none_owed s.executor _ (asked_none s.at still_reads may))
  step s (event.Served reply x) sound may =
      call_steps s (after s (event.Served reply x)) (ap owed may.at) refl refl
      (request_holds view s.rules may.now may.request s.executor x reply may.is_open may.serves) tt
      (request_says view s.rules may.now may.request s.executor x reply may.serves, tt)
  step s (event.Together replies x) sound may =
      call_steps s (after s (event.Together replies x)) (ap owed may.at) refl refl
      (together_hold view s.rules may.now (may.first ∷ may.others) s.executor x replies may.is_open may.serves) tt
      (together_says view s.rules may.now (may.first ∷ may.others) s.executor x replies may.serves, tt)
  step s (event.Tidied end x) sound may =
      call_steps s (after s (event.Tidied end x)) (ap owed may.at) refl refl
      (aside_holds view s.executor x [] (Answered (answer.Tidy end) ∷ []) (refl, tt) (tidy_holds view s.executor x end may.is_open may.tidies))
      tt (tt, tt)
  step s (event.Turned end x) sound may =
      turned_steps s (drain_now s) (time_of s.shown) end x (turn_silent s s.at may.now may.due)
      (turn_goes view s.rules may.now s.executor x end may.is_open may.turns)
  step s (event.Faulted x) sound may =
      faulted_steps s (drain_now s) (time_of s.shown) x (turn_silent s s.at may.now may.due)
      (fault_goes view s.rules may.now s.executor x may.is_open may.fails)
  step s (event.Finishes end x) sound may =
      call_steps s (after s (event.Finishes end x)) (ap owed may.at) refl refl
      (finish_goes view may.now s.executor x end may.is_open may.takes) tt (tt, tt)

  -- the state in which a session begins
  begun_aside : (mode : Mode) (x : ExecutorView S) → OwesAside x (readied mode x)
  begun_aside Run x = none_owed x [] refl
  begun_aside Serve x = record { aside = ((refl, tt), tt); says = ((refl, refl, refl, refl), tt) }

  first_sound : (first : SessionState S) → IsFirst first → IsSound view first
  first_sound first is = subst (λ (s : SessionState S). IsSound view s) (sym is.is) (record {
    holds = subst (λ (o : ExecutorView S). IsBacked view o is.executor (said begins_so)) (sym is.new.opened)
        (none_holds view is.executor is.executor (said begins_so) refl
        (subst (λ (ss : List SentItem). BackedBy (ss ++ first_said (owed begins_so.at)) []) (sym is.new.reported)
        (claims_backed _ (reports_aside is.executor.opening_report.interrupted))));
    aside = (reports_aside is.executor.opening_report.dropped, (begun_aside is.rules.mode is.executor).aside);
    says = (inl refl, (inr refl, (begun_aside is.rules.mode is.executor).says));
  })
    where
      begins_so : SessionState S
      begins_so = begun is.rules is.start is.executor is.client

  -- one step of a sound session
  pub step_sound : (s : SessionState S) (e : Event S) → IsSound view s → May view s e → IsSound view (after s e)
  step_sound s e sound may = sound_after s (after s e) sound (step s e sound may)

  -- from a sound state on
  pub sound_from : {p : SessionState S} {events : List (Event S)} {q : SessionState S} → IsSound view p → Behaves view p events q → IsSound view q
  sound_from sound begins = sound
  sound_from sound (goes_on events s e behaves may) = step_sound s e (sound_from sound behaves) may

  -- each state of a session is sound
  pub sound : {first : SessionState S} {events : List (Event S)} {s : SessionState S} → IsFirst first → Behaves view first events s → IsSound view s
  sound {first} is behaves = sound_from (first_sound first is) behaves

  -- no call, and calls after others
  here_goes : (p : SessionState S) → GoesByCalls view p p
  here_goes p = record { items = []; opened = refl; more = sym (append-nil (said p)); holds = none_holds view p.executor p.executor [] refl nothing }

  both_go : (p m q : SessionState S) → GoesByCalls view p m → GoesByCalls view m q → GoesByCalls view p q
  both_go p m q one two = record {
    items = one.items ++ two.items;
    opened = two.opened ∙ one.opened;
    more = two.more ∙ ap (λ (ss : List SentItem). ss ++ two.items) one.more ∙ append_assoc (said p) one.items two.items;
    holds = both_hold view p.executor m.executor q.executor one.items two.items one.holds two.holds;
  }

  -- from any state of a session to any later one its executor goes on by calls
  pub calls_from : {p : SessionState S} {events : List (Event S)} {q : SessionState S} → IsSound view p → Behaves view p events q → GoesByCalls view p q
  calls_from {p} keeps begins = here_goes p
  calls_from {p} keeps (goes_on events s e behaves may) =
      both_go p s (after s e) (calls_from keeps behaves) (step s e (sound_from keeps behaves) may).goes
