-- What a session in `serve` still does once a line asked for an orderly end.
use Rattle.std.proofs.Common.{◌≡◌, ℕ, Bool, true, false, not, cond, ◌&&◌, List, [], ◌∷◌, ◌++◌, map, Option, Some, None, Result, Ok, inl, inr, refl, sym, ap, subst, ◌∙◌}
use Rattle.std.specs.Prelude.{⊤}
use Rattle.ocf_types.specs.Kinds.{Command}
use Rattle.ocf_model.specs.declared.refusal.Refusal.{Refusal}
use Rattle.ocf_model.specs.declared.reply.TurnEnd.{TurnEnd}
use Rattle.ocf_model.specs.declared.reply.TurnEnd.TheVariants as turn_end
use Rattle.store_model.specs.StoreView.{StoreView}
use Rattle.exec_turn.specs.Actives.{any_running}
use Rattle.executor.specs.ExecutorView.{ExecutorView}
use Rattle.exec_commands.specs.declared.line.Line.{Line}
use Rattle.exec_commands.specs.declared.line.Line.TheVariants as line
use Rattle.exec_replies.specs.declared.reply.LineReply.{LineReply}
use Rattle.exec_replies.specs.declared.reply.LineReply.TheVariants as answer
use Rattle.exec_lines.specs.declared.line.Piece.{Piece}
use Rattle.exec_lines.specs.declared.line.Piece.TheVariants.{Last, Nothing, Part}
use Rattle.exec_client.specs.MessageView as message
use Rattle.exec_client.specs.MessageView.{MessageView}
use Rattle.session_machine.specs.After.{after, after_read, asked_at, drain_now, faulted, is_empty, is_serve, notices_of, reading, rested_at, sent_at, settled_at, time_of, took, turned, unanswered, with_end_read, with_line_read, woken_by}
use Rattle.session_machine.specs.Behaviours.{Behaves, May, begins, goes_on}
use Rattle.session_machine.specs.Events as event
use Rattle.session_machine.specs.Events.{Event}
use Rattle.session_machine.specs.First.{IsFirst}
use Rattle.session_machine.specs.Liveness.{IsLeaving}
use Rattle.session_machine.specs.May.{AsksDrain, IsAtRest, IsDue, IsTurnDue, MayRest}
use Rattle.session_machine.specs.Replies.{IsClosedReply, IsOpenReply, IsPlainReply, WhileOpen}
use Rattle.session_machine.specs.Session.{At, Drain, Lines, ReadLine, SessionState, Then, Closed, Draining, Ends, Finished, Over, Reading, ReadsOn, Resting, Rests, Sending, at_then, ended_by, lines_in, of_command}
use Rattle.session_machine.specs.declared.rules.Mode.{Mode}
use Rattle.session_machine.specs.declared.rules.Mode.TheVariants.{Serve}
use Rattle.session_machine.specs.declared.rules.Rules.{Rules}
use Rattle.session_machine.proofs.AfterLemmas.{same_rules}
use Rattle.session_machine.proofs.EndLemmas.{AreCommands, commands_left, lines_of, other_line}
use Rattle.session_machine.proofs.LineLemmas.{took_keeps}

no_leave : (c : Command) → Ok line.Leave ≡ of_command c → ⊥
no_leave c is = absurd cc

same_line : (lines : Lines) (one other : Result Line Refusal) (rest : Lines) → lines ≡ one ∷ [] → lines ≡ other ∷ rest → one ≡ other
same_line lines one other rest is as_well = let both = sym is ∙ as_well in cc

no_request : (lines rest : Lines) (c : Command) (cs : List Command) → lines ≡ Ok line.Leave ∷ [] → lines ≡ map of_command (c ∷ cs) ++ rest → ⊥
no_request lines rest c cs is are = no_leave c (same_line lines (Ok line.Leave) (of_command c) (map of_command cs ++ rest) is are)

-- where the executor of a session in `serve` is open
abbrev IsOpenAt : At → Bool → Type 0
IsOpenAt Reading is_open = is_open ≡ true
IsOpenAt (Resting pause None) is_open = is_open ≡ true
IsOpenAt (Sending ms (Rests pause None)) is_open = is_open ≡ true
IsOpenAt _ is_open = ⊤

cond_open : (is_open ends : Bool) → IsOpenAt (cond (not is_open) (Sending (ended_by turn_end.Disk ∷ []) (Ends Closed)) (cond ends (Over Finished) Reading)) is_open
cond_open true true = tt
cond_open true false = refl
cond_open false ends = tt

reading_open : {S : Type 0} (s : SessionState S) → s.rules.mode ≡ Serve → IsOpenAt (reading s) s.executor.is_open
reading_open s serves =
    subst (λ (m : Mode). IsOpenAt (cond (is_serve m && not s.executor.is_open) (Sending (ended_by turn_end.Disk ∷ []) (Ends Closed))
    (cond (s.ended && is_empty s.lines) (Over Finished) Reading)) s.executor.is_open) (sym serves)
    (cond_open s.executor.is_open (s.ended && is_empty s.lines))

-- an open executor, or a session that does not read on yet
abbrev IsOpenNext : At → Bool → Type 0
IsOpenNext Reading is_open = ⊤
IsOpenNext next is_open = IsOpenAt next is_open

settled_open : {S : Type 0} (s : SessionState S) (next : At) → s.rules.mode ≡ Serve → IsOpenNext next s.executor.is_open
    → IsOpenAt (settled_at s next) s.executor.is_open
settled_open s Reading serves next = reading_open s serves
settled_open s (Sending ms ReadsOn) serves next = next
settled_open s (Sending ms (Ends end)) serves next = next
settled_open s (Sending ms (Rests pause None)) serves next = next
settled_open s (Sending ms (Rests pause (Some d))) serves next = next
settled_open s (Resting pause None) serves next = next
settled_open s (Resting pause (Some d)) serves next = next
settled_open s (Draining d) serves next = next
settled_open s (Over end) serves next = next

at_then_open : (ms : List MessageView) (next : Then) (is_open : Bool) → IsOpenAt (Sending ms next) is_open → IsOpenNext (at_then next) is_open
at_then_open ms ReadsOn is_open open_now = tt
at_then_open ms (Ends end) is_open open_now = tt
at_then_open ms (Rests pause None) is_open open_now = open_now
at_then_open ms (Rests pause (Some d)) is_open open_now = tt

more_open : (ms others : List MessageView) (next : Then) (is_open : Bool) → IsOpenAt (Sending ms next) is_open → IsOpenNext (Sending others next) is_open
more_open ms others ReadsOn is_open open_now = tt
more_open ms others (Ends end) is_open open_now = tt
more_open ms others (Rests pause None) is_open open_now = open_now
more_open ms others (Rests pause (Some d)) is_open open_now = tt

reading_sent_open : (what : MessageView) (is_open : Bool) → IsOpenNext (sent_at Reading what) is_open
reading_sent_open (message.Reply answer.Left) is_open = tt
reading_sent_open what is_open = tt

draining_sent_open : (d : Drain) (what : MessageView) (is_open : Bool) → IsOpenNext (sent_at (Draining d) what) is_open
draining_sent_open d (message.Reply answer.Left) is_open = tt
draining_sent_open d what is_open = tt

rested_open : (at : At) (is_open : Bool) → IsOpenAt at is_open → IsOpenAt (rested_at at) is_open
rested_open Reading is_open now = now
rested_open (Sending ms next) is_open now = now
rested_open (Resting pause None) is_open now = now
rested_open (Resting pause (Some d)) is_open now = now
rested_open (Draining d) is_open now = now
rested_open (Over end) is_open now = now

asked_open : (at : At) (still_reads is_open : Bool) → IsOpenAt at is_open → IsOpenAt (asked_at at still_reads) is_open
asked_open at false is_open now = tt
asked_open Reading true is_open now = now
asked_open (Sending ms next) true is_open now = now
asked_open (Resting pause None) true is_open now = now
asked_open (Resting pause (Some d)) true is_open now = tt
asked_open (Draining d) true is_open now = now
asked_open (Over end) true is_open now = now

finish_open : (ms : List MessageView) (is_open : Bool) (now : ℕ)
    → IsOpenAt (Sending ms (cond is_open (Rests (record { since = 0; now = now; made = false }) None) ReadsOn)) is_open
finish_open ms true now = refl
finish_open ms false now = tt

module _ {S : Type 0} where
  abbrev OpenSo : SessionState S → Type 0
  OpenSo s = IsOpenAt s.at s.executor.is_open

  line_open : (s : SessionState S) (bytes : List ℕ) → OpenSo s → OpenSo (with_line_read s bytes)
  line_open s [] now = now
  line_open s (byte ∷ bytes) now = now

  end_open : (s : SessionState S) (bytes : List ℕ) → s.rules.mode ≡ Serve → OpenSo s → OpenSo (with_end_read s bytes)
  end_open s [] serves now = reading_open (record s { part = []; ended = true }) serves
  end_open s (byte ∷ bytes) serves now = now

  took_open : (s : SessionState S) (bytes : List ℕ) (piece : Piece) → s.rules.mode ≡ Serve → OpenSo s → OpenSo (took s bytes piece)
  took_open s bytes Part serves now = now
  took_open s bytes Last serves now = line_open s (s.part ++ bytes) now
  took_open s bytes Nothing serves now = end_open s (s.part ++ bytes) serves now

  turned_open : (s : SessionState S) (drain : Option Drain) (now : ℕ) (end : TurnEnd) (x : ExecutorView S) → OpenSo (turned s drain now end x)
  turned_open s None now end x = tt
  turned_open s (Some d) now end x = tt

  faulted_open : (s : SessionState S) (drain : Option Drain) (now : ℕ) (x : ExecutorView S) → s.rules.mode ≡ Serve → OpenSo (faulted s drain now x)
  faulted_open s None now x serves = reading_open (record s { executor = x; shown = None }) serves
  faulted_open s (Some d) now x serves = tt

  sent_open : (s : SessionState S) (at : At) (what : MessageView) → IsDue s at what → IsOpenAt at s.executor.is_open
      → IsOpenNext (sent_at at what) s.executor.is_open
  sent_open s (Sending (m ∷ []) next) what due now = at_then_open (m ∷ []) next s.executor.is_open now
  sent_open s (Sending (m ∷ other ∷ ms) next) what due now = more_open (m ∷ other ∷ ms) (other ∷ ms) next s.executor.is_open now
  sent_open s (Sending [] next) what due now = absurd due
  sent_open s Reading what due now = reading_sent_open what s.executor.is_open
  sent_open s (Draining d) what due now = draining_sent_open d what s.executor.is_open
  sent_open s (Resting pause drain) what due now = absurd due
  sent_open s (Over end) what due now = absurd due

  open_on : (view : S → StoreView) (s : SessionState S) (e : Event S) → s.rules.mode ≡ Serve → May view s e → OpenSo s → OpenSo (after s e)
  open_on view s (event.Polled millis ready) serves may now = now
  open_on view s (event.Peeked has_line) serves may now = now
  open_on view s (event.Took bytes piece) serves may now = took_open (after_read s) bytes piece serves now
  open_on view s event.ReadFailed serves may now = tt
  open_on view s (event.Noted found tag) serves may now = now
  open_on view s (event.GaveMetadata provider agent limit None) serves may now = now
  open_on view s (event.GaveMetadata provider agent limit (Some given)) serves may now = tt
  open_on view s (event.Shown moment) serves may now = now
  open_on view s (event.Rested micros) serves may now = rested_open s.at s.executor.is_open now
  open_on view s (event.Sent what true client) serves (due, receives) now =
      settled_open (record s { client = client; lines = unanswered what s.lines; shown = None; own = woken_by what s.own }) (sent_at s.at what) serves
      (sent_open s s.at what due now)
  open_on view s (event.Sent what false client) serves may now = tt
  open_on view s (event.HasReader still_reads) serves may now = asked_open s.at still_reads s.executor.is_open now
  open_on view s (event.Served r x) serves may now = tt
  open_on view s (event.Together rs x) serves may now = tt
  open_on view s (event.Tidied end x) serves may now = tt
  open_on view s (event.Turned end x) serves may now = turned_open s (drain_now s) (time_of s.shown) end x
  open_on view s (event.Faulted x) serves may now = faulted_open s (drain_now s) (time_of s.shown) x serves
  open_on view s (event.Finishes end x) serves may now = finish_open (notices_of x ∷ []) x.is_open (time_of s.shown)

  -- while a line that was read is not noted, only commands wait
  abbrev FoundSo : SessionState S → Type 0
  FoundSo s = (bytes : List ℕ) → s.found ≡ Some bytes → AreCommands (lines_in s)

  found_on : (view : S → StoreView) (s : SessionState S) (e : Event S) → May view s e → FoundSo s → FoundSo (after s e)
  found_on view s (event.Took bytes piece) (listens, may) found = λ text is.
      subst (λ (ls : List ReadLine). AreCommands (lines_of ls)) (sym (took_keeps (after_read s) bytes piece).lines) (listens.commands, listens.waits)
  found_on view s (event.Noted line tag) may found = λ text is. absurd cc
  found_on view s (event.GaveMetadata provider agent limit None) may found = found
  found_on view s (event.GaveMetadata provider agent limit (Some given)) may found = found
  found_on view s (event.Sent what true client) may found = λ text is. commands_left what s.lines (found text is)
  found_on view s (event.Sent what false client) may found = found
  found_on view s (event.Turned end x) may found = turned_found (drain_now s) end x
    where
      turned_found : (drain : Option Drain) (end : TurnEnd) (x : ExecutorView S) → FoundSo (turned s drain (time_of s.shown) end x)
      turned_found None end x = found
      turned_found (Some d) end x = found
  found_on view s (event.Faulted x) may found = faulted_found (drain_now s) x
    where
      faulted_found : (drain : Option Drain) (x : ExecutorView S) → FoundSo (faulted s drain (time_of s.shown) x)
      faulted_found None x = found
      faulted_found (Some d) x = found
  found_on view s e may found = found

  no_rest : (s : SessionState S) → lines_in s ≡ Ok line.Leave ∷ [] → IsAtRest (lines_in s) → ⊥
  no_rest s is rests = subst (λ (ls : Lines). IsAtRest ls) is rests

  no_pause : (s : SessionState S) (micros : ℕ) → s.at ≡ Reading → lines_in s ≡ Ok line.Leave ∷ [] → MayRest s s.at micros → ⊥
  no_pause s micros at is may = no_rest s is (subst (λ (a : At). MayRest s a micros) at may).rests

  no_turn : (s : SessionState S) (now : ℕ) → lines_in s ≡ Ok line.Leave ∷ [] → IsTurnDue s Reading now → ⊥
  no_turn s now is (inl own) = no_rest s is own.rests
  no_turn s now is (inr asks) = subst (λ (ls : Lines). AsksDrain ls) is asks

  leave_reply : (x : ExecutorView S) (reply : LineReply) → x.is_open ≡ true → IsPlainReply Serve x (Ok line.Leave) reply
      → (reply ≡ answer.Left) × (any_running x.state ≡ false)
  leave_reply x reply is_open given =
      subst (λ (b : Bool). WhileOpen b (IsOpenReply Serve x (Ok line.Leave) reply) (IsClosedReply (Ok line.Leave) reply)) is_open given

  leave_due : (s : SessionState S) (what : MessageView) → s.rules.mode ≡ Serve → s.executor.is_open ≡ true → lines_in s ≡ Ok line.Leave ∷ []
      → IsDue s Reading what → (any_running s.executor.state ≡ false) × (what ≡ message.Reply answer.Left)
  leave_due s what serves is_open is (reply, sends, (found, only, given)) =
      let same : found ≡ Ok line.Leave = same_line (lines_in s) found (Ok line.Leave) [] only is in
      let (left, none) = leave_reply s.executor reply is_open
      (subst (λ (m : Mode). IsPlainReply m s.executor (Ok line.Leave) reply) serves
      (subst (λ (f : Result Line Refusal). IsPlainReply s.rules.mode s.executor f reply) same given))
      in
      (none, sends ∙ ap message.Reply left)

  leaving : (view : S → StoreView) (s : SessionState S) (e : Event S) → s.rules.mode ≡ Serve → OpenSo s → FoundSo s → s.at ≡ Reading
      → lines_in s ≡ Ok line.Leave ∷ [] → May view s e → IsLeaving s e
  leaving view s (event.Polled millis ready) serves now found at is may =
      absurd (other_line line.Leave [] (lines_in s) is (may.listens.commands, may.listens.waits) no_leave)
  leaving view s (event.Peeked has_line) serves now found at is may = tt
  leaving view s (event.Took bytes piece) serves now found at is (listens, may) =
      absurd (other_line line.Leave [] (lines_in s) is (listens.commands, listens.waits) no_leave)
  leaving view s event.ReadFailed serves now found at is (listens, may) =
      absurd (other_line line.Leave [] (lines_in s) is (listens.commands, listens.waits) no_leave)
  leaving view s (event.Noted line_read tag) serves now found at is (bytes, there, reads, tagged, cause) =
      absurd (other_line line.Leave [] (lines_in s) is (found bytes there) no_leave)
  leaving view s (event.GaveMetadata provider agent limit given) serves now found at is may =
      let same = same_line (lines_in s) (Ok line.Leave) (Ok (line.Meta provider agent limit)) [] is may.is in absurd cc
  leaving view s (event.Shown moment) serves now found at is may = tt
  leaving view s (event.Rested micros) serves now found at is may = absurd (no_pause s micros at is may)
  leaving view s (event.Sent what all client) serves now found at is (due, receives) =
      leave_due s what serves (subst (λ (a : At). IsOpenAt a s.executor.is_open) at now) is (subst (λ (a : At). IsDue s a what) at due)
  leaving view s (event.HasReader still_reads) serves now found at is may = tt
  leaving view s (event.Served r x) serves now found at is may =
      let same = same_line (lines_in s) (Ok line.Leave) (Ok (line.Request may.request)) [] is may.is in absurd cc
  leaving view s (event.Together rs x) serves now found at is may = absurd (no_request (lines_in s) may.rest may.first may.others is may.are)
  leaving view s (event.Tidied end x) serves now found at is may =
      let same = same_line (lines_in s) (Ok line.Leave) (Ok line.Tidy) [] is may.is in absurd cc
  leaving view s (event.Turned end x) serves now found at is may =
      absurd (no_turn s may.now is (subst (λ (a : At). IsTurnDue s a may.now) at may.due))
  leaving view s (event.Faulted x) serves now found at is may =
      absurd (no_turn s may.now is (subst (λ (a : At). IsTurnDue s a may.now) at may.due))
  leaving view s (event.Finishes end x) serves now found at is may = may.runs

module _ {S : Type 0} {view : S → StoreView} {first : SessionState S} (is : IsFirst first) where
  all_open : first.rules.mode ≡ Serve → (events : List (Event S)) (s : SessionState S) → Behaves view first events s → OpenSo s
  all_open serves _ _ begins = subst (λ (s : SessionState S). OpenSo s) (sym is.is) tt
  all_open serves _ _ (goes_on events s e way may) =
      open_on view s e (ap (λ (rules : Rules). rules.mode) (same_rules way) ∙ serves) may (all_open serves events s way)

  all_found : (events : List (Event S)) (s : SessionState S) → Behaves view first events s → FoundSo s
  all_found _ _ begins = subst (λ (s : SessionState S). FoundSo s) (sym is.is) (λ bytes there. absurd cc)
  all_found _ _ (goes_on events s e way may) = found_on view s e may (all_found events s way)

  -- an orderly end
  pub leaves : first.rules.mode ≡ Serve → (events : List (Event S)) (s : SessionState S) → Behaves view first events s → s.at ≡ Reading
      → lines_in s ≡ Ok line.Leave ∷ [] → (e : Event S) → May view s e → IsLeaving s e
  leaves serves events s way at asks e may =
      leaving view s e (ap (λ (rules : Rules). rules.mode) (same_rules way) ∙ serves) (all_open serves events s way) (all_found events s way) at asks may
