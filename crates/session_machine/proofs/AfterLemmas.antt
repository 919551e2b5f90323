-- How a session goes on: what an event changes and what it does not, and where a session that would read on is.
use Rattle.std.proofs.Common.{◌≡◌, ℕ, ◌+◌, Bool, true, false, not, cond, ◌&&◌, List, [], ◌∷◌, ◌++◌, length, Option, Some, None, refl, sym, ap, subst, ◌∙◌, arith, append_assoc, length-append}
use Rattle.std.proofs.lemmas.List.{append-nil}
use Rattle.ocf_model.specs.declared.reply.TurnEnd.{TurnEnd}
use Rattle.ocf_model.specs.declared.reply.TurnEnd.TheVariants.{Disk}
use Rattle.store_model.specs.StoreView.{StoreView}
use Rattle.executor.specs.ExecutorView.{ExecutorView}
use Rattle.exec_lines.specs.declared.line.Piece.{Piece}
use Rattle.exec_lines.specs.declared.line.Piece.TheVariants.{Last, Nothing, Part}
use Rattle.session_machine.specs.After.{after, after_read, drain_now, faulted, is_empty, is_serve, reading, time_of, took, turned, with_end_read, with_line_read}
use Rattle.session_machine.specs.Behaviours.{Behaves, IsBehaviour, May, Trace, begins, goes_on, then}
use Rattle.session_machine.specs.Events as event
use Rattle.session_machine.specs.Events.{Event}
use Rattle.session_machine.specs.Session.{At, Drain, SessionState, Closed, Ends, Finished, Over, Reading, Sending, ended_by}
use Rattle.session_machine.specs.declared.rules.Mode.TheVariants.{Run, Serve}

-- one more event
pub then_longer : {S : Type 0} (t : Trace S) (e : Event S) → length (then t e).events ≡ length t.events + 1
then_longer t e = omega (arith, length-append t.events (e ∷ []))

pub then_behaves : {S : Type 0} (view : S → StoreView) (t : Trace S) (e : Event S) → IsBehaviour view t → May view t.state e → IsBehaviour view (then t e)
then_behaves view t e behaves may = goes_on t.events t.state e behaves may

-- a behaviour, and then one that begins where it is
pub both_behave : {S : Type 0} {view : S → StoreView} {p : SessionState S} {es : List (Event S)} {m : SessionState S} {fs : List (Event S)}
    {q : SessionState S} → Behaves view p es m → Behaves view m fs q → Behaves view p (es ++ fs) q
both_behave {S} {view} {p} {es} {m} one begins = subst (λ (events : List (Event S)). Behaves view p events m) (sym (append-nil es)) one
both_behave {S} {view} {p} {es} {m} one (goes_on fs s e two may) =
    subst (λ (events : List (Event S)). Behaves view p events (after s e)) (append_assoc es fs (e ∷ []))
    (goes_on (es ++ fs) s e (both_behave one two) may)

-- the rules never change
line_rules : {S : Type 0} (s : SessionState S) (bytes : List ℕ) → (with_line_read s bytes).rules ≡ s.rules
line_rules s [] = refl
line_rules s (byte ∷ bytes) = refl

end_rules : {S : Type 0} (s : SessionState S) (bytes : List ℕ) → (with_end_read s bytes).rules ≡ s.rules
end_rules s [] = refl
end_rules s (byte ∷ bytes) = refl

took_rules : {S : Type 0} (s : SessionState S) (bytes : List ℕ) (piece : Piece) → (took s bytes piece).rules ≡ s.rules
took_rules s bytes Part = refl
took_rules s bytes Last = line_rules s (s.part ++ bytes)
took_rules s bytes Nothing = end_rules s (s.part ++ bytes)

turned_rules : {S : Type 0} (s : SessionState S) (drain : Option Drain) (now : ℕ) (end : TurnEnd) (x : ExecutorView S)
    → (turned s drain now end x).rules ≡ s.rules
turned_rules s None now end x = refl
turned_rules s (Some d) now end x = refl

faulted_rules : {S : Type 0} (s : SessionState S) (drain : Option Drain) (now : ℕ) (x : ExecutorView S) → (faulted s drain now x).rules ≡ s.rules
faulted_rules s None now x = refl
faulted_rules s (Some d) now x = refl

pub rules_stay : {S : Type 0} (s : SessionState S) (e : Event S) → (after s e).rules ≡ s.rules
rules_stay s (event.Polled millis ready) = refl
rules_stay s (event.Peeked has_line) = refl
rules_stay s (event.Took bytes piece) = took_rules (after_read s) bytes piece
rules_stay s event.ReadFailed = refl
rules_stay s (event.Noted found tag) = refl
rules_stay s (event.GaveMetadata provider agent limit None) = refl
rules_stay s (event.GaveMetadata provider agent limit (Some given)) = refl
rules_stay s (event.Shown now) = refl
rules_stay s (event.Rested micros) = refl
rules_stay s (event.Sent what true client) = refl
rules_stay s (event.Sent what false client) = refl
rules_stay s (event.HasReader still_reads) = refl
rules_stay s (event.Served reply x) = refl
rules_stay s (event.Together replies x) = refl
rules_stay s (event.Tidied end x) = refl
rules_stay s (event.Turned end x) = turned_rules s (drain_now s) (time_of s.shown) end x
rules_stay s (event.Faulted x) = faulted_rules s (drain_now s) (time_of s.shown) x
rules_stay s (event.Finishes end x) = refl

pub same_rules : {S : Type 0} {view : S → StoreView} {first : SessionState S} {events : List (Event S)} {s : SessionState S}
    → Behaves view first events s → s.rules ≡ first.rules
same_rules begins = refl
same_rules (goes_on events s e behaves may) = rules_stay s e ∙ same_rules behaves

-- Where a session is that would read on. Its executor is open: it reads on, unless the input has ended and each line is answered.
module _ {S : Type 0} (s : SessionState S) where
  whether : (serves is_open ended empty : Bool) → is_serve s.rules.mode ≡ serves → s.executor.is_open ≡ is_open → s.ended ≡ ended
      → is_empty s.lines ≡ empty
      → reading s ≡ cond (serves && not is_open) (Sending (ended_by Disk ∷ []) (Ends Closed)) (cond (ended && empty) (Over Finished) Reading)
  whether serves is_open ended empty a b c d =
      ap (λ (v : Bool). cond (v && not s.executor.is_open) (Sending (ended_by Disk ∷ []) (Ends Closed)) (cond (s.ended && is_empty s.lines) (Over Finished) Reading)) a
      ∙ ap (λ (v : Bool). cond (serves && not v) (Sending (ended_by Disk ∷ []) (Ends Closed)) (cond (s.ended && is_empty s.lines) (Over Finished) Reading)) b
      ∙ ap (λ (v : Bool). cond (serves && not is_open) (Sending (ended_by Disk ∷ []) (Ends Closed)) (cond (v && is_empty s.lines) (Over Finished) Reading)) c
      ∙ ap (λ (v : Bool). cond (serves && not is_open) (Sending (ended_by Disk ∷ []) (Ends Closed)) (cond (ended && v) (Over Finished) Reading)) d

  serves_or_not : (serves : Bool) (next : At) → cond (serves && not true) (Sending (ended_by Disk ∷ []) (Ends Closed)) next ≡ next
  serves_or_not true next = refl
  serves_or_not false next = refl

  pub reads_open : s.executor.is_open ≡ true → s.ended ≡ false → reading s ≡ Reading
  reads_open is_open ended =
      whether (is_serve s.rules.mode) true false (is_empty s.lines) refl is_open ended refl ∙ serves_or_not (is_serve s.rules.mode) Reading

  pub reads_waiting : s.executor.is_open ≡ true → is_empty s.lines ≡ false → reading s ≡ Reading
  reads_waiting is_open lines =
      whether (is_serve s.rules.mode) true s.ended false refl is_open refl lines
      ∙ serves_or_not (is_serve s.rules.mode) (cond (s.ended && false) (Over Finished) Reading) ∙ by s.ended
    where
      by : (b : Bool) → cond (b && false) (Over Finished) Reading ≡ Reading
      by true = refl
      by false = refl

  pub reads_finished : s.executor.is_open ≡ true → s.ended ≡ true → is_empty s.lines ≡ true → reading s ≡ Over Finished
  reads_finished is_open ended lines =
      whether (is_serve s.rules.mode) true true true refl is_open ended lines ∙ serves_or_not (is_serve s.rules.mode) (Over Finished)

  -- in `serve` a closed executor ends it, and in `run` it does not
  pub reads_closed : s.rules.mode ≡ Serve → s.executor.is_open ≡ false → reading s ≡ Sending (ended_by Disk ∷ []) (Ends Closed)
  reads_closed mode closed = whether true false s.ended (is_empty s.lines) (ap is_serve mode) closed refl refl

  pub reads_run : s.rules.mode ≡ Run → reading s ≡ cond (s.ended && is_empty s.lines) (Over Finished) Reading
  reads_run mode = whether false s.executor.is_open s.ended (is_empty s.lines) (ap is_serve mode) refl refl refl
