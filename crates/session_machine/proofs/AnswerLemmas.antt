-- A message that answers lines answers lines that are there.
use Rattle.std.proofs.Common.{◌≡◌, ◌≤◌, ℕ, zero, suc, ◌+◌, ◌&&◌, Bool, true, false, not, cond, List, [], ◌∷◌, ◌++◌, drop, length, map, Option, Some, None, Result, refl, sym, ap, subst, ◌∙◌, arith, length-append}
use Rattle.std.specs.List.{flat_map}
use Rattle.std.proofs.lemmas.List.{length-map, length-replicate}
use Rattle.ocf_types.specs.Kinds.{Command, Event as Recorded}
use Rattle.ocf_model.specs.Answer.{Reply}
use Rattle.ocf_model.specs.State.{State, after_all}
use Rattle.ocf_model.specs.declared.refusal.Refusal.{Refusal}
use Rattle.ocf_model.specs.declared.refusal.Refusal.TheVariants.{Disk}
use Rattle.ocf_model.specs.declared.reply.ReplyOf.TheVariants as reply
use Rattle.ocf_model.specs.declared.reply.TurnEnd.{TurnEnd}
use Rattle.ocf_model.specs.declared.reply.TurnEnd.TheVariants as turn_end
use Rattle.store_model.specs.StoreView.{StoreView}
use Rattle.exec_ledger.specs.CommitGroups.{Batch, CommitGroup, Single, TakesGroups, commands_of, replies_of}
use Rattle.exec_ledger.specs.LedgerView.{LedgerView}
use Rattle.exec_ledger.specs.Together.{Answered, batch_replies, disk_each, failed}
use Rattle.executor.specs.CommandBatches.{TakesCommands}
use Rattle.executor.specs.ExecutorView.{ExecutorView}
use Rattle.exec_commands.specs.declared.line.Line.{Line}
use Rattle.exec_replies.specs.declared.reply.LineReply.TheVariants as answer
use Rattle.exec_lines.specs.declared.line.Piece.{Piece}
use Rattle.exec_lines.specs.declared.line.Piece.TheVariants.{Last, Nothing, Part}
use Rattle.exec_client.specs.MessageView as message
use Rattle.exec_client.specs.MessageView.{MessageView}
use Rattle.session_machine.specs.After.{after, after_read, asked_at, drain_now, drain_of, faulted, is_empty, is_serve, news_of, reading, rested_at, sent_at, settled_at, time_of, took, turned, unanswered, with_end_read, with_line_read, woken_by}
use Rattle.session_machine.specs.Behaviours.{Behaves, May, begins, goes_on}
use Rattle.session_machine.specs.Events as event
use Rattle.session_machine.specs.Events.{Event}
use Rattle.session_machine.specs.First.{IsFirst}
use Rattle.session_machine.specs.LineTags.{all_answered_in, answered_in}
use Rattle.session_machine.specs.May.{IsDue}
use Rattle.session_machine.specs.Room.{ServesTogether}
use Rattle.session_machine.specs.Session.{At, Drain, Lines, ReadLine, SessionState, Then, Closed, Draining, Ends, Finished, Over, Reading, ReadsOn, Resting, Rests, Sending, at_then, ended_by, lines_in, of_command, readied}
use Rattle.session_machine.specs.declared.rules.Mode.{Mode}
use Rattle.session_machine.specs.declared.rules.Mode.TheVariants.{Run, Serve}
use Rattle.session_machine.specs.declared.rules.Rules.{Rules}

-- as many replies as commands
disk_length : (rs : List Reply) → length (disk_each rs) ≡ length rs
disk_length rs = length-map rs (λ _. reply.Refused Disk)

failed_length : (rs : List Reply) → length (failed rs) ≡ length rs
failed_length [] = refl
failed_length (reply.Refused why ∷ rs) = ap suc (failed_length rs)
failed_length (reply.Done ∷ rs) = ap suc (disk_length rs)
failed_length (reply.Accepted call key ∷ rs) = ap suc (disk_length rs)
failed_length (reply.List ids ∷ rs) = ap suc (disk_length rs)
failed_length (reply.Info info ∷ rs) = ap suc (disk_length rs)
failed_length (reply.History results ∷ rs) = ap suc (disk_length rs)
failed_length (reply.Turn end ∷ rs) = ap suc (disk_length rs)

batch_length : (is_open : Bool) (rs : List Reply) → length (batch_replies is_open rs) ≡ length rs
batch_length true rs = refl
batch_length false rs = failed_length rs

answered_length : (now : ℕ) (s : State) (cs : List Command) (rs : List Reply) (es : List Recorded) → Answered now s cs rs es → length rs ≡ length cs
answered_length now s [] [] es is = refl
answered_length now s (c ∷ cs) (r ∷ rs) es (first, later, adds, answered, is) = ap suc (answered_length now (after_all s first) cs rs later answered)
answered_length now s [] (r ∷ rs) es is = absurd is
answered_length now s (c ∷ cs) [] es is = absurd is

groups_length : {S : Type 0} (view : S → StoreView) (now : ℕ) (gs : List CommitGroup) (x y : LedgerView S) → TakesGroups view now gs x y
    → length (flat_map replies_of gs) ≡ length (flat_map commands_of gs)
groups_length view now [] x y takes = refl
groups_length view now (Single c r ∷ gs) x y (mid, take, takes) = ap suc (groups_length view now gs mid y takes)
groups_length view now (Batch cs rs ∷ gs) x y (mid, take, takes) =
    let one : length rs ≡ length cs = ap length take.reported ∙ batch_length mid.is_open take.meant
    ∙ answered_length now x.state cs take.meant take.events take.answered
    in
    let rest = groups_length view now gs mid y takes in
    omega (arith, one, rest, length-append rs (flat_map replies_of gs), length-append cs (flat_map commands_of gs))

taken_length : {S : Type 0} (view : S → StoreView) (now : ℕ) (commands : List Command) (x y : ExecutorView S) (rs : List Reply)
    → TakesCommands view now commands x y rs → length rs ≡ length commands
taken_length view now commands x y rs (takes, only) =
    sym (ap length takes.answered) ∙ groups_length view now takes.groups _ _ takes.takes ∙ ap length takes.asked

pub together_length : {S : Type 0} (view : S → StoreView) (rules : Rules) (now : ℕ) (commands : List Command) (x y : ExecutorView S) (rs : List Reply)
    → ServesTogether view rules now commands x y rs → length rs ≡ length commands
together_length view rules now commands x y rs serves = by serves.middle.is_open refl
  where
    by : (b : Bool) → serves.middle.is_open ≡ b → length rs ≡ length commands
    by true still = taken_length view now commands serves.middle y rs (serves.takes still)
    by false closed = ap length (serves.fails closed).0 ∙ length-replicate (length commands) (reply.Refused Disk)

-- the number of lines that are there to be answered by what is sent next, and by the end of a drain
abbrev then_awaits : Then → ℕ
then_awaits ReadsOn = 0
then_awaits (Ends end) = 0
then_awaits (Rests pause None) = 0
then_awaits (Rests pause (Some d)) = 1

abbrev awaits : At → ℕ
awaits Reading = 0
awaits (Over end) = 0
awaits (Draining d) = 1
awaits (Resting pause None) = 0
awaits (Resting pause (Some d)) = 1
awaits (Sending ms next) = all_answered_in ms + then_awaits next

at_then_awaits : (next : Then) → awaits (at_then next) ≡ then_awaits next
at_then_awaits ReadsOn = refl
at_then_awaits (Ends end) = refl
at_then_awaits (Rests pause None) = refl
at_then_awaits (Rests pause (Some d)) = refl

cond_awaits : (b : Bool) (p q : At) → awaits p ≡ 0 → awaits q ≡ 0 → awaits (cond b p q) ≡ 0
cond_awaits true p q one two = one
cond_awaits false p q one two = two

reading_awaits : {S : Type 0} (s : SessionState S) → awaits (reading s) ≡ 0
reading_awaits s =
    cond_awaits (is_serve s.rules.mode && not s.executor.is_open) (Sending (ended_by turn_end.Disk ∷ []) (Ends Closed)) _ refl
    (cond_awaits (s.ended && is_empty s.lines) (Over Finished) Reading refl refl)

settled_awaits : {S : Type 0} (s : SessionState S) (next : At) (n : ℕ) → awaits next ≤ n → awaits (settled_at s next) ≤ n
settled_awaits s Reading n few = let none = reading_awaits s in omega (arith, none)
settled_awaits s (Sending ms next) n few = few
settled_awaits s (Resting pause drain) n few = few
settled_awaits s (Draining d) n few = few
settled_awaits s (Over end) n few = few

news_awaits : (before end : TurnEnd) → all_answered_in (news_of before end) ≡ 0
news_awaits before turn_end.Done = refl
news_awaits before turn_end.Disk = refl
news_awaits turn_end.Full turn_end.Full = refl
news_awaits turn_end.BookFull turn_end.BookFull = refl
news_awaits turn_end.Closed turn_end.Closed = refl
news_awaits turn_end.RunsSpent turn_end.RunsSpent = refl
news_awaits turn_end.Memory turn_end.Memory = refl
news_awaits before end = refl

drop_length : {A : Type 0} (n : ℕ) (xs : List A) → length xs ≤ length (drop n xs) + n
drop_length zero xs = omega arith
drop_length (suc n) [] = omega arith
drop_length (suc n) (x ∷ xs) = let rest = drop_length n xs in omega (arith, rest)

unanswered_length : (what : MessageView) (lines : List ReadLine) → length lines ≤ length (unanswered what lines) + answered_in what
unanswered_length (message.Reply r) lines = drop_length 1 lines
unanswered_length (message.Replies rs) lines = drop_length (length rs) lines
unanswered_length (message.Turn book notices) lines = omega arith
unanswered_length (message.News r) lines = omega arith
unanswered_length (message.Report notices) lines = omega arith

-- after a message that was due
reading_sent : (what : MessageView) → awaits (sent_at Reading what) ≡ 0
reading_sent (message.Reply answer.Left) = refl
reading_sent what = refl

draining_sent : (d : Drain) (what : MessageView) → awaits (sent_at (Draining d) what) ≡ 0
draining_sent d (message.Reply answer.Left) = refl
draining_sent d what = refl

-- some line is there
one_line : (lines : List ReadLine) (first : Result Line Refusal) (rest : Lines) → map (λ l. l.line) lines ≡ first ∷ rest → 1 ≤ length lines
one_line [] first rest is = absurd cc
one_line (l ∷ ls) first rest is = omega arith

-- a drain is of a line that is there
drain_line : (at : At) (lines : List ReadLine) (now most : ℕ) (d : Drain) → drain_of at (map (λ l. l.line) lines) now most ≡ Some d
    → awaits at ≤ length lines → 1 ≤ length lines
drain_line (Draining e) lines now most d is few = few
drain_line at (l ∷ ls) now most d is few = omega arith
drain_line Reading [] now most d is few = absurd cc
drain_line (Over end) [] now most d is few = absurd cc
drain_line (Resting pause drain) [] now most d is few = absurd cc
drain_line (Sending ms next) [] now most d is few = absurd cc

finish_awaits : (is_open : Bool) (now : ℕ) → then_awaits (cond is_open (Rests (record { since = 0; now = now; made = false }) None) ReadsOn) ≡ 0
finish_awaits true now = refl
finish_awaits false now = refl

rested_awaits : (at : At) → awaits (rested_at at) ≡ awaits at
rested_awaits Reading = refl
rested_awaits (Over end) = refl
rested_awaits (Draining d) = refl
rested_awaits (Resting pause None) = refl
rested_awaits (Resting pause (Some d)) = refl
rested_awaits (Sending ms next) = refl

asked_awaits : (at : At) (still_reads : Bool) (n : ℕ) → awaits at ≤ n → awaits (asked_at at still_reads) ≤ n
asked_awaits at false n few = omega arith
asked_awaits Reading true n few = few
asked_awaits (Over end) true n few = few
asked_awaits (Draining d) true n few = few
asked_awaits (Resting pause None) true n few = few
asked_awaits (Resting pause (Some d)) true n few = few
asked_awaits (Sending ms next) true n few = few

module _ {S : Type 0} where
  -- the lines that it still has to answer are there
  abbrev Waits : SessionState S → Type 0
  Waits s = awaits s.at ≤ length s.lines

  line_waits : (s : SessionState S) (bytes : List ℕ) → Waits s → Waits (with_line_read s bytes)
  line_waits s [] few = few
  line_waits s (byte ∷ bytes) few = few

  end_waits : (s : SessionState S) (bytes : List ℕ) → Waits s → Waits (with_end_read s bytes)
  end_waits s [] few = settled_awaits (record s { part = []; ended = true }) Reading (length s.lines) (omega arith)
  end_waits s (byte ∷ bytes) few = few

  took_waits : (s : SessionState S) (bytes : List ℕ) (piece : Piece) → Waits s → Waits (took s bytes piece)
  took_waits s bytes Part few = few
  took_waits s bytes Last few = line_waits s (s.part ++ bytes) few
  took_waits s bytes Nothing few = end_waits s (s.part ++ bytes) few

  turned_waits : (s : SessionState S) (drain : Option Drain) (now : ℕ) (end : TurnEnd) (x : ExecutorView S) → drain_now s ≡ drain → Waits s
      → Waits (turned s drain now end x)
  turned_waits s None now end x is few = let none = news_awaits s.own.end end in omega (arith, none)
  turned_waits s (Some d) now end x is few = drain_line s.at s.lines (time_of s.shown) s.rules.most_turns d is few

  faulted_waits : (s : SessionState S) (drain : Option Drain) (now : ℕ) (x : ExecutorView S) → drain_now s ≡ drain → Waits s
      → Waits (faulted s drain now x)
  faulted_waits s None now x is few = settled_awaits (record s { executor = x; shown = None }) Reading (length s.lines) (omega arith)
  faulted_waits s (Some d) now x is few = drain_line s.at s.lines (time_of s.shown) s.rules.most_turns d is few

  sent_waits : (s : SessionState S) (at : At) (what : MessageView) → IsDue s at what → awaits at ≤ length s.lines
      → awaits (sent_at at what) ≤ length (unanswered what s.lines)
  sent_waits s (Sending (m ∷ []) next) what due few =
      let is = at_then_awaits next in
      let same : answered_in what ≡ answered_in m = ap answered_in due in
      let left = unanswered_length what s.lines in
      omega (arith, is, same, left, few)
  sent_waits s (Sending (m ∷ other ∷ ms) next) what due few =
      let same : answered_in what ≡ answered_in m = ap answered_in due in
      let left = unanswered_length what s.lines in
      omega (arith, same, left, few)
  sent_waits s (Sending [] next) what due few = absurd due
  sent_waits s Reading what due few = let none = reading_sent what in omega (arith, none)
  sent_waits s (Draining d) what due few = let none = draining_sent d what in omega (arith, none)
  sent_waits s (Resting pause drain) what due few = absurd due
  sent_waits s (Over end) what due few = absurd due

  waits_on : (view : S → StoreView) (s : SessionState S) (e : Event S) → May view s e → Waits s → Waits (after s e)
  waits_on view s (event.Polled millis ready) may few = few
  waits_on view s (event.Peeked has_line) may few = few
  waits_on view s (event.Took bytes piece) may few = took_waits (after_read s) bytes piece few
  waits_on view s event.ReadFailed may few = omega arith
  waits_on view s (event.Noted found tag) may few =
      let longer = length-append s.lines (record { line = found; tag = tag } ∷ []) in omega (arith, longer, few)
  waits_on view s (event.GaveMetadata provider agent limit None) may few = few
  waits_on view s (event.GaveMetadata provider agent limit (Some given)) may few = one_line s.lines _ [] may.is
  waits_on view s (event.Shown now) may few = few
  waits_on view s (event.Rested micros) may few = let same = rested_awaits s.at in omega (arith, same, few)
  waits_on view s (event.Sent what true client) (due, receives) few =
      settled_awaits (record s { client = client; lines = unanswered what s.lines; shown = None; own = woken_by what s.own }) (sent_at s.at what)
      (length (unanswered what s.lines)) (sent_waits s s.at what due few)
  waits_on view s (event.Sent what false client) may few = omega arith
  waits_on view s (event.HasReader still_reads) may few = asked_awaits s.at still_reads (length s.lines) few
  waits_on view s (event.Served r x) may few = one_line s.lines _ [] may.is
  waits_on view s (event.Together rs x) may few =
      let commands = may.first ∷ may.others in
      let same = together_length view s.rules may.now commands s.executor x rs may.serves in
      let long : length (lines_in s) ≡ length (map of_command commands ++ may.rest) = ap length may.are in
      omega (
        arith,
        same,
        long,
        length-append (map of_command commands) may.rest,
        length-map commands of_command,
        length-map s.lines (λ (l : ReadLine). l.line),
      )
  waits_on view s (event.Tidied end x) may few = one_line s.lines _ [] may.is
  waits_on view s (event.Turned end x) may few = turned_waits s (drain_now s) (time_of s.shown) end x refl few
  waits_on view s (event.Faulted x) may few = faulted_waits s (drain_now s) (time_of s.shown) x refl few
  waits_on view s (event.Finishes end x) may few = let none = finish_awaits x.is_open (time_of s.shown) in omega (arith, none)

  begun_awaits : (mode : Mode) (x : ExecutorView S) → all_answered_in (readied mode x) ≡ 0
  begun_awaits Run x = refl
  begun_awaits Serve x = refl

  first_waits : (first : SessionState S) → IsFirst first → Waits first
  first_waits first is =
      let none = begun_awaits is.rules.mode is.executor in subst (λ (s : SessionState S). Waits s) (sym is.is) (omega (arith, none))

  due_at : (s : SessionState S) (at : At) (what : MessageView) → IsDue s at what → awaits at ≤ length s.lines → answered_in what ≤ length s.lines
  due_at s (Sending (m ∷ ms) next) what due few =
      let same : answered_in what ≡ answered_in m = ap answered_in due in omega (arith, same, few)
  due_at s (Sending [] next) what due few = absurd due
  due_at s Reading what (r, is, (found, lines, given)) few =
      let same : answered_in what ≡ 1 = ap answered_in is in
      let some = one_line s.lines found [] lines in
      omega (arith, same, some)
  due_at s (Draining d) what (now, end, shown, ends, is) few = let same : answered_in what ≡ 1 = ap answered_in is in omega (arith, same, few)
  due_at s (Resting pause drain) what due few = absurd due
  due_at s (Over end) what due few = absurd due

module _ {S : Type 0} {view : S → StoreView} {first : SessionState S} (is : IsFirst first) where
  all_wait : (events : List (Event S)) (s : SessionState S) → Behaves view first events s → Waits s
  all_wait _ _ begins = first_waits first is
  all_wait _ _ (goes_on events s e way may) = waits_on view s e may (all_wait events s way)

  -- a message answers no more lines than are there
  pub answers_lines : (events : List (Event S)) (s : SessionState S) → Behaves view first events s → (what : MessageView) → IsDue s s.at what
      → answered_in what ≤ length s.lines
  answers_lines events s way what due = due_at s s.at what due (all_wait events s way)
