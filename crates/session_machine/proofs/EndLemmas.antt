-- What a session still does after the end of its input, and once a line asked for an orderly end.
use Rattle.std.proofs.Common.{◌≡◌, ℕ, Bool, true, false, not, cond, ◌&&◌, List, [], ◌∷◌, ◌++◌, drop, length, map, Option, Some, None, Ok, inl, inr, refl, sym, ap, subst, ◌∙◌}
use Rattle.std.specs.Prelude.{⊤}
use Rattle.std.proofs.lemmas.List.{drop-map}
use Rattle.ocf_types.specs.Kinds.{Command}
use Rattle.ocf_model.specs.declared.reply.TurnEnd.{TurnEnd}
use Rattle.ocf_model.specs.declared.reply.TurnEnd.TheVariants as turn_end
use Rattle.store_model.specs.StoreView.{StoreView}
use Rattle.executor.specs.ExecutorView.{ExecutorView}
use Rattle.exec_commands.specs.declared.line.Line.{Line}
use Rattle.exec_commands.specs.declared.line.Line.TheVariants as line
use Rattle.exec_replies.specs.declared.reply.LineReply.TheVariants as answer
use Rattle.exec_lines.specs.declared.line.Piece.{Piece}
use Rattle.exec_lines.specs.declared.line.Piece.TheVariants.{Last, Nothing, Part}
use Rattle.exec_client.specs.MessageView as message
use Rattle.exec_client.specs.MessageView.{MessageView}
use Rattle.session_machine.specs.After.{after, after_read, asked_at, drain_now, drain_of, faulted, is_empty, is_serve, reading, rested_at, sent_at, settled_at, time_of, took, turned, unanswered, with_end_read, with_line_read, woken_by}
use Rattle.session_machine.specs.Behaviours.{Behaves, May, begins, goes_on}
use Rattle.session_machine.specs.Events as event
use Rattle.session_machine.specs.Events.{Event}
use Rattle.session_machine.specs.First.{IsFirst}
use Rattle.session_machine.specs.Liveness.{only_answers}
use Rattle.session_machine.specs.May.{AsksDrain, IsAtRest, IsTurnDue, Listens, MayRest}
use Rattle.session_machine.specs.Session.{At, Drain, End, Lines, ReadLine, SessionState, Then, Closed, Draining, Ends, Finished, Over, Reading, ReadsOn, Resting, Rests, Sending, ended_by, lines_in, of_command}

-- only commands wait
abbrev pub AreCommands : Lines → Type 0
AreCommands lines = (commands : List Command) × (lines ≡ map of_command commands)

abbrev pub lines_of : List ReadLine → Lines
lines_of lines = map (λ l. l.line) lines

commands_dropped : (n : ℕ) (commands : List Command) (lines : List ReadLine) → lines_of lines ≡ map of_command commands
    → lines_of (drop n lines) ≡ map of_command (drop n commands)
commands_dropped n commands lines are =
    sym (drop-map (λ (l : ReadLine). l.line) n lines) ∙ ap (λ (ls : Lines). drop n ls) are ∙ drop-map of_command n commands

pub commands_left : (what : MessageView) (lines : List ReadLine) → AreCommands (lines_of lines) → AreCommands (lines_of (unanswered what lines))
commands_left (message.Reply r) lines (commands, are) = (drop 1 commands, commands_dropped 1 commands lines are)
commands_left (message.Replies rs) lines (commands, are) = (drop (length rs) commands, commands_dropped (length rs) commands lines are)
commands_left (message.Turn book notices) lines are = are
commands_left (message.News r) lines are = are
commands_left (message.Report notices) lines are = are

-- no line beside a command is among them
no_other : (other : Line) (rest : Lines) (commands : List Command) → Ok other ∷ rest ≡ map of_command commands
    → ((c : Command) → Ok other ≡ of_command c → ⊥) → ⊥
no_other other rest [] is differs = absurd cc
no_other other rest (c ∷ cs) is differs = differs c (head_same is)
  where
    head_same : Ok other ∷ rest ≡ of_command c ∷ map of_command cs → Ok other ≡ of_command c
    head_same e = cc

pub other_line : (other : Line) (rest lines : Lines) → lines ≡ Ok other ∷ rest → AreCommands lines → ((c : Command) → Ok other ≡ of_command c → ⊥) → ⊥
other_line other rest lines is (commands, are) differs = no_other other rest commands (sym is ∙ are) differs

rest_empty : (commands : List Command) → IsAtRest (map of_command commands) → map of_command commands ≡ []
rest_empty [] rests = refl
rest_empty (c ∷ cs) rests = absurd rests

no_drain : (commands : List Command) → AsksDrain (map of_command commands) → ⊥
no_drain [] asks = asks
no_drain (c ∷ cs) asks = asks

no_drain_of : (at : At) (commands : List Command) (now most : ℕ) (d : Drain) → ((e : Drain) → at ≡ Draining e → ⊥)
    → drain_of at (map of_command commands) now most ≡ Some d → ⊥
no_drain_of (Draining e) commands now most d none is = none e refl
no_drain_of Reading [] now most d none is = absurd cc
no_drain_of Reading (c ∷ cs) now most d none is = absurd cc
no_drain_of (Over end) [] now most d none is = absurd cc
no_drain_of (Over end) (c ∷ cs) now most d none is = absurd cc
no_drain_of (Resting pause drain) [] now most d none is = absurd cc
no_drain_of (Resting pause drain) (c ∷ cs) now most d none is = absurd cc
no_drain_of (Sending ms next) [] now most d none is = absurd cc
no_drain_of (Sending ms next) (c ∷ cs) now most d none is = absurd cc

none_empty : (lines : List ReadLine) → is_empty lines ≡ false → lines_of lines ≡ [] → ⊥
none_empty [] some none = absurd cc
none_empty (l ∷ ls) some none = absurd cc

no_leave : (c : Command) → Ok line.Leave ≡ of_command c → ⊥
no_leave c is = absurd cc

no_tidy : (c : Command) → Ok line.Tidy ≡ of_command c → ⊥
no_tidy c is = absurd cc

no_meta : (provider agent : List ℕ) (limit : Option ℕ) (c : Command) → Ok (line.Meta provider agent limit) ≡ of_command c → ⊥
no_meta provider agent limit c is = absurd cc

-- where a session is after the end of its input: it reads on only while a line is to be answered
abbrev IsLast : At → Bool → Type 0
IsLast Reading empty = empty ≡ false
IsLast (Sending ms ReadsOn) empty = ⊤
IsLast (Sending ms (Ends end)) empty = ⊤
IsLast (Over end) empty = ⊤
IsLast _ empty = ⊥

record HasEnded (at : At) (found : Option (List ℕ)) (lines : List ReadLine) : Type 0 where
  noted : found ≡ None
  commands : AreCommands (lines_of lines)
  last : IsLast at (is_empty lines)

cond_last : (closed empty : Bool) → IsLast (cond closed (Sending (ended_by turn_end.Disk ∷ []) (Ends Closed)) (cond empty (Over Finished) Reading)) empty
cond_last true empty = tt
cond_last false true = tt
cond_last false false = refl

reading_last : {S : Type 0} (s : SessionState S) → s.ended ≡ true → IsLast (reading s) (is_empty s.lines)
reading_last s ended =
    subst (λ (b : Bool). IsLast (cond (is_serve s.rules.mode && not s.executor.is_open) (Sending (ended_by turn_end.Disk ∷ []) (Ends Closed))
    (cond (b && is_empty s.lines) (Over Finished) Reading)) (is_empty s.lines)) (sym ended)
    (cond_last (is_serve s.rules.mode && not s.executor.is_open) (is_empty s.lines))

settled_last : {S : Type 0} (s : SessionState S) (next : At) → s.ended ≡ true → IsLast next false → IsLast (settled_at s next) (is_empty s.lines)
settled_last s Reading ended last = reading_last s ended
settled_last s (Sending ms ReadsOn) ended last = tt
settled_last s (Sending ms (Ends end)) ended last = tt
settled_last s (Sending ms (Rests pause drain)) ended last = last
settled_last s (Over end) ended last = tt
settled_last s (Resting pause drain) ended last = last
settled_last s (Draining d) ended last = last

plain_last : (what : MessageView) → IsLast (sent_at Reading what) false
plain_last (message.Reply answer.Left) = tt
plain_last what = refl

none_sent_last : (next : Then) (what : MessageView) → IsLast (sent_at (Sending [] next) what) false
none_sent_last next (message.Reply answer.Left) = tt
none_sent_last next what = refl

over_sent_last : (end : End) (what : MessageView) → IsLast (sent_at (Over end) what) false
over_sent_last end (message.Reply answer.Left) = tt
over_sent_last end what = refl

sent_last : (at : At) (what : MessageView) (empty : Bool) → IsLast at empty → IsLast (sent_at at what) false
sent_last Reading what empty last = plain_last what
sent_last (Sending [] next) what empty last = none_sent_last next what
sent_last (Sending (m ∷ []) ReadsOn) what empty last = refl
sent_last (Sending (m ∷ []) (Ends end)) what empty last = tt
sent_last (Sending (m ∷ []) (Rests pause drain)) what empty last = absurd last
sent_last (Sending (m ∷ other ∷ ms) ReadsOn) what empty last = tt
sent_last (Sending (m ∷ other ∷ ms) (Ends end)) what empty last = tt
sent_last (Sending (m ∷ other ∷ ms) (Rests pause drain)) what empty last = absurd last
sent_last (Over end) what empty last = over_sent_last end what
sent_last (Resting pause drain) what empty last = absurd last
sent_last (Draining d) what empty last = absurd last

rested_last : (at : At) (empty : Bool) → IsLast at empty → IsLast (rested_at at) empty
rested_last Reading empty last = last
rested_last (Sending ms next) empty last = last
rested_last (Over end) empty last = last
rested_last (Resting pause drain) empty last = absurd last
rested_last (Draining d) empty last = absurd last

asked_last : (at : At) (still_reads empty : Bool) → IsLast at empty → IsLast (asked_at at still_reads) empty
asked_last at false empty last = tt
asked_last Reading true empty last = last
asked_last (Sending ms next) true empty last = last
asked_last (Over end) true empty last = last
asked_last (Resting pause drain) true empty last = absurd last
asked_last (Draining d) true empty last = absurd last

none_draining : (at : At) (empty : Bool) → IsLast at empty → (d : Drain) → at ≡ Draining d → ⊥
none_draining at empty last d is = subst (λ (a : At). IsLast a empty) is last

module _ {S : Type 0} where
  abbrev EndsSo : SessionState S → Type 0
  EndsSo s = s.ended ≡ true → HasEnded s.at s.found s.lines

  not_ended : (s : SessionState S) → Listens s → (ended : Bool) → ended ≡ s.ended → ended ≡ true → ⊥
  not_ended s listens ended same is = let no = sym listens.goes_on ∙ sym same ∙ is in absurd cc

  -- a read: these are the lines, and this is what was found
  end_ends : (s t : SessionState S) (bytes : List ℕ) → Listens s → t.ended ≡ s.ended → t.found ≡ s.found → t.lines ≡ s.lines → EndsSo (with_end_read t bytes)
  end_ends s t [] listens same found lines = λ ended. record {
    noted = found ∙ listens.noted;
    commands = subst (λ (ls : List ReadLine). AreCommands (lines_of ls)) (sym lines) (listens.commands, listens.waits);
    last = reading_last (record t { part = []; ended = true }) refl;
  }
  end_ends s t (byte ∷ bytes) listens same found lines = λ ended. absurd (not_ended s listens t.ended same ended)

  line_ends : (s t : SessionState S) (bytes : List ℕ) → Listens s → t.ended ≡ s.ended → EndsSo (with_line_read t bytes)
  line_ends s t [] listens same = λ ended. absurd (not_ended s listens t.ended same ended)
  line_ends s t (byte ∷ bytes) listens same = λ ended. absurd (not_ended s listens t.ended same ended)

  took_ends : (s t : SessionState S) (bytes : List ℕ) (piece : Piece) → Listens s → t.ended ≡ s.ended → t.found ≡ s.found → t.lines ≡ s.lines
      → EndsSo (took t bytes piece)
  took_ends s t bytes Part listens same found lines = λ ended. absurd (not_ended s listens t.ended same ended)
  took_ends s t bytes Last listens same found lines = line_ends s t (t.part ++ bytes) listens same
  took_ends s t bytes Nothing listens same found lines = end_ends s t (t.part ++ bytes) listens same found lines

  no_drain_now : (s : SessionState S) (d : Drain) → drain_now s ≡ Some d → HasEnded s.at s.found s.lines → ⊥
  no_drain_now s d is has =
      no_drain_of s.at has.commands.0 (time_of s.shown) s.rules.most_turns d (none_draining s.at (is_empty s.lines) has.last)
      (subst (λ (ls : Lines). drain_of s.at ls (time_of s.shown) s.rules.most_turns ≡ Some d) has.commands.1 is)

  turned_ends : (s : SessionState S) (drain : Option Drain) (now : ℕ) (end : TurnEnd) (x : ExecutorView S) → drain_now s ≡ drain → EndsSo s
      → EndsSo (turned s drain now end x)
  turned_ends s None now end x is ends = λ ended. let has = ends ended in record { noted = has.noted; commands = has.commands; last = tt }
  turned_ends s (Some d) now end x is ends = λ ended. absurd (no_drain_now s d is (ends ended))

  faulted_ends : (s : SessionState S) (drain : Option Drain) (now : ℕ) (x : ExecutorView S) → drain_now s ≡ drain → EndsSo s → EndsSo (faulted s drain now x)
  faulted_ends s None now x is ends = λ ended. let has = ends ended in record {
    noted = has.noted;
    commands = has.commands;
    last = reading_last (record s { executor = x; shown = None }) ended;
  }
  faulted_ends s (Some d) now x is ends = λ ended. absurd (no_drain_now s d is (ends ended))

  ends_on : (view : S → StoreView) (s : SessionState S) (e : Event S) → May view s e → EndsSo s → EndsSo (after s e)
  ends_on view s (event.Polled millis ready) may ends = ends
  ends_on view s (event.Peeked has_line) may ends = ends
  ends_on view s (event.Took bytes piece) (listens, may) ends = took_ends s (after_read s) bytes piece listens refl refl refl
  ends_on view s event.ReadFailed (listens, may) ends = λ ended. absurd (not_ended s listens s.ended refl ended)
  ends_on view s (event.Noted found tag) (bytes, is, reads, tagged, cause) ends = λ ended. let none = sym (ends ended).noted ∙ is in absurd cc
  ends_on view s (event.GaveMetadata provider agent limit None) may ends = ends
  ends_on view s (event.GaveMetadata provider agent limit (Some given)) may ends =
      λ ended. let has = ends ended in record { noted = has.noted; commands = has.commands; last = tt }
  ends_on view s (event.Shown now) may ends = ends
  ends_on view s (event.Rested micros) may ends =
      λ ended. let has = ends ended in record { noted = has.noted; commands = has.commands; last = rested_last s.at (is_empty s.lines) has.last }
  ends_on view s (event.Sent what true client) may ends = λ ended. let has = ends ended in record {
    noted = has.noted;
    commands = commands_left what s.lines has.commands;
    last = settled_last (record s { client = client; lines = unanswered what s.lines; shown = None; own = woken_by what s.own }) (sent_at s.at what) ended
        (sent_last s.at what (is_empty s.lines) has.last);
  }
  ends_on view s (event.Sent what false client) may ends =
      λ ended. let has = ends ended in record { noted = has.noted; commands = has.commands; last = tt }
  ends_on view s (event.HasReader still_reads) may ends = λ ended. let has = ends ended in record {
    noted = has.noted;
    commands = has.commands;
    last = asked_last s.at still_reads (is_empty s.lines) has.last;
  }
  ends_on view s (event.Served r x) may ends = λ ended. let has = ends ended in record { noted = has.noted; commands = has.commands; last = tt }
  ends_on view s (event.Together rs x) may ends = λ ended. let has = ends ended in record { noted = has.noted; commands = has.commands; last = tt }
  ends_on view s (event.Tidied end x) may ends = λ ended. let has = ends ended in record { noted = has.noted; commands = has.commands; last = tt }
  ends_on view s (event.Turned end x) may ends = turned_ends s (drain_now s) (time_of s.shown) end x refl ends
  ends_on view s (event.Faulted x) may ends = faulted_ends s (drain_now s) (time_of s.shown) x refl ends
  ends_on view s (event.Finishes end x) may ends =
      λ ended. absurd (other_line line.Leave [] (lines_in s) may.is (ends ended).commands no_leave)

  -- at rest it has no command to answer
  no_rest : (s : SessionState S) → HasEnded Reading s.found s.lines → IsAtRest (lines_in s) → ⊥
  no_rest s has rests =
      none_empty s.lines has.last
      (has.commands.1 ∙ rest_empty has.commands.0 (subst (λ (ls : Lines). IsAtRest ls) has.commands.1 rests))

  no_pause : (s : SessionState S) (at : At) (micros : ℕ) → MayRest s at micros → HasEnded at s.found s.lines → ⊥
  no_pause s Reading micros may has = no_rest s has may.rests
  no_pause s (Resting pause drain) micros may has = has.last
  no_pause s (Sending ms next) micros may has = may
  no_pause s (Draining d) micros may has = may
  no_pause s (Over end) micros may has = may

  no_turn_due : (s : SessionState S) (at : At) (now : ℕ) → IsTurnDue s at now → HasEnded at s.found s.lines → ⊥
  no_turn_due s Reading now (inl own) has = no_rest s has own.rests
  no_turn_due s Reading now (inr asks) has = no_drain has.commands.0 (subst (λ (ls : Lines). AsksDrain ls) has.commands.1 asks)
  no_turn_due s (Draining d) now due has = has.last
  no_turn_due s (Resting pause drain) now due has = due
  no_turn_due s (Sending ms next) now due has = due
  no_turn_due s (Over end) now due has = due

  -- after the end of the input the lines that were read are answered, and nothing else is done
  only_answers_after : (view : S → StoreView) (s : SessionState S) (e : Event S) → s.ended ≡ true → HasEnded s.at s.found s.lines → May view s e
      → only_answers e ≡ true
  only_answers_after view s (event.Polled millis ready) ended has may = absurd (not_ended s may.listens s.ended refl ended)
  only_answers_after view s (event.Peeked has_line) ended has may = refl
  only_answers_after view s (event.Took bytes piece) ended has (listens, may) = absurd (not_ended s listens s.ended refl ended)
  only_answers_after view s event.ReadFailed ended has (listens, may) = absurd (not_ended s listens s.ended refl ended)
  only_answers_after view s (event.Noted found tag) ended has (bytes, is, reads, tagged, cause) = let none = sym has.noted ∙ is in absurd cc
  only_answers_after view s (event.GaveMetadata provider agent limit given) ended has may =
      absurd (other_line (line.Meta provider agent limit) [] (lines_in s) may.is has.commands (no_meta provider agent limit))
  only_answers_after view s (event.Shown now) ended has may = refl
  only_answers_after view s (event.Rested micros) ended has may = absurd (no_pause s s.at micros may has)
  only_answers_after view s (event.Sent what all client) ended has may = refl
  only_answers_after view s (event.HasReader still_reads) ended has may = refl
  only_answers_after view s (event.Served r x) ended has may = refl
  only_answers_after view s (event.Together rs x) ended has may = refl
  only_answers_after view s (event.Tidied end x) ended has may = absurd (other_line line.Tidy [] (lines_in s) may.is has.commands no_tidy)
  only_answers_after view s (event.Turned end x) ended has may = absurd (no_turn_due s s.at may.now may.due has)
  only_answers_after view s (event.Faulted x) ended has may = absurd (no_turn_due s s.at may.now may.due has)
  only_answers_after view s (event.Finishes end x) ended has may = absurd (other_line line.Leave [] (lines_in s) may.is has.commands no_leave)

module _ {S : Type 0} {view : S → StoreView} {first : SessionState S} (is : IsFirst first) where
  all_end : (events : List (Event S)) (s : SessionState S) → Behaves view first events s → EndsSo s
  all_end _ _ begins = subst (λ (s : SessionState S). EndsSo s) (sym is.is) (λ ended. absurd cc)
  all_end _ _ (goes_on events s e way may) = ends_on view s e may (all_end events s way)

  pub answers_only : (events : List (Event S)) (s : SessionState S) → Behaves view first events s → s.ended ≡ true → (e : Event S) → May view s e
      → only_answers e ≡ true
  answers_only events s way ended e may = only_answers_after view s e ended (all_end events s way ended) may

  -- it reads on only while a line is to be answered
  pub ends_answered : (events : List (Event S)) (s : SessionState S) → Behaves view first events s → s.ended ≡ true → s.lines ≡ [] → s.at ≡ Reading → ⊥
  ends_answered events s way ended none at =
      let has = all_end events s way ended in
      let some : is_empty s.lines ≡ false = subst (λ (a : At). IsLast a (is_empty s.lines)) at has.last in
      let empty : is_empty s.lines ≡ true = ap is_empty none in
      let no = sym some ∙ empty in
      absurd cc
