-- In each state of a session that began with a lawful state its executor's state is small, and its book keeps its capacity.
use Rattle.std.proofs.Common.{◌≡◌, ℕ, true, false, List, [], ◌∷◌, ◌++◌, map, length, Option, Some, None, Result, Ok, Err, refl, sym, ap, subst, arith}
use Rattle.std.specs.List.{AllByRecursion}
use Rattle.ocf_types.specs.Kinds.{Command, Request}
use Rattle.ocf_model.specs.LawfulState.{IsLawfulState}
use Rattle.ocf_types.specs.Lemmas.{each_append}
use Rattle.ocf_types.specs.declared.command.RequestOf.TheVariants as asked
use Rattle.ocf_model.specs.declared.refusal.Refusal.{Refusal}
use Rattle.ocf_model.specs.declared.reply.TurnEnd.{TurnEnd}
use Rattle.ocf_model.specs.declared.reply.TurnEnd.TheVariants as turn_end
use Rattle.child_model.specs.Children.{ChildrenView}
use Rattle.store_model.specs.StoreView.{StoreView}
use Rattle.executor.specs.ExecutorView.{ExecutorView}
use Rattle.executor.specs.OnStores.{IsOver}
use Rattle.executor.specs.TurnCalls.{with_empty_book}
use Rattle.exec_commands.specs.declared.line.Line.{Line}
use Rattle.exec_commands.specs.declared.line.Line.TheVariants as line
use Rattle.exec_lines.specs.declared.line.Piece.{Piece}
use Rattle.exec_lines.specs.declared.line.Piece.TheVariants.{Last, Nothing, Part}
use Rattle.session_machine.specs.After.{after, after_read, drain_now, faulted, time_of, took, turned, with_end_read, with_line_read}
use Rattle.session_machine.specs.Behaviours.{Behaves, May, begins, goes_on}
use Rattle.session_machine.specs.Events as event
use Rattle.session_machine.specs.Events.{Event}
use Rattle.session_machine.specs.First.{IsFirst}
use Rattle.session_machine.specs.LineTags.{IsLineRead}
use Rattle.session_machine.specs.Replies.{IsReadAs}
use Rattle.session_machine.specs.Session.{Drain, Lines, ReadLine, SessionState, lines_in, of_command}
use Rattle.session_machine.specs.declared.rules.Mode.{Mode}
use Rattle.session_machine.specs.declared.rules.Mode.TheVariants.{Run, Serve}
use Rattle.session_machine.proofs.LineLemmas.{lines_read}
use Rattle.session_laws.specs.Named.{IsNamed, IsNamedLine, IsNamedRead}
use Rattle.session_laws.specs.Numbers.{HasBook, is_book_full}
use Rattle.session_laws.specs.Small.{IsSmallState}
use Rattle.session_laws.proofs.Executors.{IsNamedRequest, Keeps, faulted_keeps, finished_keeps, room_made, same_keeps, served_keeps, then_keeps, tidied_keeps, together_keeps, turned_keeps}
use Rattle.session_laws.proofs.NamedLines.{read_named, served_as_named}
use Rattle.session_laws.proofs.SmallStates.{lawful_small}

-- lines that were read ask for commands with valid names
line_named : (mode : Mode) (bytes : List ℕ) (found : Result Line Refusal) → IsReadAs mode bytes found → IsNamedRead found
line_named Run bytes (Ok l) is = subst IsNamedRead is (read_named bytes)
line_named Run bytes (Err why) is = tt
line_named Serve bytes found is = served_as_named bytes found is

pub lines_named : (mode : Mode) (ls : List ReadLine) → AllByRecursion (IsLineRead mode) ls → AllByRecursion IsNamedRead (map (λ l. l.line) ls)
lines_named mode [] read = tt
lines_named mode (l ∷ ls) read = (line_named mode read.0.0 l.line read.0.1, lines_named mode ls read.1)

pub request_named : (r : Request) → IsNamedLine (line.Request r) → IsNamedRequest r
request_named (asked.Command c) named = named
request_named (asked.Question q) named = tt

pub commands_named : (cs : List Command) (rest : Lines) → AllByRecursion IsNamedRead (map of_command cs ++ rest) → AllByRecursion IsNamed cs
commands_named [] rest named = tt
commands_named (c ∷ cs) rest named = (named.0, commands_named cs rest named.1)

module _ {S : Type 0} (view : S → StoreView) where
  here : (x y : ExecutorView S) → y ≡ x → Keeps view x y
  here x y same =
      same_keeps view x y (record { state = ap (λ (z : ExecutorView S). z.state) same; children = ap (λ (z : ExecutorView S). z.children) same })

  -- a read, a turn and a fault
  line_keeps : (s t : SessionState S) (bytes : List ℕ) → t.executor ≡ s.executor → Keeps view s.executor (with_line_read t bytes).executor
  line_keeps s t [] same = here s.executor t.executor same
  line_keeps s t (byte ∷ bytes) same = here s.executor t.executor same

  end_keeps : (s t : SessionState S) (bytes : List ℕ) → t.executor ≡ s.executor → Keeps view s.executor (with_end_read t bytes).executor
  end_keeps s t [] same = here s.executor t.executor same
  end_keeps s t (byte ∷ bytes) same = here s.executor t.executor same

  took_keeps : (s t : SessionState S) (bytes : List ℕ) (piece : Piece) → t.executor ≡ s.executor → Keeps view s.executor (took t bytes piece).executor
  took_keeps s t bytes Part same = here s.executor t.executor same
  took_keeps s t bytes Last same = line_keeps s t (t.part ++ bytes) same
  took_keeps s t bytes Nothing same = end_keeps s t (t.part ++ bytes) same

  turned_keeps_on : (s : SessionState S) (drain : Option Drain) (now : ℕ) (end : TurnEnd) (x : ExecutorView S) → Keeps view s.executor x
      → Keeps view s.executor (turned s drain now end x).executor
  turned_keeps_on s None now end x keeps = keeps
  turned_keeps_on s (Some d) now end x keeps = keeps

  faulted_keeps_on : (s : SessionState S) (drain : Option Drain) (now : ℕ) (x : ExecutorView S) → Keeps view s.executor x
      → Keeps view s.executor (faulted s drain now x).executor
  faulted_keeps_on s None now x keeps = keeps
  faulted_keeps_on s (Some d) now x keeps = keeps

  -- each event
  step : (s : SessionState S) (e : Event S) → AllByRecursion IsNamedRead (lines_in s) → May view s e → Keeps view s.executor (after s e).executor
  step s (event.Polled millis ready) named may = here s.executor s.executor refl
  step s (event.Peeked has_line) named may = here s.executor s.executor refl
  step s (event.Took bytes piece) named may = took_keeps s (after_read s) bytes piece refl
  step s event.ReadFailed named may = here s.executor s.executor refl
  step s (event.Noted found tag) named may = here s.executor s.executor refl
  step s (event.GaveMetadata provider agent limit None) named may = here s.executor s.executor refl
  step s (event.GaveMetadata provider agent limit (Some given)) named may = here s.executor s.executor refl
  step s (event.Shown now) named may = here s.executor s.executor refl
  step s (event.Rested micros) named may = here s.executor s.executor refl
  step s (event.Sent what true client) named may = here s.executor s.executor refl
  step s (event.Sent what false client) named may = here s.executor s.executor refl
  step s (event.HasReader still_reads) named may = here s.executor s.executor refl
  step s (event.Served reply x) named may =
      served_keeps view s.rules may.now may.request s.executor x reply
      (request_named may.request (subst (λ (ls : Lines). AllByRecursion IsNamedRead ls) may.is named).0) may.serves
  step s (event.Together replies x) named may =
      together_keeps view s.rules may.now (may.first ∷ may.others) s.executor x replies
      (commands_named (may.first ∷ may.others) may.rest (subst (λ (ls : Lines). AllByRecursion IsNamedRead ls) may.are named)) may.serves
  step s (event.Tidied end x) named may = tidied_keeps view s.executor x end may.tidies
  step s (event.Turned end x) named may =
      turned_keeps_on s (drain_now s) (time_of s.shown) end x (turned_keeps view s.rules may.now s.executor x end may.turns)
  step s (event.Faulted x) named may =
      faulted_keeps_on s (drain_now s) (time_of s.shown) x (faulted_keeps view s.rules may.now s.executor x may.fails)
  step s (event.Finishes end x) named may = finished_keeps view may.now s.executor x end may.takes

  -- from the first state on
  keeps_on : {first : SessionState S} {events : List (Event S)} {s : SessionState S} → IsFirst first → Behaves view first events s
      → Keeps view first.executor s.executor
  keeps_on {first} is begins = here first.executor first.executor refl
  keeps_on {first} is (goes_on events s e way may) =
      then_keeps view first.executor s.executor (after s e).executor (keeps_on is way)
      (step s e (lines_named s.rules.mode s.lines (lines_read is way)) may)

  pub small_on : {first : SessionState S} {events : List (Event S)} {s : SessionState S} → IsFirst first → IsLawfulState first.executor.state
      → Behaves view first events s → IsSmallState s.executor.state
  small_on {first} is lawful way = (keeps_on is way).small (lawful_small first.executor.state lawful)

  book_on : {first : SessionState S} {events : List (Event S)} {s : SessionState S} → IsFirst first → HasBook first.executor.children
      → Behaves view first events s → HasBook s.executor.children
  book_on {first} is book way = omega (arith, book, (keeps_on is way).holds)

  -- no turn finds the book full
  turn_room : (s : SessionState S) (end : TurnEnd) (x : ExecutorView S) → IsSmallState s.executor.state → HasBook s.executor.children
      → May view s (event.Turned end x) → end ≡ turn_end.BookFull → ⊥
  turn_room s end x small book may full =
      let same = room_made view s.rules may.now (with_empty_book s.executor) may.turns.middle may.turns.room in
      let lacks = may.turns.takes.full.0 full in
      omega (arith, lacks, book, small.few, ap (λ v. v.room) same.children, ap (λ t. length t.resources) same.state)

  finish_room : (s : SessionState S) (end : TurnEnd) (x : ExecutorView S) → IsSmallState s.executor.state → HasBook s.executor.children
      → May view s (event.Finishes end x) → end ≡ turn_end.BookFull → ⊥
  finish_room s end x small book may full = let lacks = may.takes.full.0 full in omega (arith, lacks, book, small.few)

  not_full : (s : SessionState S) (e : Event S) → IsSmallState s.executor.state → HasBook s.executor.children → May view s e → is_book_full e ≡ false
  not_full s (event.Turned turn_end.BookFull x) small book may = absurd (turn_room s turn_end.BookFull x small book may refl)
  not_full s (event.Turned turn_end.Done x) small book may = refl
  not_full s (event.Turned turn_end.RunsSpent x) small book may = refl
  not_full s (event.Turned turn_end.Full x) small book may = refl
  not_full s (event.Turned turn_end.Memory x) small book may = refl
  not_full s (event.Turned turn_end.Closed x) small book may = refl
  not_full s (event.Turned turn_end.Disk x) small book may = refl
  not_full s (event.Finishes turn_end.BookFull x) small book may = absurd (finish_room s turn_end.BookFull x small book may refl)
  not_full s (event.Finishes turn_end.Done x) small book may = refl
  not_full s (event.Finishes turn_end.RunsSpent x) small book may = refl
  not_full s (event.Finishes turn_end.Full x) small book may = refl
  not_full s (event.Finishes turn_end.Memory x) small book may = refl
  not_full s (event.Finishes turn_end.Closed x) small book may = refl
  not_full s (event.Finishes turn_end.Disk x) small book may = refl
  not_full s (event.Polled millis ready) small book may = refl
  not_full s (event.Peeked has_line) small book may = refl
  not_full s (event.Took bytes piece) small book may = refl
  not_full s event.ReadFailed small book may = refl
  not_full s (event.Noted found tag) small book may = refl
  not_full s (event.GaveMetadata provider agent limit given) small book may = refl
  not_full s (event.Shown now) small book may = refl
  not_full s (event.Rested micros) small book may = refl
  not_full s (event.Sent what all client) small book may = refl
  not_full s (event.HasReader still_reads) small book may = refl
  not_full s (event.Served reply x) small book may = refl
  not_full s (event.Together replies x) small book may = refl
  not_full s (event.Tidied end x) small book may = refl
  not_full s (event.Faulted x) small book may = refl

  pub book_never_full : {first : SessionState S} {events : List (Event S)} {s : SessionState S} → IsFirst first → IsLawfulState first.executor.state
      → HasBook first.executor.children → Behaves view first events s → AllByRecursion (λ e. is_book_full e ≡ false) events
  book_never_full is lawful book begins = tt
  book_never_full is lawful book (goes_on events s e way may) =
      each_append (λ e. is_book_full e ≡ false) events (e ∷ []) (book_never_full is lawful book way)
      (not_full s e (small_on is lawful way) (book_on is book way) may, tt)

-- an executor is opened with the book of its agents
pub opened_book : {S : Type 0} (from : ChildrenView) (x : ExecutorView S) → HasBook from → IsOver from x → HasBook x.children
opened_book from x has over = subst HasBook (sym over.children.1) has
