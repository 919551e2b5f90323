-- What a session says of a call of its executor is backed by what that recorded, and may be said.
use Rattle.std.proofs.Common.{◌≡◌, ℕ, zero, suc, Bool, true, false, List, [], ◌∷◌, ◌++◌, map, length, Result, Ok, Err, inl, inr, refl, sym, subst}
use Rattle.std.specs.Prelude.{replicate}
use Rattle.std.specs.List.{AllByRecursion}
use Rattle.ocf_model.specs.Answer.{event_of}
use Rattle.ocf_types.specs.Kinds.{Command, Request}
use Rattle.ocf_model.specs.Answer.{Reply}
use Rattle.ocf_types.specs.declared.command.RequestOf.TheVariants as asked
use Rattle.ocf_model.specs.declared.refusal.Refusal.{Refusal}
use Rattle.ocf_model.specs.declared.refusal.Refusal.TheVariants.{Disk}
use Rattle.ocf_model.specs.declared.reply.ReplyOf.TheVariants.{Refused}
use Rattle.ocf_model.specs.declared.reply.TurnEnd.{TurnEnd}
use Rattle.store_model.specs.StoreView.{StoreView}
use Rattle.executor.specs.Commands.{ServesOpen, ServesWhile}
use Rattle.executor.specs.ExecutorView.{ExecutorView}
use Rattle.executor.specs.TurnCalls.{FinishesTurn, with_empty_book}
use Rattle.exec_commands.specs.declared.line.Line.{Line}
use Rattle.exec_commands.specs.declared.line.Line.TheVariants as line
use Rattle.exec_replies.specs.declared.reply.LineReply.{LineReply}
use Rattle.exec_replies.specs.declared.reply.LineReply.TheVariants as answer
use Rattle.exec_client.specs.BackedBy.{BackedBy, claims, nothing, states_else}
use Rattle.exec_client.specs.MaySend.{MayAnswer, MayReply, IsBacked}
use Rattle.exec_client.specs.SentItem.{Answered, SentItem, answered}
use Rattle.exec_client.specs.Sends.{ClaimsNothing, noticed}
use Rattle.exec_client.proofs.Growing.{both_hold, cleared_holds, commands_hold, finish_holds, none_holds, serves_holds, tidy_holds, turn_holds}
use Rattle.exec_client.proofs.Plain.{commands_plain, obeys_plain, refused_plain}
use Rattle.exec_client.proofs.Saying.{may_answer}
use Rattle.session_machine.specs.Replies.{IsClosedReply, IsLeaveReply, IsOpenReply, IsPlainReply, IsStatusReply, WhileOpen}
use Rattle.session_machine.specs.Room.{FailsNow, MakesRoom, ServesNow, ServesTogether, TurnsNow, is_tidy_due}
use Rattle.session_machine.specs.declared.rules.Mode.{Mode}
use Rattle.session_machine.specs.declared.rules.Mode.TheVariants.{Run, Serve}
use Rattle.session_machine.specs.declared.rules.Rules.{Rules}

-- messages that claim nothing
pub claims_backed : (ss : List SentItem) → ClaimsNothing ss → BackedBy ss []
claims_backed [] none = nothing
claims_backed (s ∷ ss) none = states_else s ss [] none.0 (claims_backed ss none.1)

each_refused : (n : ℕ) → ClaimsNothing (map answered (replicate n (Refused Disk)))
each_refused zero = tt
each_refused (suc n) = (refl, each_refused n)

-- a reply that acknowledges no command, with a status or a count, if any, of this executor's state
abbrev pub Plain : {S : Type 0} → ExecutorView S → LineReply → Type 0
Plain x given = (claims (Answered given) ≡ false) × MayReply x given

is_plain : {S : Type 0} (x : ExecutorView S) (r s : LineReply) → r ≡ s → Plain x s → Plain x r
is_plain x r s same plain = subst (λ (t : LineReply). Plain x t) (sym same) plain

closed_plain : {S : Type 0} (x : ExecutorView S) (found : Result Line Refusal) (given : LineReply) → IsClosedReply found given → Plain x given
closed_plain x (Ok (line.Meta provider agent limit)) given is = absurd is
closed_plain x (Ok (line.Drain limit)) given is = is_plain x given _ is (refl, tt)
closed_plain x (Ok (line.Watch limit)) given is = is_plain x given _ is (refl, tt)
closed_plain x (Ok line.Tidy) given is = is_plain x given _ is (refl, tt)
closed_plain x (Ok line.Leave) given is = is_plain x given _ is (refl, tt)
closed_plain x (Ok line.Version) given is = is_plain x given _ is (refl, tt)
closed_plain x (Ok line.Status) given is = is_plain x given _ is (refl, tt)
closed_plain x (Ok (line.Request request)) given is = is_plain x given _ is (refl, tt)
closed_plain x (Ok (line.Refused refusal)) given is = is_plain x given _ is (refl, tt)
closed_plain x (Err why) given is = is_plain x given _ is (refl, tt)

status_plain : {S : Type 0} (x : ExecutorView S) (given : LineReply) → x.is_open ≡ true → IsStatusReply x given → Plain x given
status_plain x given is_open (inl (statuses, reasons, is, same)) = is_plain x given (answer.Status statuses) is (refl, (is_open, reasons, same))
status_plain x given is_open (inr (is, refuses)) = is_plain x given _ is (refl, tt)

leave_plain : {S : Type 0} (mode : Mode) (x : ExecutorView S) (given : LineReply) → IsLeaveReply mode x given → Plain x given
leave_plain Run x given is = is_plain x given _ is (refl, tt)
leave_plain Serve x given (is, none) = is_plain x given _ is (refl, tt)

open_plain : {S : Type 0} (mode : Mode) (x : ExecutorView S) (found : Result Line Refusal) (given : LineReply) → x.is_open ≡ true
    → IsOpenReply mode x found given → Plain x given
open_plain mode x (Ok line.Leave) given is_open is = leave_plain mode x given is
open_plain mode x (Ok line.Version) given is_open is = is_plain x given _ is (refl, tt)
open_plain mode x (Ok line.Status) given is_open is = status_plain x given is_open is
open_plain mode x (Ok (line.Refused refusal)) given is_open is = is_plain x given _ is (refl, tt)
open_plain mode x (Err why) given is_open is = is_plain x given _ is (refl, tt)
open_plain mode x (Ok (line.Meta provider agent limit)) given is_open is = absurd is
open_plain mode x (Ok (line.Drain limit)) given is_open is = absurd is
open_plain mode x (Ok (line.Watch limit)) given is_open is = absurd is
open_plain mode x (Ok line.Tidy) given is_open is = absurd is
open_plain mode x (Ok (line.Request request)) given is_open is = absurd is

-- a reply for which the executor is not called
pub reply_plain : {S : Type 0} (mode : Mode) (x : ExecutorView S) (found : Result Line Refusal) (given : LineReply) → IsPlainReply mode x found given
    → Plain x given
reply_plain mode x found given is = by x.is_open refl is
  where
    by : (b : Bool) → x.is_open ≡ b → WhileOpen b (IsOpenReply mode x found given) (IsClosedReply found given) → Plain x given
    by true is_open reply = open_plain mode x found given is_open reply
    by false closed reply = closed_plain x found given reply

module _ {S : Type 0} (view : S → StoreView) where
  -- messages that claim nothing, beside those that are backed
  pub aside_holds : (x y : ExecutorView S) (ss ts : List SentItem) → ClaimsNothing ts → IsBacked view x y ss → IsBacked view x y (ss ++ ts)
  aside_holds x y ss ts none holds = both_hold view x y y ss ts holds (none_holds view y y ts refl (claims_backed ts none))

  -- a tidy, or none
  room_holds : (rules : Rules) (now : ℕ) (x y : ExecutorView S) → x.is_open ≡ true → MakesRoom view rules now x y → IsBacked view x y []
  room_holds rules now x y is_open room = by (is_tidy_due view rules x now room.pace) refl
    where
      by : (b : Bool) → is_tidy_due view rules x now room.pace ≡ b → IsBacked view x y []
      by true due = let made = room.made due in tidy_holds view x y made.0 is_open made.1
      by false none = none_holds view x y [] (room.none none) nothing

  -- the same after the book was emptied
  cleared_room : (rules : Rules) (now : ℕ) (x y : ExecutorView S) → x.is_open ≡ true → MakesRoom view rules now (with_empty_book x) y → IsBacked view x y []
  cleared_room rules now x y is_open room =
      both_hold view x (with_empty_book x) y [] [] (cleared_holds view x (with_empty_book x) refl)
      (room_holds rules now (with_empty_book x) y is_open room)

  -- a request
  pub request_holds : (rules : Rules) (now : ℕ) (request : Request) (x y : ExecutorView S) (r : Reply) → x.is_open ≡ true
      → ServesNow view rules now request x y r → IsBacked view x y (answered r ∷ [])
  request_holds rules now request x y r is_open serves = by serves.middle.is_open refl
    where
      room : IsBacked view x serves.middle []
      room = room_holds rules now x serves.middle is_open serves.room

      by : (b : Bool) → serves.middle.is_open ≡ b → IsBacked view x y (answered r ∷ [])
      by true still =
          both_hold view x serves.middle y [] (answered r ∷ []) room
          (serves_holds view now request serves.middle y r (serves.serves still) (λ _. serves.closes))
      by false closed =
          let (refused, same) = serves.fails closed in
          subst (λ (z : ExecutorView S). IsBacked view x z (answered r ∷ [])) (sym same)
          (subst (λ (t : Reply). IsBacked view x serves.middle (answered t ∷ [])) (sym refused)
          (aside_holds x serves.middle [] (answered (Refused Disk) ∷ []) (each_refused 1) room))

  open_says : (now : ℕ) (request : Request) (x y : ExecutorView S) (r : Reply) → x.is_open ≡ true → ServesOpen view now request x y r
      → MayAnswer y r
  open_says now (asked.Question question) x y r is_open (answers, same, memory) =
      subst (λ (z : ExecutorView S). MayAnswer z r) (sym same) (may_answer x question is_open r answers)
  open_says now (asked.Command command) x y r is_open obeys = obeys_plain y view x y r (event_of x.state now command) obeys.0

  pub request_says : (rules : Rules) (now : ℕ) (request : Request) (x y : ExecutorView S) (r : Reply) → ServesNow view rules now request x y r
      → MayAnswer y r
  request_says rules now request x y r serves = by serves.middle.is_open refl
    where
      by : (b : Bool) → serves.middle.is_open ≡ b → MayAnswer y r
      by true still =
          open_says now request serves.middle y r still
          (subst (λ (b : Bool). ServesWhile b view now request serves.middle y r) still (serves.serves still))
      by false closed = subst (λ (t : Reply). MayAnswer y t) (sym (serves.fails closed).0) tt

  -- a group commit
  pub together_hold : (rules : Rules) (now : ℕ) (commands : List Command) (x y : ExecutorView S) (rs : List Reply) → x.is_open ≡ true
      → ServesTogether view rules now commands x y rs → IsBacked view x y (map answered rs)
  together_hold rules now commands x y rs is_open serves = by serves.middle.is_open refl
    where
      room : IsBacked view x serves.middle []
      room = room_holds rules now x serves.middle is_open serves.room

      by : (b : Bool) → serves.middle.is_open ≡ b → IsBacked view x y (map answered rs)
      by true still =
          both_hold view x serves.middle y [] (map answered rs) room (commands_hold view now commands serves.middle y rs (serves.takes still))
      by false closed =
          let (refused, same) = serves.fails closed in
          subst (λ (z : ExecutorView S). IsBacked view x z (map answered rs)) (sym same)
          (subst (λ (ts : List Reply). IsBacked view x serves.middle (map answered ts)) (sym refused)
          (aside_holds x serves.middle [] (map answered (replicate (length commands) (Refused Disk))) (each_refused (length commands)) room))

  pub together_says : (rules : Rules) (now : ℕ) (commands : List Command) (x y : ExecutorView S) (rs : List Reply)
      → ServesTogether view rules now commands x y rs → AllByRecursion (MayAnswer y) rs
  together_says rules now commands x y rs serves = by serves.middle.is_open refl
    where
      by : (b : Bool) → serves.middle.is_open ≡ b → AllByRecursion (MayAnswer y) rs
      by true still = commands_plain y view now commands serves.middle y rs (serves.takes still)
      by false closed =
          subst (λ (ts : List Reply). AllByRecursion (MayAnswer y) ts) (sym (serves.fails closed).0) (refused_plain y (length commands))

  -- a turn
  pub turn_goes : (rules : Rules) (now : ℕ) (x y : ExecutorView S) (end : TurnEnd) → x.is_open ≡ true → TurnsNow view rules now x y end
      → IsBacked view x y (noticed y)
  turn_goes rules now x y end is_open turns =
      both_hold view x turns.middle y [] (noticed y) (cleared_room rules now x turns.middle is_open turns.room)
      (turn_holds view now turns.middle y end turns.is_open turns.takes)

  -- a disk fault in the tidy before a turn
  pub fault_goes : (rules : Rules) (now : ℕ) (x y : ExecutorView S) → x.is_open ≡ true → FailsNow view rules now x y → IsBacked view x y []
  fault_goes rules now x y is_open fails = cleared_room rules now x y is_open fails.room

  -- a turn that begins nothing
  pub finish_goes : (now : ℕ) (x y : ExecutorView S) (end : TurnEnd) → x.is_open ≡ true → FinishesTurn view now (with_empty_book x) y end
      → IsBacked view x y (noticed y)
  finish_goes now x y end is_open takes =
      both_hold view x (with_empty_book x) y [] (noticed y) (cleared_holds view x (with_empty_book x) refl)
      (finish_holds view now (with_empty_book x) y end is_open takes)
