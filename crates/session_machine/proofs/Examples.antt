-- A session in `serve` that begins: a log of it, and what may not follow.
use Rattle.std.proofs.Common.{◌≡◌, ℕ, Bool, true, false, List, [], ◌∷◌, map, None, Ok, inl, inr, refl, arith}
use Rattle.ocf_types.specs.Kinds.{Command}
use Rattle.ocf_model.specs.declared.reply.TurnEnd.{TurnEnd}
use Rattle.store_model.specs.StoreView.{StoreView}
use Rattle.executor.specs.ExecutorView.{ExecutorView}
use Rattle.exec_commands.specs.declared.line.Line.TheVariants as line
use Rattle.exec_replies.specs.declared.notice.NoticeForm.{NoticeForm}
use Rattle.exec_replies.specs.declared.reply.LineReply.TheVariants.{Ready}
use Rattle.exec_lines.specs.declared.line.Piece.{Piece}
use Rattle.exec_client.specs.ClientView.{ClientView, Receives}
use Rattle.exec_client.specs.MessageView.{News, Report}
use Rattle.session_machine.specs.After.{after}
use Rattle.session_machine.specs.Behaviours.{Behaves, May, begins, goes_on}
use Rattle.session_machine.specs.Events.{Event, Polled, Rested, Sent, Took, Turned}
use Rattle.session_machine.specs.Liveness.{any_since, count, is_poll, is_wait, looks}
use Rattle.session_machine.specs.Session.{SessionState, Reading, begun, counts_of, of_command}
use Rattle.session_machine.specs.Starts.{Start}
use Rattle.session_machine.specs.declared.rules.Mode.TheVariants.{Serve}
use Rattle.session_machine.specs.declared.rules.Rules.{Rules}

module _ {S : Type 0} (view : S → StoreView) (form : NoticeForm) (start : Start) (opened : ExecutorView S) (client one two three : ClientView S) where
  abbrev rules : Rules
  rules = record { mode = Serve; form = form; most_turns = 10; tidy_at = 0 }

  abbrev x : ExecutorView S
  x = record opened { is_open = true }

  abbrev first : SessionState S
  first = begun rules start x client

  -- it sends the report of its opening, and that it is ready
  abbrev interrupted : Event S
  interrupted = Sent (Report x.opening_report.interrupted) true one

  abbrev dropped : Event S
  dropped = Sent (Report x.opening_report.dropped) true two

  abbrev ready : Event S
  ready = Sent (News (Ready (counts_of x))) true three

  abbrev readied : SessionState S
  readied = after (after (after first interrupted) dropped) ready

  reads_then : readied.at ≡ Reading
  reads_then = refl

  module _ (receives_one : Receives form client one (Report x.opening_report.interrupted)) (receives_two : Receives form one two (Report x.opening_report.dropped))
      (receives_three : Receives form two three (News (Ready (counts_of x)))) where
    abbrev begin : Behaves view first (interrupted ∷ dropped ∷ ready ∷ []) readied
    begin =
        goes_on (interrupted ∷ dropped ∷ []) (after (after first interrupted) dropped) ready
        (goes_on (interrupted ∷ []) (after first interrupted) dropped (goes_on [] first interrupted begins (refl, receives_one)) (refl, receives_two))
        (refl, receives_three)

    -- and then polls its input, which is empty
    abbrev way : Behaves view first (interrupted ∷ dropped ∷ ready ∷ Polled 0 false ∷ []) (after readied (Polled 0 false))
    way = goes_on (interrupted ∷ dropped ∷ ready ∷ []) readied (Polled 0 false) begin (record {
      serves = refl;
      listens = record { at = refl; goes_on = refl; noted = refl; commands = []; waits = refl };
      brief = inl (refl, omega arith);
    })

    polled_once : count is_poll way ≡ 1
    polled_once = refl

    waited_never : count is_wait way ≡ 0
    waited_never = refl

    -- so it has looked, and did not before
    looked_now : any_since looks way ≡ true
    looked_now = refl

    looked_not : any_since looks begin ≡ false
    looked_not = refl

  -- before that poll it may make no turn by itself, and it may not read
  no_turn : (end : TurnEnd) (y : ExecutorView S) → May view readied (Turned end y) → ⊥
  no_turn end y may = elim may.due as (λ _. ⊥) [ inl own ↦ absurd (let no = own.looked in cc) | inr asks ↦ asks ]

  no_read : (bytes : List ℕ) (piece : Piece) → May view readied (Took bytes piece) → ⊥
  no_read bytes piece may = let no = may.1.0 in absurd cc

  -- after a wait it may not wait again
  no_second_wait : (s : SessionState S) (micros : ℕ) → May view (after (record s { at = Reading; own = record s.own { waits = 0 } }) (Rested micros)) (Rested micros) → ⊥
  no_second_wait s micros may = let no = may.once in absurd (omega (arith, no))

  -- while a line is not answered, it may not wait
  no_wait_before_answer : (s : SessionState S) (micros : ℕ)
      → May view (record s { at = Reading; lines = record { line = Ok line.Version; tag = None } ∷ [] }) (Rested micros) → ⊥
  no_wait_before_answer s micros may = may.rests

  -- once a line asks for the end, it may not poll
  abbrev leaving : SessionState S → SessionState S
  leaving s = record s { at = Reading; lines = record { line = Ok line.Leave; tag = None } ∷ [] }

  no_poll : (s : SessionState S) (millis : ℕ) (is_there : Bool) → May view (leaving s) (Polled millis is_there) → ⊥
  no_poll s millis is_there may = none_of may.listens.commands may.listens.waits
    where
      none_of : (commands : List Command) → Ok line.Leave ∷ [] ≡ map of_command commands → ⊥
      none_of [] is = absurd cc
      none_of (c ∷ cs) is = absurd cc

  -- after the end of the input it may not read
  no_read_after_end : (s : SessionState S) (bytes : List ℕ) (piece : Piece) → May view (record s { ended = true }) (Took bytes piece) → ⊥
  no_read_after_end s bytes piece may = let no = may.0.goes_on in absurd cc
