-- What a line is read as, and the replies that need no call of the executor.
use Rattle.std.specs.Prelude.{◌≡◌, ◌≢◌, ◌⊎◌, ℕ, Bool, List, true, false, IfErr, IsTrue, None, Result, Ok, Err}
use Rattle.growth.specs.Refused.{refuses_here}
use Rattle.ocf_model.specs.declared.refusal.Refusal.{Refusal}
use Rattle.ocf_model.specs.declared.refusal.Refusal.TheVariants as refusal
use Rattle.ocf_model.specs.declared.reply.ReplyOf.TheVariants.{Refused}
use Rattle.ocf_model.specs.declared.reply.TidyEnd.TheVariants as tidy_end
use Rattle.ocf_model.specs.declared.reply.TurnEnd.TheVariants as turn_end
use Rattle.exec_turn.specs.Actives.{any_running}
use Rattle.executor.specs.ExecutorView.{ExecutorView}
use Rattle.exec_commands.specs.Lines.{line_read}
use Rattle.exec_replies.specs.Replies.{statuses_in}
use Rattle.exec_commands.specs.Served.{IsServedAs}
use Rattle.exec_commands.specs.Tags.{IsTaggedAs}
use Rattle.exec_replies.specs.declared.ends.DrainEnd.TheVariants.{Turn}
use Rattle.exec_commands.specs.declared.line.Line.{Line}
use Rattle.exec_commands.specs.declared.line.Line.TheVariants as line
use Rattle.exec_replies.specs.declared.reply.LineReply.{LineReply}
use Rattle.exec_replies.specs.declared.reply.LineReply.TheVariants as answer
use Rattle.exec_replies.specs.declared.statuses.Statuses.{Statuses}
use Rattle.exec_client.specs.Tags.{LineTag}
use Rattle.resource_status.specs.Statuses.{statuses_of}
use Rattle.resource_status.specs.declared.reasons.RunReason.{RunReason}
use Rattle.session_machine.specs.declared.rules.Mode.{Mode}
use Rattle.session_machine.specs.declared.rules.Mode.TheVariants.{Run, Serve}

-- A line of these bytes is read as the definition says, except that memory may be refused in reading it. In `serve` lines have a
-- definition of their own.
abbrev pub IsReadAs : Mode → List ℕ → Result Line Refusal → Type 0
IsReadAs Run bytes (Ok found) = line_read bytes ≡ Ok found
IsReadAs Run bytes (Err why) = why ≢ refusal.Memory → line_read bytes ≡ Err why
IsReadAs Serve bytes found = IsServedAs bytes found

-- lack of memory is given as the reason only where the allocator refuses growths
abbrev pub HasMemoryCause : Result Line Refusal → Type 0
HasMemoryCause found = IfErr found (λ why. why ≡ refusal.Memory → IsTrue refuses_here)

-- in `serve` a line that was read has the tag that these bytes give it; nothing else has a tag
abbrev pub HasTagOf : Mode → List ℕ → Result Line Refusal → LineTag → Type 0
HasTagOf Serve bytes (Ok line) tag = IsTaggedAs bytes tag
HasTagOf mode bytes found tag = tag ≡ None

-- a refusal as a reply
abbrev pub refused : Refusal → LineReply
refused why = answer.Request (Refused why)

-- the reply of a closed executor to a drain or a watch
abbrev pub closed_drain : LineReply
closed_drain = answer.Drain (Turn turn_end.Closed)

-- its reply to a tidy
abbrev pub closed_tidy : LineReply
closed_tidy = answer.Tidy tidy_end.Closed

-- the status of all resources at the executor's state, with some reasons for failures, or that memory was refused for it: only where
-- the executor's allocator refuses growths
abbrev pub IsStatusReply : {S : Type 0} → ExecutorView S → LineReply → Type 0
IsStatusReply x reply =
    ((statuses : Statuses) × (reasons : List RunReason) × (reply ≡ answer.Status statuses) × (statuses_in statuses ≡ statuses_of reasons x.state))
    ⊎ ((reply ≡ refused refusal.Memory) × IsTrue x.refuses)

-- The reply to a line that asks for the end of the session: in `serve` once nothing runs; in `run` there is no such operation.
abbrev pub IsLeaveReply : {S : Type 0} → Mode → ExecutorView S → LineReply → Type 0
IsLeaveReply Run x reply = reply ≡ refused refusal.UnknownOp
IsLeaveReply Serve x reply = (reply ≡ answer.Left) × (any_running x.state ≡ false)

-- the reply of an open executor to a line that calls for nothing else: no request, drain, watch, tidy or question for metadata
abbrev pub IsOpenReply : {S : Type 0} → Mode → ExecutorView S → Result Line Refusal → LineReply → Type 0
IsOpenReply mode x (Ok line.Leave) reply = IsLeaveReply mode x reply
IsOpenReply mode x (Ok line.Version) reply = reply ≡ answer.Version
IsOpenReply mode x (Ok line.Status) reply = IsStatusReply x reply
IsOpenReply mode x (Ok (line.Refused why)) reply = reply ≡ answer.Refused why
IsOpenReply mode x (Err why) reply = reply ≡ refused why
IsOpenReply mode x _ reply = ⊥

-- The reply of a closed executor: to a drain, a watch and a tidy, that it is closed; and else 17, also to a line that was refused. Metadata are
-- given all the same.
abbrev pub IsClosedReply : Result Line Refusal → LineReply → Type 0
IsClosedReply (Ok (line.Meta provider agent limit)) reply = ⊥
IsClosedReply (Ok (line.Drain limit)) reply = reply ≡ closed_drain
IsClosedReply (Ok (line.Watch limit)) reply = reply ≡ closed_drain
IsClosedReply (Ok line.Tidy) reply = reply ≡ closed_tidy
IsClosedReply _ reply = reply ≡ refused refusal.Closed

-- one of two, as the executor is open or not
abbrev pub WhileOpen : Bool → Type 0 → Type 0 → Type 0
WhileOpen true one other = one
WhileOpen false one other = other

-- the same of an executor, open or closed
abbrev pub IsPlainReply : {S : Type 0} → Mode → ExecutorView S → Result Line Refusal → LineReply → Type 0
IsPlainReply mode x found reply = WhileOpen x.is_open (IsOpenReply mode x found reply) (IsClosedReply found reply)
