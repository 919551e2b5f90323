-- When a client may be sent something.
use Rattle.std.specs.Prelude.{◌≡◌, ◌⊎◌, true, ⊤, List, ◌++◌, length}
use Rattle.std.specs.List.{AllByRecursion}
use Rattle.ocf_model.specs.Answer.{reply_to}
use Rattle.ocf_model.specs.Answer.{Reply}
use Rattle.ocf_types.specs.declared.command.Question.{Question}
use Rattle.ocf_types.specs.declared.notice.Notice.{Notice}
use Rattle.ocf_model.specs.declared.reply.ReplyOf.TheVariants as reply
use Rattle.store_model.specs.StoreView.{StoreView}
use Rattle.executor.specs.Exchanges.{Calls, Exchange}
use Rattle.executor.specs.Sessions.{Effects}
use Rattle.executor.specs.ExecutorView.{ExecutorView}
use Rattle.exec_replies.specs.Replies.{statuses_in}
use Rattle.exec_replies.specs.declared.reply.LineReply.{LineReply}
use Rattle.exec_replies.specs.declared.reply.LineReply.TheVariants as line
use Rattle.exec_replies.specs.declared.service.Counts.{Counts}
use Rattle.resource_status.specs.Statuses.{statuses_of}
use Rattle.resource_status.specs.declared.reasons.RunReason.{RunReason}
use Rattle.exec_client.specs.BackedBy.{BackedBy}
use Rattle.exec_client.specs.ClientView.{ClientView}
use Rattle.exec_client.specs.MessageView as message
use Rattle.exec_client.specs.MessageView.{MessageView}
use Rattle.exec_client.specs.SentItem.{SentItem, sent_in}
use Rattle.exec_client.specs.Sends.{SendsCalls}

-- Calls lead from one view of an executor to another. The messages are exactly what these calls answered, with nothing left out, and the
-- events that the calls recorded back them.
pub record IsBacked {S : Type 0} (view : S → StoreView) (old new : ExecutorView S) (items : List SentItem) : Type 0 where
  pub calls : List Exchange
  pub effects : Effects
  pub leads : Calls view old calls new effects
  pub sends : SendsCalls view old calls new effects items
  pub backed : BackedBy items effects.events

-- the reply is what an open executor answers to some question, from its state
abbrev pub IsAnswer : {S : Type 0} → ExecutorView S → Reply → Type 0
IsAnswer x given = (x.is_open ≡ true) × (question : Question) × (given ≡ reply_to x.state question)

-- a reply may be sent: if it reports on the state, it is the answer from that state
abbrev pub MayAnswer : {S : Type 0} → ExecutorView S → Reply → Type 0
MayAnswer x (reply.List ids) = IsAnswer x (reply.List ids)
MayAnswer x (reply.Info info) = IsAnswer x (reply.Info info)
MayAnswer x (reply.History results) = IsAnswer x (reply.History results)
MayAnswer x _ = ⊤

-- these are the numbers of the executor's resources, and of the results that its opening reported as interrupted and as dropped, and its
-- next call
abbrev pub IsCounted : {S : Type 0} → ExecutorView S → Counts → Type 0
IsCounted x counts =
    (counts.resources ≡ length x.state.resources) × (counts.interrupted ≡ length x.opening_report.interrupted)
    × (counts.dropped ≡ length x.opening_report.dropped) × (counts.next_call ≡ x.state.next_call)

-- a reply to a line may be sent: a reply to a request as above; a status is that of the state of an open executor, with some
-- reasons for failures, and the counts of the line that the session is ready are those of its opening
abbrev pub MayReply : {S : Type 0} → ExecutorView S → LineReply → Type 0
MayReply x (line.Request given) = MayAnswer x given
MayReply x (line.Status statuses) = (x.is_open ≡ true) × (reasons : List RunReason) × (statuses_in statuses ≡ statuses_of reasons x.state)
MayReply x (line.Ready counts) = IsCounted x counts
MayReply x _ = ⊤

-- the opening of this executor reported these notices as interrupted, or as dropped
abbrev pub IsReported : {S : Type 0} → ExecutorView S → List Notice → Type 0
IsReported x notices = (notices ≡ x.opening_report.interrupted) ⊎ (notices ≡ x.opening_report.dropped)

-- a message may be sent by its content: answers are from the settled state, and a report is that of the opening
abbrev pub IsOfView : {S : Type 0} → ExecutorView S → MessageView → Type 0
IsOfView x (message.Reply given) = MayReply x given
IsOfView x (message.News given) = MayReply x given
IsOfView x (message.Replies given) = AllByRecursion (MayAnswer x) given
IsOfView x (message.Turn book notices) = ⊤
IsOfView x (message.Report notices) = IsReported x notices

-- all messages that were sent are backed by what the executor recorded since it was opened
abbrev pub AllBacked : {S : Type 0} → (S → StoreView) → ClientView S → ExecutorView S → Type 0
AllBacked view client_view x = IsBacked view client_view.opened x client_view.reported

-- This message may be sent to a client of an executor in this view: all that was sent is recorded, and so is this message.
pub record MaySend {S : Type 0} (view : S → StoreView) (client_view : ClientView S) (x : ExecutorView S) (what : MessageView) : Type 0 where
  pub holds : IsBacked view client_view.opened x (client_view.reported ++ sent_in what)
  pub says : IsOfView x what
