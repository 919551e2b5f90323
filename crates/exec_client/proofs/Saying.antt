-- Which answers may be sent.
use Rattle.std.proofs.Common.{◌≡◌, ◌⊎◌, inl, inr, true, false, Option, None, Some, refl, sym, ap, subst, ◌∙◌}
use Rattle.std.specs.Option.{option_map_or}
use Rattle.ocf_model.specs.Answer.{info_of, reply_to}
use Rattle.ocf_model.specs.Answer.{Reply}
use Rattle.ocf_model.specs.Resource.{Resource}
use Rattle.ocf_model.specs.State.{State, resource_at}
use Rattle.ocf_types.specs.declared.command.Question.{Question}
use Rattle.ocf_types.specs.declared.command.Question.TheVariants as question
use Rattle.ocf_model.specs.declared.refusal.Refusal.TheVariants.{Memory, UnknownResource}
use Rattle.ocf_model.specs.declared.reply.ReplyOf.TheVariants as reply
use Rattle.exec_state.specs.Answers.{IsReplyOrMemory}
use Rattle.executor.specs.ExecutorView.{ExecutorView}
use Rattle.exec_client.specs.BackedBy.{claims}
use Rattle.exec_client.specs.MaySend.{MayAnswer}
use Rattle.exec_client.specs.SentItem.{answered}

-- an answer to a question, or memory was refused
is_or_memory : (r given : Reply) → IsReplyOrMemory r given → (given ≡ r) ⊎ (given ≡ reply.Refused Memory)
is_or_memory (reply.Refused why) given is = inl is
is_or_memory reply.Done given is = is
is_or_memory (reply.Accepted call key) given is = is
is_or_memory (reply.List ids) given is = is
is_or_memory (reply.Info info) given is = is
is_or_memory (reply.History results) given is = is
is_or_memory (reply.Turn end) given is = is

-- an answer about a resource, or that there is none
sent_none : (o : Option Resource) (say : Resource → Reply) → ((r : Resource) → claims (answered (say r)) ≡ false)
    → claims (answered (option_map_or say o (reply.Refused UnknownResource))) ≡ false
sent_none None say none = refl
sent_none (Some r) say none = none r

-- an answer claims nothing
answer_none : (s : State) (q : Question) → claims (answered (reply_to s q)) ≡ false
answer_none s question.List = refl
answer_none s (question.Info id) = sent_none (resource_at s id) (λ r. reply.Info (info_of id r)) (λ r. refl)
answer_none s (question.History id) = sent_none (resource_at s id) (λ r. reply.History r.history.ended) (λ r. refl)

pub no_claim : {S : Type 0} (x : ExecutorView S) (q : Question) (given : Reply) → IsReplyOrMemory (reply_to x.state q) given
    → claims (answered given) ≡ false
no_claim x q given is = elim (is_or_memory (reply_to x.state q) given is) [
  | inl same ↦ ap (λ (r : Reply). claims (answered r)) same ∙ answer_none x.state q
  | inr memory ↦ ap (λ (r : Reply). claims (answered r)) memory
]

module _ {S : Type 0} (x : ExecutorView S) (question : Question) (is_open : x.is_open ≡ true) where
  from_state : (given : Reply) → given ≡ reply_to x.state question → MayAnswer x given
  from_state (reply.Refused why) is = tt
  from_state reply.Done is = tt
  from_state (reply.Accepted call key) is = tt
  from_state (reply.List ids) is = (is_open, question, is)
  from_state (reply.Info info) is = (is_open, question, is)
  from_state (reply.History results) is = (is_open, question, is)
  from_state (reply.Turn end) is = tt

  pub may_answer : (given : Reply) → IsReplyOrMemory (reply_to x.state question) given → MayAnswer x given
  may_answer given is = elim (is_or_memory (reply_to x.state question) given is) [
    | inl same ↦ from_state given same
    | inr memory ↦ subst (λ (r : Reply). MayAnswer x r) (sym memory) tt
  ]
