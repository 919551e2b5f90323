-- Calls of a ledger are calls of its executor.
use Rattle.std.proofs.Common.{◌≡◌, inl, inr, ℕ, Bool, true, false, true≢false, List, [], ◌∷◌, Option, Some, None, refl, sym, ap, ◌∙◌}
use Rattle.std.specs.Option.{option_map_or}
use Rattle.ocf_model.specs.Answer.{reply_to}
use Rattle.ocf_types.specs.Kinds.{Command}
use Rattle.ocf_model.specs.Answer.{Reply}
use Rattle.ocf_model.specs.Resource.{Resource}
use Rattle.ocf_model.specs.State.{State, resource_at}
use Rattle.ocf_types.specs.declared.command.Question.{Question}
use Rattle.ocf_types.specs.declared.command.Question.TheVariants as question
use Rattle.ocf_model.specs.declared.refusal.Refusal.TheVariants.{Disk, Memory, UnknownResource}
use Rattle.ocf_model.specs.declared.reply.ReplyOf.TheVariants.{Refused}
use Rattle.ocf_model.specs.declared.reply.TidyEnd.{TidyEnd}
use Rattle.ocf_model.specs.declared.reply.TidyEnd.TheVariants.{Closed}
use Rattle.exec_state.specs.Answers.{IsReplyOrMemory}
use Rattle.exec_ledger.specs.Commands.{TakesCommand}
use Rattle.exec_ledger.specs.LedgerView.{LedgerView, While}
use Rattle.exec_ledger.specs.Lemmas.{of_closed}
use Rattle.exec_ledger.specs.CommitGroups.{Batch as GroupedBatch, CommitGroup, Single, TakesCommands as LedgerTakesCommands, TakesGroup, TakesGroups}
use Rattle.exec_ledger.specs.Tidying.{Tidies as LedgerTidies}
use Rattle.exec_ledger.proofs.Keeping.{same_runs}
use Rattle.executor.specs.CallLemmas.{same_view}
use Rattle.executor.specs.BatchLemmas.{still_beside, with_ledger}
use Rattle.executor.specs.ExecutorView.{ChildrenInvariant, ExecutorView, ledger_of}
use Rattle.executor.specs.TidyCalls.{TidiesWhile}
use Rattle.executor.proofs.Keeping.{kept_tends}
use Rattle.store_model.specs.StoreView.{StoreView}

module _ {S : Type 0} (view : S → StoreView) (now : ℕ) where
  -- a ledger that ended open began open
  pub command_open : (b : Bool) (c : Command) (r : Reply) (h k : LedgerView S) → TakesCommand view now c h k r → k.is_open ≡ true → h.is_open ≡ b
      → h.is_open ≡ true
  command_open true c r h k takes is was = was
  command_open false c r h k takes is was = sym (ap (λ (x : LedgerView S). x.is_open) (of_closed _ _ was takes).1) ∙ is

  group_open : (s : CommitGroup) (h k : LedgerView S) → TakesGroup view now s h k → k.is_open ≡ true → h.is_open ≡ true
  group_open (Single c r) h k takes is = command_open h.is_open c r h k takes is refl
  group_open (GroupedBatch cs rs) h k takes is = takes.was_open

  groups_open : (ss : List CommitGroup) (h k : LedgerView S) → TakesGroups view now ss h k → k.is_open ≡ true → h.is_open ≡ true
  groups_open [] h k same is = sym (ap (λ (x : LedgerView S). x.is_open) same) ∙ is
  groups_open (s ∷ ss) h k (mid, one, rest) is = group_open s h mid one (groups_open ss mid k rest is)

  pub commands_open : (cs : List Command) (rs : List Reply) (h k : LedgerView S) → LedgerTakesCommands view now cs h k rs → k.is_open ≡ true
      → h.is_open ≡ true
  commands_open cs rs h k takes is = groups_open takes.groups h k takes.takes is

-- no answer to a question is a refusal for the disk
given_kept : (a r : Reply) → (a ≡ Refused Disk → ⊥) → IsReplyOrMemory a r → r ≡ Refused Disk → ⊥
given_kept (Refused refusal) r kept given disk = kept (sym given ∙ disk)
given_kept a r kept (inl is) disk = kept (sym is ∙ disk)
given_kept a r kept (inr memory) disk = let bad : Refused Memory ≡ Refused Disk = sym memory ∙ disk in cc

sent_kept : (o : Option Resource) (say : Resource → Reply) → ((r : Resource) → say r ≡ Refused Disk → ⊥)
    → option_map_or say o (Refused UnknownResource) ≡ Refused Disk → ⊥
sent_kept None say kept is = cc
sent_kept (Some r) say kept is = kept r is

pub question_kept : (s : State) (q : Question) (r : Reply) → IsReplyOrMemory (reply_to s q) r → r ≡ Refused Disk → ⊥
question_kept s q r answers = given_kept (reply_to s q) r (by q) answers
  where
    by : (asked : Question) → reply_to s asked ≡ Refused Disk → ⊥
    by question.List is = cc
    by (question.Info id) is = sent_kept (resource_at s id) _ (λ x bad. cc) is
    by (question.History id) is = sent_kept (resource_at s id) _ (λ x bad. cc) is

-- a tidy of a ledger is one of its executor, and leaves what is beside it
pub tidy_taken : {S : Type 0} (view : S → StoreView) (b : Bool) (x : ExecutorView S) (h : LedgerView S) (end : TidyEnd)
    → While b (LedgerTidies view (ledger_of x) h end) ((end ≡ Closed) × (h ≡ ledger_of x)) → TidiesWhile b view x (with_ledger x h) end
tidy_taken view true x h end tidies = (tidies, still_beside x h)
tidy_taken view false x h end tidies = (tidies.0, same_view x (with_ledger x h) tidies.1 (still_beside x h))

pub tidied_tends : {S : Type 0} (view : S → StoreView) (b : Bool) (x : ExecutorView S) (h : LedgerView S) (end : TidyEnd) → x.is_open ≡ b
    → While b (LedgerTidies view (ledger_of x) h end) ((end ≡ Closed) × (h ≡ ledger_of x)) → ChildrenInvariant x → ChildrenInvariant (with_ledger x h)
tidied_tends view true x h end was tidies tended is =
    kept_tends (ledger_of x) h x.children x.site x.reported x.reported x.opening_report (same_runs x.state h.state (ap (λ (y : LedgerView _). y.state) tidies.same)) (tended was)
tidied_tends view false x h end was tidies tended is =
    absurd (true≢false (sym is ∙ ap (λ (y : LedgerView _). y.is_open) tidies.1 ∙ was))
