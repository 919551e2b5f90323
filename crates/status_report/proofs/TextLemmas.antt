-- What is written of a state: the list, and then the lines of its resources.
use Rattle.std.proofs.Common.{◌≡◌, inl, inr, ℕ, List, [], Result, Ok, Err, OnOk, Option, None, map, sym, ap, subst, ◌∙◌}
use Rattle.std.specs.List.{flat_map}
use Rattle.std.specs.Io.KnownBytes.{Appends}
use Rattle.std.proofs.KnownBytes.{Appends-trans}
use Rattle.ocf_model.specs.Answer.{reply_to}
use Rattle.ocf_model.specs.Answer.{Reply}
use Rattle.ocf_model.specs.State.{State}
use Rattle.ocf_types.specs.declared.command.Question.TheVariants as question
use Rattle.ocf_model.specs.declared.reply.ReplyOf.TheVariants as reply
use Rattle.exec_state.specs.Answers.{IsReplyOrMemory}
use Rattle.exec_replies.specs.declared.reply.LineReply.TheVariants.{Request}
use Rattle.exec_replies.specs.Replies.{reply_line}
use Rattle.exec_replies.specs.declared.notice.NoticeForm.TheVariants.{Short}
use Rattle.status_report.specs.Shown.{answer_line, resource_lines, shown}

abbrev ids_of : Reply → List (List ℕ)
ids_of (reply.List ids) = ids
ids_of _ = []

-- the ids of an answer to `list` are those of the state
ids_are : (s : State) (ids : List (List ℕ)) (given : Reply) → IsReplyOrMemory (reply_to s question.List) given → given ≡ reply.List ids
    → ids ≡ map (λ e. e.0) s.resources
ids_are s ids given (inl same) is = ap ids_of (sym is ∙ same)
ids_are s ids given (inr memory) is = absurd cc

-- the list, and then the lines of its resources
pub shows : {A E : Type 0} (s : State) (ids : List (List ℕ)) (given : Reply) (r : Result A E) (a b c : Option (List ℕ))
    → IsReplyOrMemory (reply_to s question.List) given → given ≡ reply.List ids
    → Appends a b (reply_line Short None (Request given)) → OnOk r (Appends b c (flat_map (resource_lines s) ids)) → OnOk r (Appends a c (shown s))
shows s ids given (Ok x) a b c answer is list rest =
    let same = ids_are s ids given answer is in
    Appends-trans a b c (answer_line s question.List) (flat_map (resource_lines s) (map (λ e. e.0) s.resources))
    (subst (λ g. Appends a b (reply_line Short None (Request g))) (is ∙ ap reply.List same) list)
    (subst (λ l. Appends b c (flat_map (resource_lines s) l)) same rest)
shows s ids given (Err e) a b c answer is list rest = tt
