-- Due moments, replies and reserved memory, computed on a small state.
use Rattle.std.proofs.Common.{◌≡◌, ℕ, List, [], ◌∷◌, Some, None, false, refl}
use Rattle.std.specs.Prelude.{codes}
use Rattle.ocf_types.specs.Actions.{plain}
use Rattle.ocf_types.specs.declared.operation.Recur.{Recur}
use Rattle.ocf_types.specs.declared.command.Question.TheVariants as question
use Rattle.ocf_model.specs.declared.refusal.Refusal.TheVariants.{UnknownResource, Memory}
use Rattle.ocf_model.specs.declared.reply.ReplyOf.TheVariants.{Refused}
use Rattle.ocf_model.specs.Resource.{no_history}
use Rattle.ocf_model.specs.Answer.{reply_to}
use Rattle.exec_state.specs.StateValue.{StateValue, dues}
use Rattle.exec_state.specs.Answers.{IsReplyOrMemory}

abbrev r1 : List ℕ
r1 = codes "r1"

abbrev monitor : Recur
monitor = record { call = 1; interval = 10000; timeout = 20000; check = plain }

-- r1 with one recurring monitor, which is due at 40
abbrev small : StateValue
small = record {
  state = record {
    next_call = 2;
    next_run = 1;
    clock = 30;
    resources =
        (r1, record { provider = codes "pacemaker"; agent = codes "Dummy"; params = []; history = no_history; recurring = monitor ∷ [] })
        ∷ [];
  };
  monitors = (r1, record { recur = monitor; due = 40 } ∷ []) ∷ [];
  ready = false;
  refuses = false;
}

-- the due moment of the monitor, and `None` for another call or another id
due : dues small r1 1 ≡ Some 40
due = refl

no_call : dues small r1 2 ≡ None
no_call = refl

no_id : dues small (codes "r2") 1 ≡ None
no_id = refl

-- a question about an unknown resource is refused as such, and never for lack of memory
unknown : IsReplyOrMemory (reply_to small.state (question.Info (codes "r2"))) (Refused UnknownResource)
unknown = refl

never_memory : ¬ (IsReplyOrMemory (reply_to small.state (question.History (codes "r2"))) (Refused Memory))
never_memory h = let bad : Refused Memory ≡ Refused UnknownResource = h in cc
