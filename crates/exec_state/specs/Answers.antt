-- Replies that may be refused for lack of memory.
use Rattle.std.specs.Prelude.{◌≡◌, ◌⊎◌}
use Rattle.ocf_model.specs.Answer.{Reply}
use Rattle.ocf_model.specs.declared.refusal.Refusal.TheVariants.{Memory}
use Rattle.ocf_model.specs.declared.reply.ReplyOf.TheVariants.{Refused}

-- the second reply is the first, or, if the first is no refusal, the refusal for lack of memory
abbrev pub IsReplyOrMemory : Reply → Reply → Type 0
IsReplyOrMemory (Refused refusal) given = given ≡ Refused refusal
IsReplyOrMemory reply given = (given ≡ reply) ⊎ (given ≡ Refused Memory)
