use Rattle.std.proofs.Common.{take}
use Rattle.serde_json.specs.Data.{string}
use Rattle.exec_replies.specs.Tokens.{values_tokens}
use Rattle.exec_replies.proofs.AddLemmas.{Adds}
use Rattle.exec_replies.proofs.reply.put_ids.Given as goal

abbrev pub invariant-loop-id : goal.invariant-loop-id
invariant-loop-id l = Adds l.fn.line (values_tokens string (take l.id-index l.ids)) l.line
