use Rattle.std.proofs.Common.{take}
use Rattle.exec_replies.specs.Objects.{natural_data}
use Rattle.exec_replies.specs.Tokens.{values_tokens}
use Rattle.exec_replies.proofs.AddLemmas.{Adds}
use Rattle.exec_replies.proofs.info.put_calls.Given as goal

abbrev pub invariant-loop-call : goal.invariant-loop-call
invariant-loop-call l = Adds l.fn.line (values_tokens natural_data (take l.call-index l.calls)) l.line
