use Rattle.std.proofs.Common.{take}
use Rattle.exec_replies.specs.Replies.{ended_data}
use Rattle.exec_replies.specs.Tokens.{values_tokens}
use Rattle.exec_replies.proofs.AddLemmas.{Adds}
use Rattle.exec_replies.proofs.results.put_results.Given as goal

abbrev pub invariant-loop-ended : goal.invariant-loop-ended
invariant-loop-ended l = Adds l.fn.line (values_tokens ended_data (take l.ended-index l.results)) l.line
