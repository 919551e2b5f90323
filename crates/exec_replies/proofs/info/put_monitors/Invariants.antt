use Rattle.std.proofs.Common.{take}
use Rattle.exec_replies.specs.Replies.{recur_data}
use Rattle.exec_replies.specs.Tokens.{values_tokens}
use Rattle.exec_replies.proofs.AddLemmas.{Adds}
use Rattle.exec_replies.proofs.info.put_monitors.Given as goal

abbrev pub invariant-loop-monitor : goal.invariant-loop-monitor
invariant-loop-monitor l = Adds l.fn.line (values_tokens recur_data (take l.monitor-index l.monitors)) l.line
