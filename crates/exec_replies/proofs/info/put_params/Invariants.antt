use Rattle.std.proofs.Common.{take}
use Rattle.exec_replies.specs.Infos.{params_tokens}
use Rattle.exec_replies.proofs.AddLemmas.{Adds}
use Rattle.exec_replies.proofs.info.put_params.Given as goal

abbrev pub invariant-loop-name : goal.invariant-loop-name
invariant-loop-name l = Adds l.fn.line (params_tokens (take l.name-index l.entries)) l.line
