use Rattle.std.proofs.Common.{refl}
use Rattle.exec_replies.proofs.PrefixLemmas.{on_err, prefix_none}
use Rattle.exec_replies.proofs.json_lines.JsonLines.put_reply.Goals as goal

pub returns-in_err-write_reply-clause-prefix : goal.returns-in_err-write_reply-clause-prefix
returns-in_err-write_reply-clause-prefix g c = on_err c.from_residual.result _ (prefix_none _ _ _ refl)
