use Rattle.std.proofs.Common.{refl}
use Rattle.exec_replies.proofs.PrefixLemmas.{on_err, prefix_none}
use Rattle.exec_replies.proofs.json_lines.JsonLines.put_notice.Goals as goal

pub returns-in_err-write_notice-clause-prefix : goal.returns-in_err-write_notice-clause-prefix
returns-in_err-write_notice-clause-prefix g c = on_err c.from_residual.result _ (prefix_none _ _ _ refl)
