use Rattle.exec_metrics.specs.Held.{seen_lines}
use Rattle.exec_metrics.proofs.FamilyLemmas.{one_family}
use Rattle.exec_metrics.proofs.executor.add_family.Goals as goal

pub returns : goal.returns
returns c = one_family c.args.family (seen_lines c.args.seen.now c.args.family) _ _ _ c.add_header.ensures c.add_lines.ensures
