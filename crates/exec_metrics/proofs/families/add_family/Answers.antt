use Rattle.exec_metrics.specs.Metrics.{lines_in, measure_of}
use Rattle.exec_metrics.proofs.FamilyLemmas.{one_family}
use Rattle.exec_metrics.proofs.families.add_family.Goals as goal

pub returns : goal.returns
returns c =
    one_family c.args.family (lines_in (measure_of c.args.taken.now) c.args.state.now.state c.args.family) _ _ _ c.add_header.ensures c.add_lines.ensures
