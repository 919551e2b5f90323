use Rattle.std.proofs.Common.{◌++◌}
use Rattle.exec_metrics.specs.Metrics.{measure_of, of_actions, of_journal, of_results}
use Rattle.exec_metrics.proofs.FamilyLemmas.{joined}
use Rattle.exec_metrics.proofs.families.add_families.Goals as goal

pub returns : goal.returns
returns c =
    let m = measure_of c.args.taken.now in
    let s = c.args.state.now.state in
    joined (of_journal m s ++ of_actions m s) (of_results m s) _ _ _
    (joined (of_journal m s) (of_actions m s) _ _ _ c.add_journal.ensures c.add_actions.ensures) c.add_results.ensures
