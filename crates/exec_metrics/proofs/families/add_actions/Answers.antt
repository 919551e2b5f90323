use Rattle.std.proofs.Common.{[], ◌∷◌}
use Rattle.exec_metrics.specs.Metrics.{family_of, measure_of}
use Rattle.exec_metrics.specs.declared.family.Family.TheVariants as family
use Rattle.exec_metrics.proofs.FamilyLemmas.{joined}
use Rattle.exec_metrics.proofs.families.add_actions.Goals as goal

pub returns : goal.returns
returns c =
    let f = family_of (measure_of c.args.taken.now) c.args.state.now.state in
    joined (f family.State ∷ []) (f family.Queued ∷ f family.Running ∷ f family.ResourceRuns ∷ f family.ResourceFailures ∷ []) _ _ _ c.add_family.ensures
    (joined (f family.Queued ∷ []) (f family.Running ∷ f family.ResourceRuns ∷ f family.ResourceFailures ∷ []) _ _ _ c.add_family-2.ensures
    (joined (f family.Running ∷ []) (f family.ResourceRuns ∷ f family.ResourceFailures ∷ []) _ _ _ c.add_family-3.ensures
    (joined (f family.ResourceRuns ∷ []) (f family.ResourceFailures ∷ []) _ _ _ c.add_family-4.ensures c.add_family-5.ensures)))
