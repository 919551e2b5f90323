use Rattle.std.proofs.Common.{[], ◌∷◌}
use Rattle.exec_metrics.specs.Held.{seen_family}
use Rattle.exec_metrics.specs.declared.family.Family.TheVariants as family
use Rattle.exec_metrics.proofs.FamilyLemmas.{joined}
use Rattle.exec_metrics.proofs.executor.add_families.Goals as goal

pub returns : goal.returns
returns c =
    let f = seen_family c.args.seen.now in
    joined (f family.Up ∷ []) (f family.Opened ∷ f family.RecordAge ∷ f family.Held ∷ []) _ _ _ c.add_family.ensures
    (joined (f family.Opened ∷ []) (f family.RecordAge ∷ f family.Held ∷ []) _ _ _ c.add_family-2.ensures
    (joined (f family.RecordAge ∷ []) (f family.Held ∷ []) _ _ _ c.add_family-3.ensures c.add_family-4.ensures))
