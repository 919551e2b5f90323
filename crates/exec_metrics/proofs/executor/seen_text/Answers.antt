use Rattle.std.proofs.Common.{List, ℕ, subst}
use Rattle.exec_metrics.specs.Held.{seen_families}
use Rattle.exec_metrics.specs.Metrics.{GoesOn}
use Rattle.exec_metrics.proofs.FamilyLemmas.{finished}
use Rattle.exec_metrics.proofs.executor.seen_text.Goals as goal

pub returns : goal.returns
returns c = record {
  text =
      let fs = seen_families c.args.seen.now in
      finished (λ v. v.items) c.finish.result fs c.add_families.new.text
      (subst (λ (t : List ℕ). GoesOn fs t c.add_families.new.text) c.new-text.ensures.empty c.add_families.ensures) c.finish.ensures.bytes;
}
