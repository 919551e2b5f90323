use Rattle.std.proofs.Common.{ap, ◌∙◌}
use Rattle.resource_status.specs.Facts.{recorded_at, taken}
use Rattle.resource_status.specs.declared.condition.Recorded.{Recorded}
use Rattle.resource_status.proofs.FactLemmas.{inserted, tells_more}
use Rattle.resource_status.proofs.facts.take.Goals as goal

pub returns : goal.returns
returns c = record {
  recorded = λ facts were.
      let old = c.args.recorded.now.entries in
      let id = c.args.id.now in
      let fact = c.args.fact.now in
      let next = taken (recorded_at old id) fact in
      tells_more id fact facts old c.insert.new.self.entries were
      (λ q. inserted q id c.copied.result old c.reserve_entries.new.map.entries c.insert.new.self.entries next c.taken-next.result
      c.reserve_entries.ensures.entries c.copied.ensures (c.taken-next.ensures ∙ ap (λ (r : Recorded). taken r fact) c.recorded_of.ensures)
      (c.in-Ok.ensures.updates.0 q));
}
