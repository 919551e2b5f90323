use Rattle.std.proofs.Common.{ap, ◌∙◌}
use Rattle.resource_status.specs.Counts.{count_at, one_more}
use Rattle.resource_status.proofs.Tallies.{inserted, tallies_more}
use Rattle.resource_status.proofs.counting.add.Goals as goal

pub returns : goal.returns
returns c = record {
  counted = λ runs were.
      let old = c.args.counts.now.entries in
      let id = c.args.id.now in
      let count = one_more c.args.failed (count_at old id) in
      tallies_more id c.args.failed runs old c.insert.new.self.entries were
      (λ q. inserted q id c.copied.result old c.reserve_entries.new.map.entries c.insert.new.self.entries count c.one_more-count.result
      c.reserve_entries.ensures.entries c.copied.ensures (c.one_more-count.ensures ∙ ap (one_more c.args.failed) c.count_of.ensures)
      (c.in-Ok.ensures.updates.0 q));
}
