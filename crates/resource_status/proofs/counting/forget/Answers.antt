use Rattle.resource_status.proofs.Tallies.{tallies_without}
use Rattle.resource_status.proofs.counting.forget.Goals as goal

pub returns : goal.returns
returns c = λ runs were.
    tallies_without c.args.id.now runs c.args.counts.now.entries c.swap_remove.new.self.entries were c.swap_remove.ensures.updates.0
