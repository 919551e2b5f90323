use Rattle.std.proofs.Common.{◌∙◌}
use Rattle.process_ends.specs.Endings.{given_up_of}
use Rattle.process_ends.proofs.BelongingLemmas.{found_are_all}
use Rattle.process_ends.proofs.given_up.GivenUpAction.belonging_in.Goals as goal

pub returns : goal.returns
returns g c = record {
  all = found_are_all (given_up_of c.args.self.now) c.args.table.now c.as_slice.result.now c.groups_in.result.now c.in_ok-found.found.items
      c.retain_living.new.found.items (c.as_slice.ensures.value ∙ c.in_ok-known.ensures.known) c.groups_in.ensures c.in_ok-found.ensures.exact
      c.retain_living.ensures.living;
}
