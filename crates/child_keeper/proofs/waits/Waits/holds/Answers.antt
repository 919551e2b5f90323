use Rattle.std.proofs.Common.{ap, map, ◌∙◌}
use Rattle.std.specs.List.{list_any}
use Rattle.std.specs.Str.{bytes_eq}
use Rattle.child_keeper.proofs.WaitLemmas.{any_map}
use Rattle.child_keeper.proofs.waits.Waits.holds.Goals as goal

pub returns : goal.returns
returns g c = record {
  value = c.any_of.ensures ∙ any_map (bytes_eq c.args.id.now) (λ w. w.process.id) c.as_slice.result.now
      ∙ ap (λ l. list_any (bytes_eq c.args.id.now) (map (λ w. w.process.id) l)) c.as_slice.ensures.value;
}
