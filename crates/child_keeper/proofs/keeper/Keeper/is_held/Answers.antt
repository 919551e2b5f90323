use Rattle.std.proofs.Common.{ap, map, sym, take, ◌∙◌}
use Rattle.std.specs.List.{list_any}
use Rattle.std.specs.Str.{bytes_eq}
use Rattle.std.proofs.lemmas.List.{take-map}
use Rattle.child_keeper.proofs.WaitLemmas.{any_map}
use Rattle.child_keeper.proofs.keeper.Keeper.is_held.Goals as goal

pub returns : goal.returns
returns g c =
    let items = c.args.self.now.waits.waits.items in
    let shown = c.args.self.now.shown in
    record {
      value = c.any_of.ensures ∙ any_map (bytes_eq c.args.id.now) (λ w. w.process.id) (take shown c.deref.result.now)
          ∙ ap (λ l. list_any (bytes_eq c.args.id.now) (map (λ w. w.process.id) (take shown l))) c.deref.ensures.value
          ∙ ap (list_any (bytes_eq c.args.id.now)) (sym (take-map (λ w. w.process.id) shown items));
    }
