use Rattle.std.proofs.Common.{◌≡◌, ◌∙◌, rules}
use Rattle.std.specs.Map.{keys_of}
use Rattle.exec_state.proofs.Entries.{ids_seen}
use Rattle.exec_state.proofs.registry.Registry.ids.Goals as goal

pub returns : goal.returns
returns g c = record {
  ids =
      let all : c.loop-id.ids.items ≡ keys_of c.self.inside.resources.entries = search rules in
      rw (← c.self.view_is) (all ∙ ids_seen c.self.inside.resources.entries);
}
