use Rattle.std.proofs.Common.{sym, ap, ◌∙◌}
use Rattle.std.specs.Option.{option_map}
use Rattle.std.specs.Str.{bytes_eq}
use Rattle.std.proofs.lemmas.Map.Made.{lookup-map_values}
use Rattle.exec_state.specs.Seen.{seen, monitors_of}
use Rattle.exec_state.proofs.Entries.{look_copied}
use Rattle.exec_state.proofs.registry.Registry.get.Goals as goal

pub returns-clause-resource : goal.returns-clause-resource
returns-clause-resource g c =
    rw (← c.self.view_is) (look_copied seen c.get.result ∙ ap (option_map seen) c.get.ensures.value
    ∙ sym (lookup-map_values seen (bytes_eq c.args.id.now) c.self.inside.resources.entries))

pub returns-clause-monitors : goal.returns-clause-monitors
returns-clause-monitors g c =
    rw (← c.self.view_is) (look_copied monitors_of c.get.result ∙ ap (option_map monitors_of) c.get.ensures.value
    ∙ sym (lookup-map_values monitors_of (bytes_eq c.args.id.now) c.self.inside.resources.entries))
