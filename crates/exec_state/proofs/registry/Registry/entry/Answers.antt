use Rattle.std.proofs.Common.{sym, ap, ◌∙◌}
use Rattle.std.specs.Option.{option_map}
use Rattle.std.proofs.lemmas.Map.Made.{lookup-map_values}
use Rattle.ocf_model.specs.Indexes.{no_entry}
use Rattle.exec_state.specs.Seen.{seen, monitors_of}
use Rattle.exec_state.proofs.Entries.{seen_entry}
use Rattle.exec_state.proofs.Lookups.{lookup_own}
use Rattle.exec_state.proofs.registry.Registry.entry.Goals as goal

pub returns-clause-id : goal.returns-clause-id
returns-clause-id g c =
    rw (← c.self.view_is) (sym
    (ap (λ e. e.0) (seen_entry c.self.inside.resources.entries c.args.index _ _ no_entry c.in-Some.ensures.entry)))

pub returns-clause-resource : goal.returns-clause-resource
returns-clause-resource g c =
    rw (← c.self.view_is) (sym
    (ap (λ e. e.1) (seen_entry c.self.inside.resources.entries c.args.index _ _ no_entry c.in-Some.ensures.entry)))

pub returns-clause-by_id : goal.returns-clause-by_id
returns-clause-by_id g c =
    let es = c.self.inside.resources.entries in
    let own = lookup_own es c.args.index _ _ c.len-len.ensures.unique c.in-Some.ensures.entry in
    rw (← c.self.view_is) (lookup-map_values seen _ es ∙ ap (option_map seen) own)

pub returns-clause-monitors : goal.returns-clause-monitors
returns-clause-monitors g c =
    let es = c.self.inside.resources.entries in
    let own = lookup_own es c.args.index _ _ c.len-len.ensures.unique c.in-Some.ensures.entry in
    rw (← c.self.view_is) (lookup-map_values monitors_of _ es ∙ ap (option_map monitors_of) own)
