use Rattle.std.proofs.Common.{◌∙◌}
use Rattle.ocf_model.specs.Resource.{is_busy}
use Rattle.exec_state.proofs.Entries.{any_seen}
use Rattle.exec_state.proofs.registry.Registry.any_busy.Goals as goal

pub returns : goal.returns
returns g c = rw (← c.self.view_is) (c.is_any_busy.ensures ∙ any_seen (λ r. is_busy r.history) c.self.inside.resources.entries)
