use Rattle.std.proofs.Common.{ap, filter, not, sym, ◌∙◌}
use Rattle.std.specs.Str.{bytes_eq}
use Rattle.recurring.specs.DueIndex.{Dues}
use Rattle.exec_state.specs.Seen.{seen, seen_all, monitors_of, monitors_all}
use Rattle.exec_state.specs.StateValue.{dues_by_id}
use Rattle.exec_state.proofs.Dues.{dues_without}
use Rattle.exec_state.proofs.Entries.{map_entries-remove_entry}
use Rattle.exec_state.proofs.Resting.{rest_before_0}
use Rattle.exec_state.proofs.registry.Registry.remove.Goals as goal

pub returns-clause-resources : goal.returns-clause-resources
returns-clause-resources g c =
    rw (← c.self.view_is) (ap seen_all c.shift_remove.ensures.entries
    ∙ map_entries-remove_entry seen c.args.id.now c.self.inside.resources.entries c.len-len.ensures.unique)

pub returns-clause-monitors : goal.returns-clause-monitors
returns-clause-monitors g c =
    rw (← c.self.view_is) (ap monitors_all c.shift_remove.ensures.entries
    ∙ map_entries-remove_entry monitors_of c.args.id.now c.self.inside.resources.entries c.len-len.ensures.unique)

pub invariant_of-self : goal.invariant_of-self
invariant_of-self g c = (
  c.self.invariant.0,
  rest_before_0 _ _,
  c.forget.ensures.dues ∙ ap (λ (xs : Dues). filter (λ e. not (bytes_eq c.args.id.now e.0)) xs) c.self.invariant.2
      ∙ sym (dues_without c.args.id.now c.self.inside.resources.entries c.len-len.ensures.unique)
      ∙ sym (ap (λ es. dues_by_id (monitors_all es)) c.shift_remove.ensures.entries),
)
