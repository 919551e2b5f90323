use Rattle.std.proofs.Common.{◌≡◌, length, false, is_some, Option, Some, None, refl, sym, ap, ◌∙◌, arith}
use Rattle.std.specs.Option.{option_map, option_and_then}
use Rattle.std.specs.Map.{lookup}
use Rattle.std.specs.Str.{bytes_eq}
use Rattle.std.proofs.lemmas.Map.Made.{lookup-map_values}
use Rattle.indexmap.specs.IndexMap.{set_value_at}
use Rattle.ocf_model.specs.State.{stepped}
use Rattle.recurring.specs.DueIndex.{Dues}
use Rattle.recurring.specs.Monitors.{pairs}
use Rattle.exec_state.specs.MonitorsAfter.{monitors_stepped}
use Rattle.exec_state.specs.Seen.{seen, seen_all, monitors_of, monitors_all}
use Rattle.exec_state.specs.StateValue.{dues_by_id}
use Rattle.exec_state.proofs.Dues.{dues_set_at, length-dues}
use Rattle.exec_state.proofs.Entries.{map_entries-set_value, map_entries-same_at, set_value-found}
use Rattle.exec_state.proofs.Resting.{rest_before_0}
use Rattle.exec_state.proofs.registry.Registry.take_step.Goals as goal

none_found : {A : Type 0} (o : Option A) → false ≡ is_some o → o ≡ None
none_found None e = refl
none_found (Some x) e = absurd (cc)

pub take_step-requires : goal.take_step-requires
take_step-requires g c =
    let es = c.self.inside.resources.entries in
    let there : lookup (bytes_eq c.args.id.now) (seen_all es) ≡ Some (seen c.index_mut-resource.result.now)
    = lookup-map_values seen (bytes_eq c.args.id.now) es
    ∙ ap (option_map seen) (sym c.in-Some.ensures.value ∙ c.index_mut-resource.ensures.value) in
    rw (← c.self.view_is, there) at c.requires

pub unreachable-requires : goal.unreachable-requires
unreachable-requires g c =
    let es = c.self.inside.resources.entries in
    let none : lookup (bytes_eq c.args.id.now) (seen_all es) ≡ None
    = lookup-map_values seen (bytes_eq c.args.id.now) es ∙ ap (option_map seen) (none_found _ c.in_default.ensures.found) in
    rw (← c.self.view_is, none) at c.requires

pub renew_at-requires : goal.renew_at-requires
renew_at-requires g c =
    omega (arith, c.in-Some.ensures.within, ap length c.self.invariant.2, length-dues c.self.inside.resources.entries)

pub returns-then-may_change-clause-resources : goal.returns-then-may_change-clause-resources
returns-then-may_change-clause-resources g c =
    let id = c.args.id.now in
    let es = c.self.inside.resources.entries in
    let was = c.index_mut-resource.result.now in
    let found : lookup (bytes_eq id) es ≡ Some was = sym c.in-Some.ensures.value ∙ c.index_mut-resource.ensures.value in
    rw (← c.self.view_is) (ap seen_all (set_value-found id es c.in-Some.index c.take_step.new.self c.in-Some.ensures.index)
    ∙ map_entries-set_value seen id (stepped c.args.at c.args.step) es was c.take_step.new.self c.get_index_of.ensures.unique found
    c.take_step.ensures.state)

pub returns-then-may_change-clause-monitors : goal.returns-then-may_change-clause-monitors
returns-then-may_change-clause-monitors g c =
    let id = c.args.id.now in
    let es = c.self.inside.resources.entries in
    let was = c.index_mut-resource.result.now in
    let found : lookup (bytes_eq id) es ≡ Some was = sym c.in-Some.ensures.value ∙ c.index_mut-resource.ensures.value in
    let there : lookup (bytes_eq id) (seen_all es) ≡ Some (seen was) = lookup-map_values seen (bytes_eq id) es ∙ ap (option_map seen) found in
    let running : option_and_then (λ r. r.history.running) (lookup (bytes_eq id) (seen_all es)) ≡ was.ops.running
    = ap (option_and_then (λ r. r.history.running)) there in
    rw (← c.self.view_is) (ap monitors_all (set_value-found id es c.in-Some.index c.take_step.new.self c.in-Some.ensures.index)
    ∙ map_entries-set_value monitors_of id
    (monitors_stepped c.args.at (option_and_then (λ r. r.history.running) (lookup (bytes_eq id) (seen_all es))) c.args.step) es
    was c.take_step.new.self c.get_index_of.ensures.unique found
    (c.take_step.ensures.monitors ∙ ap (λ o. monitors_stepped c.args.at o c.args.step was.monitors) (sym running)))

pub returns-else-may_change-clause-resources : goal.returns-else-may_change-clause-resources
returns-else-may_change-clause-resources g c =
    let id = c.args.id.now in
    let es = c.self.inside.resources.entries in
    let was = c.index_mut-resource.result.now in
    let found : lookup (bytes_eq id) es ≡ Some was = sym c.in-Some.ensures.value ∙ c.index_mut-resource.ensures.value in
    rw (← c.self.view_is) (ap seen_all (set_value-found id es c.in-Some.index c.take_step.new.self c.in-Some.ensures.index)
    ∙ map_entries-set_value seen id (stepped c.args.at c.args.step) es was c.take_step.new.self c.get_index_of.ensures.unique found
    c.take_step.ensures.state)

pub returns-else-may_change-clause-monitors : goal.returns-else-may_change-clause-monitors
returns-else-may_change-clause-monitors g c =
    let id = c.args.id.now in
    let es = c.self.inside.resources.entries in
    let was = c.index_mut-resource.result.now in
    let found : lookup (bytes_eq id) es ≡ Some was = sym c.in-Some.ensures.value ∙ c.index_mut-resource.ensures.value in
    let there : lookup (bytes_eq id) (seen_all es) ≡ Some (seen was) = lookup-map_values seen (bytes_eq id) es ∙ ap (option_map seen) found in
    let running : option_and_then (λ r. r.history.running) (lookup (bytes_eq id) (seen_all es)) ≡ was.ops.running
    = ap (option_and_then (λ r. r.history.running)) there in
    rw (← c.self.view_is) (ap monitors_all (set_value-found id es c.in-Some.index c.take_step.new.self c.in-Some.ensures.index)
    ∙ map_entries-set_value monitors_of id
    (monitors_stepped c.args.at (option_and_then (λ r. r.history.running) (lookup (bytes_eq id) (seen_all es))) c.args.step) es
    was c.take_step.new.self c.get_index_of.ensures.unique found
    (c.take_step.ensures.monitors ∙ ap (λ o. monitors_stepped c.args.at o c.args.step was.monitors) (sym running)))

pub invariant_of-self : goal.invariant_of-self
invariant_of-self g c =
    let es = c.self.inside.resources.entries in
    let is = c.take_step.new.self in
    let i = c.in-Some.index in (
      c.self.invariant.0,
      rest_before_0 _ _,
      c.renew_at.ensures.dues ∙ ap (λ (xs : Dues). set_value_at xs i (pairs is.monitors)) c.self.invariant.2
          ∙ sym (dues_set_at es i is),
    )

pub invariant_of-self-else-may_change : goal.invariant_of-self-else-may_change
invariant_of-self-else-may_change g c =
    let es = c.self.inside.resources.entries in
    let was = c.index_mut-resource.result.now in
    let is = c.take_step.new.self in
    let same : is.monitors ≡ was.monitors
    = c.take_step.ensures.monitors ∙ c.may_change_monitors-may_change.ensures c.if-may_change.false c.args.at was.monitors in (
      c.self.invariant.0,
      rest_before_0 _ _,
      c.self.invariant.2
          ∙ sym (ap dues_by_id (map_entries-same_at monitors_of es c.in-Some.index was is c.index_mut-resource.ensures.value same)),
    )
