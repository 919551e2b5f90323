use Rattle.std.proofs.Common.{◌≡◌, ℕ, List, [], ◌∷◌, ◌++◌, None, ap, sym, ◌∙◌}
use Rattle.std.proofs.lemmas.List.{map-append}
use Rattle.std.proofs.lemmas.Map.Made.{lookup-map_values}
use Rattle.std.specs.Map.{lookup}
use Rattle.std.specs.Str.{bytes_eq}
use Rattle.indexmap.proofs.CallerLemmas.{insert_entry-new}
use Rattle.exec_state.specs.Seen.{seen, seen_all, monitors_of, monitors_all}
use Rattle.ocf_model.specs.State.{at_id}
use Rattle.recurring.specs.DueIndex.{Dues}
use Rattle.recurring.specs.Monitors.{pairs}
use Rattle.exec_state.proofs.Choices.{none_before}
use Rattle.exec_state.specs.StateValue.{dues_by_id}
use Rattle.exec_state.proofs.Dues.{at_id-last, dues_absent, dues_more}
use Rattle.exec_state.proofs.registry.insert.Goals as goal

pub returns-clause-resources : goal.returns-clause-resources
returns-clause-resources g c =
    let m = c.args.resources.now in
    let none : lookup (bytes_eq c.args.id) m.entries ≡ None
    = none_before seen _ (sym (lookup-map_values seen (bytes_eq c.args.id) m.entries) ∙ c.requires.absent) in
    ap seen_all c.in-Ok.ensures.entries ∙ ap seen_all (insert_entry-new bytes_eq m c.args.id c.args.resource none)
    ∙ map-append (λ e. (e.0, seen e.1)) m.entries ((c.args.id, c.args.resource) ∷ [])

pub returns-clause-monitors : goal.returns-clause-monitors
returns-clause-monitors g c =
    let m = c.args.resources.now in
    let none : lookup (bytes_eq c.args.id) m.entries ≡ None
    = none_before seen _ (sym (lookup-map_values seen (bytes_eq c.args.id) m.entries) ∙ c.requires.absent) in
    ap monitors_all c.in-Ok.ensures.entries ∙ ap monitors_all (insert_entry-new bytes_eq m c.args.id c.args.resource none)
    ∙ map-append (λ e. (e.0, monitors_of e.1)) m.entries ((c.args.id, c.args.resource) ∷ [])

pub keep-requires-clause-absent : goal.keep-requires-clause-absent
keep-requires-clause-absent g c =
    rw c.copied.ensures (ap (lookup (bytes_eq c.args.id)) c.requires.tied
    ∙ dues_absent c.args.id c.args.resources.now.entries c.requires.absent)

pub returns-clause-tied : goal.returns-clause-tied
returns-clause-tied g c =
    let id = c.args.id in
    let ms = c.args.resource.monitors in
    let before = monitors_all c.args.resources.now.entries in
    let kept : c.keep.new.self.dues ≡ dues_by_id before ++ (id, []) ∷ []
    = c.keep.ensures ∙ ap (λ (k : List ℕ). c.args.dues.now.dues ++ (k, []) ∷ []) c.copied.ensures
    ∙ ap (λ (xs : Dues). xs ++ (id, []) ∷ []) c.requires.tied in
    let none = dues_absent id c.args.resources.now.entries c.requires.absent in
    c.renew.ensures.dues ∙ ap (λ (xs : Dues). at_id id (λ ps. pairs ms) xs) kept
    ∙ at_id-last id (λ ps. pairs ms) (dues_by_id before) [] none
    ∙ sym (dues_more before _ id ms (returns-clause-monitors g c))
