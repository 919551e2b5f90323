-- The ids of resources, and one more of them.
use Rattle.std.proofs.Common.{◌≡◌, ℕ, ◌+◌, ◌<◌, ◌++◌, List, [], ◌∷◌, length, take, sym, ap, ◌∙◌}
use Rattle.std.proofs.lemmas.List.{append-nil, take_more}
use Rattle.std.proofs.lemmas.Grind.{flat_map-append}
use Rattle.std.specs.List.{flat_map}
use Rattle.ocf_model.specs.Indexes.{entry_at, no_entry}
use Rattle.ocf_model.specs.State.{State}
use Rattle.status_report.specs.Failed.{failed_id}
use Rattle.status_table.specs.declared.options.StatusOptions.{StatusOptions}

pub id_more : (options : StatusOptions) (s : State) (i : ℕ) (now : List (List ℕ)) → i < length s.resources
    → now ≡ flat_map (failed_id options) (take i s.resources)
    → now ++ failed_id options (entry_at s i) ≡ flat_map (failed_id options) (take (i + 1) s.resources)
id_more options s i now lt is =
    let f = failed_id options in
    let es = take i s.resources in
    ap (λ t. t ++ f (entry_at s i)) is ∙ ap (λ t. flat_map f es ++ t) (sym (append-nil (f (entry_at s i))))
    ∙ sym (ap (flat_map f) (take_more s.resources i no_entry lt) ∙ flat_map-append f es (entry_at s i ∷ []))
