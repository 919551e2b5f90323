-- The rows of resources, and one more.
use Rattle.std.proofs.Common.{◌≡◌, ℕ, ◌+◌, ◌<◌, ◌++◌, List, [], ◌∷◌, length, map, take, ap, sym, ◌∙◌}
use Rattle.std.proofs.lemmas.List.{map_more}
use Rattle.ocf_model.specs.Indexes.{entry_at, no_entry}
use Rattle.ocf_model.specs.State.{State}
use Rattle.resource_status.specs.declared.condition.Recorded.{Recorded}
use Rattle.status_table.specs.Rows.{row_of}
use Rattle.status_table.specs.declared.options.StatusOptions.{StatusOptions}
use Rattle.status_table.specs.declared.rows.Row.{Row}

pub row_more : (options : StatusOptions) (recorded : List (List ℕ × Recorded)) (s : State) (i : ℕ) (rows : List Row) (r : Row) → i < length s.resources
    → rows ≡ map (row_of options recorded) (take i s.resources) → r ≡ row_of options recorded (entry_at s i)
    → rows ++ r ∷ [] ≡ map (row_of options recorded) (take (i + 1) s.resources)
row_more options recorded s i rows r lt were is =
    ap (λ (t : List Row). t ++ r ∷ []) were ∙ ap (λ (x : Row). map (row_of options recorded) (take i s.resources) ++ x ∷ []) is
    ∙ sym (map_more (row_of options recorded) s.resources i no_entry lt)
