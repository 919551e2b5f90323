-- The lines of rows, with one more of them.
use Rattle.std.proofs.Common.{◌≡◌, ℕ, ◌+◌, ◌<◌, ◌++◌, ◌||◌, true, false, length, take, get_or, slice_get, List, [], ◌∷◌, Some, ap, ap₂, sym, ◌∙◌}
use Rattle.std.proofs.lemmas.List.{append-nil, take_more}
use Rattle.std.proofs.lemmas.Grind.{flat_map-append}
use Rattle.std.specs.List.{flat_map}
use Rattle.status_report.specs.StatusLines.{status_line, status_lines}
use Rattle.status_table.specs.declared.options.StatusOptions.{StatusOptions}
use Rattle.status_table.specs.declared.rows.Row.{Row}

-- the lines of rows, and one more
pub line_more : (options : StatusOptions) (rows : List Row) (i : ℕ) (d : Row) (was : List ℕ) → i < length rows
    → was ≡ status_lines options (take i rows) → was ++ status_line options (get_or rows i d) ≡ status_lines options (take (i + 1) rows)
line_more options rows i d was lt is =
    let f = status_line options in
    let rs = take i rows in
    let r = get_or rows i d in
    ap (λ t. t ++ f r) is ∙ ap (λ t. flat_map f rs ++ t) (sym (append-nil (f r)))
    ∙ sym (ap (flat_map f) (take_more rows i d lt) ∙ flat_map-append f rs (r ∷ []))
