-- Whether one of some ids is that of a resource, with one more of them.
use Rattle.std.proofs.Common.{◌≡◌, ℕ, ◌+◌, ◌||◌, true, false, take, get_or, slice_get, List, Some, ap, ap₂, ◌∙◌}
use Rattle.std.proofs.lemmas.List.Folds.{list_any_more}
use Rattle.std.proofs.lemmas.Map.Keys.{any_passes_from_place}
use Rattle.std.proofs.lemmas.Option.{get_or_from_slice_get, slice_get_within}
use Rattle.std.specs.Borrow.{Bor}
use Rattle.std.specs.Str.{bytes_eq}
use Rattle.status_table.specs.Rows.{is_named}

-- an id is that of the resource
pub named_one : (ids : List (Bor (List ℕ))) (id : List ℕ) (i : ℕ) (x : Bor (List ℕ)) → slice_get ids i ≡ Some x → bytes_eq x.now id ≡ true
    → is_named ids id ≡ true
named_one ids id i x at is = any_passes_from_place (λ (n : Bor (List ℕ)). bytes_eq n.now id) ids i x at is

-- one more is not
pub named_none : (ids : List (Bor (List ℕ))) (id : List ℕ) (i : ℕ) (x : Bor (List ℕ)) → slice_get ids i ≡ Some x → is_named (take i ids) id ≡ false
    → bytes_eq x.now id ≡ false → is_named (take (i + 1) ids) id ≡ false
named_none ids id i x at none not =
    let is = λ (n : Bor (List ℕ)). bytes_eq n.now id in
    list_any_more is ids i x (slice_get_within ids i x at) ∙ ap₂ (λ a b. a || b) none (ap is (get_or_from_slice_get ids i x x at) ∙ not)
