-- The bytes of a buffer after some of them were taken.
use Rattle.std.proofs.Common.{◌≡◌, ℕ, ◌+◌, ◌-◌, ◌≤◌, List, ◌++◌, Option, take, drop, slice_range, ap, sym, ◌∙◌, arith}
use Rattle.std.proofs.Common.{take-append-drop, drop-drop}
use Rattle.std.proofs.KnownBytes.{Keeps-refl, prepend_known-read}
use Rattle.std.proofs.lemmas.List.{drop-take}
use Rattle.std.specs.Io.KnownBytes.{Consumes, prepend_known}

pub range_dropped : (xs : List ℕ) (a e n : ℕ) → a + n ≤ e → slice_range xs (a + n) e ≡ drop n (slice_range xs a e)
range_dropped xs a e n within =
    let whole : n + (e - (a + n)) ≡ e - a = omega (arith, within) in
    ap (take (e - (a + n))) (sym (drop-drop n a xs)) ∙ sym (drop-take n (e - (a + n)) (drop a xs)) ∙ ap (λ k. drop n (take k (drop a xs))) whole

-- what is left loses the bytes that were taken
pub range_taken : (xs : List ℕ) (a e n : ℕ) (rest : Option (List ℕ)) → a + n ≤ e
    → Consumes (prepend_known (slice_range xs a e) rest) (prepend_known (slice_range xs (a + n) e) rest) (take n (slice_range xs a e))
range_taken xs a e n rest within =
    let all = slice_range xs a e in
    let split : all ≡ take n all ++ slice_range xs (a + n) e =
    sym (take-append-drop n all) ∙ ap (λ l. take n all ++ l) (sym (range_dropped xs a e n within)) in
    (prepend_known-read (prepend_known all rest) rest all (slice_range xs (a + n) e) (take n all) ⊥ (Keeps-refl (prepend_known all rest)) split
    (λ x. absurd x)).0
