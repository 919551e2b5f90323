-- The bytes that are kept of a stream.
use Rattle.std.specs.Prelude.{◌≡◌, ℕ, List, ◌++◌, Option, Some, None, IfSome}
use Rattle.std.specs.Io.KnownBytes.{Consumes}
use Rattle.std.proofs.Common.{ap, append_assoc, sym, ◌∙◌}

-- what is kept followed by all that is left is, as seen from an earlier moment, what was kept then followed by all that was left then
pub whole_before : (had left : Option (List ℕ)) (old kept part metadata : List ℕ) → kept ≡ old ++ part → Consumes had left part
    → IfSome left (λ bytes. metadata ≡ kept ++ bytes) → IfSome had (λ bytes. metadata ≡ old ++ bytes)
whole_before None left old kept part metadata grown read whole = tt
whole_before (Some x) None old kept part metadata grown read whole = absurd read
whole_before (Some x) (Some y) old kept part metadata grown read whole =
    whole ∙ ap (λ l. l ++ y) grown ∙ append_assoc old part y ∙ ap (λ l. old ++ l) (sym read)
