-- The output of an agent as far as it is kept.
use Rattle.std.specs.Prelude.{◌≡◌, ℕ, ◌++◌, List, Option, true}
use Rattle.std.specs.Io.KnownBytes.{Consumes}
use Rattle.agent_metadata.specs.declared.meta_output.MetaOutput.{MetaOutput}

-- all that was read between two moments was appended: what the stream had left before and after, and what was kept before and after
abbrev pub AddsAll : Option (List ℕ) → Option (List ℕ) → List ℕ → List ℕ → Type 0
AddsAll had left old new = (part : List ℕ) × (new ≡ old ++ part) × Consumes had left part

-- if all that was read is kept, it was kept before too, and what was read in between was appended
abbrev pub KeepsAll : {M : Type 0} → Option (List ℕ) → Option (List ℕ) → MetaOutput M → MetaOutput M → Type 0
KeepsAll had left old new = new.is_whole ≡ true → (old.is_whole ≡ true) × AddsAll had left old.bytes.items new.bytes.items
