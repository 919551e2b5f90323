-- Keys that occur twice.
use Rattle.std.specs.Prelude.{ℕ, List, IsSomeAnd}
use Rattle.std.specs.Str.{IsUtf8}
use Rattle.json.specs.Json.{document}
use Rattle.json.specs.Strict.{HasUniqueKeys}

-- A JSON text in which an object, at whatever depth, has a key twice. Keys are compared after unescaping. RFC 8259, section 4, leaves
-- open what is done with such a text.
abbrev pub HasKeyTwice : List ℕ → Type 0
HasKeyTwice bytes = IsUtf8 bytes × IsSomeAnd (document bytes) (λ j. ¬ (HasUniqueKeys j))
