-- Which signals a process ignores: proc(5), status, SigIgn.
use Rattle.std.specs.Prelude.{◌≡◌, ℕ, ◌/◌, ◌%◌, ◌^◌, ◌-◌, ◌<◌, ◌≤◌, List, ◌∷◌, ◌++◌, codes, length}
use Rattle.std.specs.Str.Parse.{IsNumeral, digits_value}
use Rattle.proc_files.specs.Pieces.{After}

-- a text begins with a line that gives this mask of ignored signals, in sixteen hexadecimal digits
pub record IsMaskLine (text : List ℕ) (mask : ℕ) : Type 0 where
  pub digits : List ℕ
  pub rest : List ℕ
  pub is : text ≡ codes "SigIgn:\t" ++ digits ++ 10 ∷ rest
  pub sixteen : length digits ≡ 16
  pub numeral : IsNumeral 16 digits
  pub value : digits_value 16 digits ≡ mask
  pub fits : mask < 2 ^ 64

-- a mask has the bit of a signal, from 1 to 64; signal 1 has the lowest bit
abbrev pub HasBit : ℕ → ℕ → Type 0
HasBit mask signal = (1 ≤ signal) × (signal ≤ 64) × (mask / 2 ^ (signal - 1) % 2 ≡ 1)

-- a text begins with a line that gives a mask with the signal's bit
abbrev pub BeginsWithBit : ℕ → List ℕ → Type 0
BeginsWithBit signal text = (mask : ℕ) × IsMaskLine text mask × HasBit mask signal

-- one line of the text gives a mask with the signal's bit
abbrev pub IsIgnored : List ℕ → ℕ → Type 0
IsIgnored status signal = After 10 (BeginsWithBit signal) status
