-- Lines with a mask of signals.
use Rattle.std.proofs.Common.{◌≡◌, ◌∙◌, ℕ, zero, suc, ◌<◌, ◌≤◌, ◌^◌, List, [], ◌∷◌, ◌++◌, take, ap, sym, subst, arith}
use Rattle.std.specs.Prelude.{codes}
use Rattle.std.specs.Char.{digit_value}
use Rattle.std.specs.Str.{IsAscii, IsUtf8}
use Rattle.std.specs.Str.Parse.{AllDigits, IsNumeral, digits_value}
use Rattle.std.proofs.lemmas.Bool.Decides.{nat_tests}
use Rattle.std.proofs.lemmas.List.{append_cancel_left}
use Rattle.std.proofs.lemmas.Str.{IsUtf8-from_ascii}
use Rattle.std.proofs.Math.Seq.{take-append_seam}
use Rattle.proc_files.specs.Signals.{BeginsWithBit, IsMaskLine}

-- the digits of such a line are the first sixteen after its key
pub line_digits : (text value : List ℕ) (mask : ℕ) → text ≡ codes "SigIgn:\t" ++ value → (line : IsMaskLine text mask)
    → take 16 value ≡ line.digits
line_digits text value mask is line =
    let same : value ≡ line.digits ++ 10 ∷ line.rest =
    append_cancel_left (codes "SigIgn:\t") value (line.digits ++ 10 ∷ line.rest) (sym is ∙ line.is) in
    ap (take 16) same
    ∙ subst (λ n. take n (line.digits ++ 10 ∷ line.rest) ≡ line.digits) line.sixteen (take-append_seam line.digits (10 ∷ line.rest))

-- a text begins with one mask at most
pub same_mask : (text : List ℕ) (m n : ℕ) → IsMaskLine text m → IsMaskLine text n → m ≡ n
same_mask text m n a b =
    let value = a.digits ++ 10 ∷ a.rest in
    sym a.value ∙ ap (digits_value 16) (sym (line_digits text value m a.is a) ∙ line_digits text value n a.is b) ∙ b.value

-- if the digits are not a number that fits, there is no mask
pub no_mask : (text value prefix : List ℕ) → text ≡ codes "SigIgn:\t" ++ value → prefix ≡ take 16 value
    → (IsNumeral 16 prefix → 2 ^ 64 ≤ digits_value 16 prefix) → (mask : ℕ) → IsMaskLine text mask → ⊥
no_mask text value prefix is cut big mask line =
    let same : prefix ≡ line.digits = cut ∙ line_digits text value mask is line in
    let large : 2 ^ 64 ≤ digits_value 16 line.digits =
    subst (λ d. 2 ^ 64 ≤ digits_value 16 d) same (big (subst (IsNumeral 16) (sym same) line.numeral)) in
    omega (arith, large, line.value, line.fits)

pub no_line : (signal : ℕ) → BeginsWithBit signal [] → ⊥
no_line signal (mask, line, has) = let never : [] ≡ (codes "SigIgn:\t" ++ line.digits) ++ 10 ∷ line.rest = line.is in cc

-- hexadecimal digits are ASCII
digit_ascii : (c : ℕ) → digit_value c < 16 → c < 128
digit_ascii c h = grind (arith, nat_tests)

digits_ascii : (ds : List ℕ) → AllDigits 16 ds → IsAscii ds
digits_ascii [] h i = omega arith
digits_ascii (c ∷ cs) h zero = digit_ascii c h.0
digits_ascii (c ∷ cs) h (suc i) = digits_ascii cs h.1 i

pub numeral_utf8 : (ds : List ℕ) → IsNumeral 16 ds → IsUtf8 ds
numeral_utf8 ds h = IsUtf8-from_ascii ds (digits_ascii ds h.1)
