-- A buffer that is filled up to its end.
use Rattle.std.proofs.Common.{◌≡◌, ℕ, ◌+◌, ◌-◌, ◌≤◌, min, List, [], ◌++◌, length, take, take_all, append-nil, ap, sym, ◌∙◌, arith}
use lib.Seq.{take-append-add}
use Rattle.std.proofs.lemmas.List.{take_min}

-- the bytes that are appended are cut at the capacity
pub appended : (old part new : List ℕ) (n : ℕ) → length old ≤ 131073 → n ≡ min (length part) (131073 - length old)
    → new ≡ old ++ take n part → new ≡ take 131073 (old ++ part)
appended old part new n fits is grown =
    let room = 131073 - length old in
    let same : n ≡ min room (length part) = omega (arith, is) in
    let total : length old + room ≡ 131073 = omega (arith, fits) in
    grown ∙ ap (λ l. old ++ l) (ap (λ k. take k part) same ∙ take_min room part) ∙ sym (take-append-add old part room)
    ∙ ap (λ k. take k (old ++ part)) total

-- no bytes are appended
pub held : (old : List ℕ) → length old ≤ 131073 → old ≡ take 131073 (old ++ [])
held old fits = sym (ap (take 131073) (append-nil old) ∙ take_all 131073 old fits)
