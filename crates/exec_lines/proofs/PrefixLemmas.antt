-- The contents of a writer after a prefix of the bytes was written.
use Rattle.std.proofs.Common.{◌≡◌, ℕ, ◌+◌, ◌-◌, ◌≤◌, List, Option, length, take, take_all, drop, sym, subst, take-append-drop, length-drop, arith}
use Rattle.std.proofs.Math.Seq.{take-add}
use Rattle.std.proofs.KnownBytes.{Appends-trans}
use Rattle.std.specs.Io.KnownBytes.{Appends}
use Rattle.exec_lines.specs.Prefixes.{AppendsPrefix}

-- the first n bytes are a prefix
pub prefix_taken : (a b : Option (List ℕ)) (bytes : List ℕ) (n : ℕ) → Appends a b (take n bytes) → AppendsPrefix a b bytes
prefix_taken a b bytes n written =
    record { prefix = take n bytes; rest = drop n bytes; parts = sym (take-append-drop n bytes); written = written }

-- the bytes from the nth on
rest_is : (bytes : List ℕ) (n : ℕ) → take (length bytes - n) (drop n bytes) ≡ drop n bytes
rest_is bytes n = take_all (length bytes - n) (drop n bytes) (search (arith, length-drop))

-- m more of them
pub taken_more : (a b c : Option (List ℕ)) (bytes : List ℕ) (n m : ℕ) → n ≤ length bytes → Appends a b (take n bytes)
    → m ≤ length (take (length bytes - n) (drop n bytes)) → Appends b c (take m (take (length bytes - n) (drop n bytes)))
    → (n + m ≤ length bytes) × Appends a c (take (n + m) bytes)
taken_more a b c bytes n m within written fits more =
    let short = subst (λ (l : List ℕ). m ≤ length l) (rest_is bytes n) fits in (
      omega (arith, length-drop n bytes, short),
      subst (Appends a c) (sym (take-add n m bytes))
          (Appends-trans a b c _ _ written (subst (λ (l : List ℕ). Appends b c (take m l)) (rest_is bytes n) more)),
    )
