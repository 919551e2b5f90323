-- Lemmas on options, and on prefixes of a list.
use Rattle.std.proofs.Common.{◌≡◌, ℕ, zero, suc, ◌+◌, ◌++◌, map, take, slice_get, List, [], ◌∷◌, Option, Some, None, refl, ap, arith}
use Rattle.std.specs.Option.{option_map}
use Rattle.std.proofs.lemmas.List.{map-append}
use Rattle.recurring.specs.declared.monitor.Monitor.{Monitor}
use Rattle.recurring.specs.Monitors.{recurs, restarted, all_due_at, monitor_due_at}

-- an option is `None` if its image is
pub none_before : {A B : Type 0} (f : A → B) (o : Option A) → option_map f o ≡ None → o ≡ None
none_before f (Some x) h = cc
none_before f None h = refl

-- monitors that are made due are due
pub restarted_recurs : (at : ℕ) (ms : List Monitor) → restarted at ms ≡ all_due_at at (recurs ms)
restarted_recurs at [] = refl
restarted_recurs at (m ∷ ms) = ap (λ (xs : List Monitor). monitor_due_at at m.recur ∷ xs) (restarted_recurs at ms)

-- the successor of a number
plus_one : (i : ℕ) → i + 1 ≡ suc i
plus_one i = omega arith

-- a prefix that is one element longer
take_suc_some : {A : Type 0} (xs : List A) (i : ℕ) (x : A) → slice_get xs i ≡ Some x → take (suc i) xs ≡ take i xs ++ x ∷ []
take_suc_some [] i x at = absurd (let none : None ≡ Some x = at in cc)
take_suc_some (y ∷ ys) zero x at =
    let here : Some y ≡ Some x = at in
    let same : y ≡ x = cc in
    rw same refl
take_suc_some {A = A} (y ∷ ys) (suc i) x at = ap (λ (zs : List A). y ∷ zs) (take_suc_some ys i x at)

pub take_more_some : {A : Type 0} (xs : List A) (i : ℕ) (x : A) → slice_get xs i ≡ Some x → take (i + 1) xs ≡ take i xs ++ x ∷ []
take_more_some xs i x at = rw (plus_one i) (take_suc_some xs i x at)

-- the images of a prefix that is one element longer
pub map_more_some : {A B : Type 0} (f : A → B) (xs : List A) (i : ℕ) (x : A) → slice_get xs i ≡ Some x
    → map f (take (i + 1) xs) ≡ map f (take i xs) ++ f x ∷ []
map_more_some f xs i x at = rw (take_more_some xs i x at) (map-append f (take i xs) (x ∷ []))
