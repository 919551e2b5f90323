-- Membership in a list, by recursion on the list.
use Rattle.std.proofs.Common.{◌≡◌, ◌⊎◌, inl, inr, zero, suc, List, [], ◌∷◌, ◌++◌, arith}
use Rattle.std.specs.List.{Contains}

abbrev pub Among : {X : Type 0} → X → List X → Type 0
Among x [] = ⊥
Among x (y ∷ ys) = (y ≡ x) ⊎ Among x ys

pub among : {X : Type 0} (xs : List X) (x : X) → Contains xs x → Among x xs
among [] x (k, h, e) = absurd (omega arith)
among (y ∷ ys) x (zero, h, e) = inl e
among (y ∷ ys) x (suc k, h, e) = inr (among ys x (k, omega arith, e))

pub contained : {X : Type 0} (xs : List X) (x : X) → Among x xs → Contains xs x
contained [] x a = absurd a
contained (y ∷ ys) x (inl e) = (0, omega arith, e)
contained (y ∷ ys) x (inr a) = let c = contained ys x a in (suc c.0, omega (arith, c.1), c.2)

pub among_left : {X : Type 0} (xs ys : List X) (x : X) → Among x xs → Among x (xs ++ ys)
among_left [] ys x a = absurd a
among_left (z ∷ xs) ys x (inl e) = inl e
among_left (z ∷ xs) ys x (inr a) = inr (among_left xs ys x a)

pub among_right : {X : Type 0} (xs ys : List X) (x : X) → Among x ys → Among x (xs ++ ys)
among_right [] ys x a = a
among_right (z ∷ xs) ys x a = inr (among_right xs ys x a)

pub among_cases : {X : Type 0} (xs ys : List X) (x : X) → Among x (xs ++ ys) → Among x xs ⊎ Among x ys
among_cases [] ys x a = inr a
among_cases (z ∷ xs) ys x (inl e) = inl (inl e)
among_cases (z ∷ xs) ys x (inr a) = elim (among_cases xs ys x a) [ inl b ↦ inl (inr b) | inr b ↦ inr b ]
