-- Lemmas on the tournament tree: a recomputed node is correct, and the root has the first of all moments.
use Rattle.std.proofs.Common.{◌≡◌, ◌≢◌, ℕ, zero, suc, ◌+◌, ◌-◌, ◌*◌, ◌/◌, ◌<◌, ◌≤◌, min, List, [], ◌++◌, length, get_or, set, take, drop, remove, Option, Some, None}
use Rattle.std.proofs.Common.{MatchOption, Contains, ◌⊎◌, inl, inr, refl, sym, ap, subst, ◌∙◌, arith}
use Rattle.std.specs.Prelude.{⊤}
use Rattle.std.proofs.lemmas.Bool.{cases_eq, cases_lt}
use Rattle.std.proofs.lemmas.List.{get_or-set_same, get_or-set_other, get_or-drop, get_or_default, length-drop, length-take-le, drop-drop, take-append-drop, drop_at, with_items_is}
use Rattle.std.proofs.lemmas.List.Edits.{remove-append_right}
use Rattle.std.specs.Prelude.{Vec}
use Rattle.std.specs.Vec.{with_items}
use Rattle.recurring.specs.FirstMoments.{earlier, IsFirstOf, IsNotAfter, IsWon, IsTournament}

-- the nodes after one of them is recomputed
abbrev pub played : List (Option ℕ) → ℕ → List (Option ℕ)
played xs p = set xs p (earlier (get_or xs (2 * p) None) (get_or xs (2 * p + 1) None))

-- the recomputed node is correct, and only its parent may cease to be
won-played_here : (xs : List (Option ℕ)) (p : ℕ) → 1 ≤ p → p < length xs → IsWon (played xs p) p
won-played_here xs p low high =
    let v = earlier (get_or xs (2 * p) None) (get_or xs (2 * p + 1) None) in
    rw (get_or-set_same xs p v None high, get_or-set_other xs p (2 * p) v None (λ e. omega (arith, e)), get_or-set_other xs p (2 * p + 1) v None (λ e. omega (arith, e))) refl

won-played_other : (xs : List (Option ℕ)) (p i : ℕ) → i ≢ p → 2 * i ≢ p → 2 * i + 1 ≢ p → IsWon xs i → IsWon (played xs p) i
won-played_other xs p i a b c won =
    let v = earlier (get_or xs (2 * p) None) (get_or xs (2 * p + 1) None) in
    rw (get_or-set_other xs p i v None a, get_or-set_other xs p (2 * i) v None b, get_or-set_other xs p (2 * i + 1) v None c) won

-- one step up from a changed node
pub won-climbed : (xs : List (Option ℕ)) (n node : ℕ) → 1 < node → node < 2 * n → length xs ≡ 2 * n
    → ((i : ℕ) → 1 ≤ i → i < n → i ≢ node / 2 → IsWon xs i)
    → (i : ℕ) → 1 ≤ i → i < n → i ≢ node / 2 / 2 → IsWon (played xs (node / 2)) i
won-climbed xs n node above within long won i low high other = by (cases_eq i (node / 2))
  where
    by : (i ≡ node / 2) ⊎ (i ≡ node / 2 → ⊥) → IsWon (played xs (node / 2)) i
    by (inl e) = rw e (won-played_here xs (node / 2) (omega arith) (omega arith))
    by (inr ne) =
        won-played_other xs (node / 2) i ne (λ e. other (omega (arith, e))) (λ e. other (omega (arith, e))) (won i low high ne)

-- one more node computed, from the last one to the root
pub won-laid : (xs : List (Option ℕ)) (n p : ℕ) → 1 ≤ p → p < n → length xs ≡ 2 * n
    → ((i : ℕ) → p + 1 ≤ i → i < n → IsWon xs i) → (i : ℕ) → p ≤ i → i < n → IsWon (played xs p) i
won-laid xs n p low within long won i from high = by (cases_eq i p)
  where
    by : (i ≡ p) ⊎ (i ≡ p → ⊥) → IsWon (played xs p) i
    by (inl e) = rw e (won-played_here xs p low (omega arith))
    by (inr ne) = by_far (cases_lt p i)
      where
        by_far : (p < i) ⊎ (i ≤ p) → IsWon (played xs p) i
        by_far (inl lt) =
            won-played_other xs p i ne (λ e. omega (arith, e, lt)) (λ e. omega (arith, e, lt)) (won i (omega (arith, lt)) high)
        by_far (inr le) = absurd (ne (omega (arith, le, from)))

-- a change of a leaf
pub won-changed : (xs : List (Option ℕ)) (n k : ℕ) (v : Option ℕ) → n ≤ k → IsTournament n xs
    → (i : ℕ) → 1 ≤ i → i < n → i ≢ k / 2 → IsWon (set xs k v) i
won-changed xs n k v le all i low high other =
    rw (
      get_or-set_other xs k i v None (λ e. omega (arith, e)),
      get_or-set_other xs k (2 * i) v None (λ e. other (omega (arith, e))),
      get_or-set_other xs k (2 * i + 1) v None (λ e. other (omega (arith, e))),
    ) (all.won i low high)

-- the earlier of two moments is one of them, and later than neither
earlier_is : (a b : Option ℕ) → (earlier a b ≡ a) ⊎ (earlier a b ≡ b)
earlier_is None b = inr refl
earlier_is (Some a) None = inl refl
earlier_is (Some a) (Some b) = by (cases_lt a b)
  where
    by : (a < b) ⊎ (b ≤ a) → (Some (min a b) ≡ Some a) ⊎ (Some (min a b) ≡ Some b)
    by (inl lt) = inl (let e : min a b ≡ a = omega (arith, lt) in ap Some e)
    by (inr le) = inr (let e : min a b ≡ b = omega (arith, le) in ap Some e)

not_after_both : (r a b : Option ℕ) → IsNotAfter r (earlier a b) → IsNotAfter r a × IsNotAfter r b
not_after_both r None b h = (tt, h)
not_after_both r (Some a) None h = (h, tt)
not_after_both None (Some a) (Some b) h = absurd h
not_after_both (Some m) (Some a) (Some b) h = let le : m ≤ min a b = h in (omega (arith, le), omega (arith, le))

not_after_itself : (r : Option ℕ) → IsNotAfter r r
not_after_itself None = tt
not_after_itself (Some m) = omega arith

-- a number that is not twice its half is twice it plus one
odd : (i : ℕ) → (i ≡ 2 * (i / 2) → ⊥) → i ≡ 2 * (i / 2) + 1
odd i ne = omega (arith, ne)

-- a leaf that has the moment of node i
abbrev IndexOf : ℕ → List (Option ℕ) → ℕ → Type 0
IndexOf n xs i = (k : ℕ) × (n ≤ k) × (k < 2 * n) × (get_or xs k None ≡ get_or xs i None)

module _ (n : ℕ) (xs : List (Option ℕ)) (all : IsTournament n xs) where
  -- a moment that is not after a node's is not after those below it
  under : (r : Option ℕ) (i : ℕ) → 1 < i → i < 2 * n → IsNotAfter r (get_or xs (i / 2) None) → IsNotAfter r (get_or xs i None)
  under r i lt high h = by (cases_eq i (2 * (i / 2)))
    where
      won : IsWon xs (i / 2)
      won = all.won (i / 2) (omega (arith, lt)) (omega (arith, high))

      both : IsNotAfter r (get_or xs (2 * (i / 2)) None) × IsNotAfter r (get_or xs (2 * (i / 2) + 1) None)
      both = not_after_both r (get_or xs (2 * (i / 2)) None) (get_or xs (2 * (i / 2) + 1) None) (subst (IsNotAfter r) won h)

      by : (i ≡ 2 * (i / 2)) ⊎ (i ≡ 2 * (i / 2) → ⊥) → IsNotAfter r (get_or xs i None)
      by (inl e) = subst (λ (k : ℕ). IsNotAfter r (get_or xs k None)) (sym e) both.0
      by (inr ne) = subst (λ (k : ℕ). IsNotAfter r (get_or xs k None)) (sym (odd i ne)) both.1

  -- the root is after no other node
  not_after : (b i : ℕ) → i ≤ b → 1 ≤ i → i < 2 * n → IsNotAfter (get_or xs 1 None) (get_or xs i None)
  not_after zero i le low high = absurd (omega (arith, le, low))
  not_after (suc b) i le low high = by (not_after b) (cases_lt 1 i)
    where
      by : ((j : ℕ) → j ≤ b → 1 ≤ j → j < 2 * n → IsNotAfter (get_or xs 1 None) (get_or xs j None)) → (1 < i) ⊎ (i ≤ 1)
          → IsNotAfter (get_or xs 1 None) (get_or xs i None)
      by before (inl lt) =
          under (get_or xs 1 None) i lt high (before (i / 2) (omega (arith, lt, le)) (omega (arith, lt)) (omega (arith, high)))
      by before (inr one) =
          let e : i ≡ 1 = omega (arith, one, low) in
          subst (λ (k : ℕ). IsNotAfter (get_or xs 1 None) (get_or xs k None)) (sym e) (not_after_itself (get_or xs 1 None))

  -- a node has the moment of some leaf
  has_index : (fuel i : ℕ) → 2 * n ≤ i + fuel → 1 ≤ i → i < 2 * n → IndexOf n xs i
  has_index zero i enough low high = absurd (omega (arith, enough, high))
  has_index (suc fuel) i enough low high = by (has_index fuel) (cases_lt i n)
    where
      from : ((j : ℕ) → 2 * n ≤ j + fuel → 1 ≤ j → j < 2 * n → IndexOf n xs j) → (j : ℕ) → i < j → j < 2 * n
          → get_or xs i None ≡ get_or xs j None → IndexOf n xs i
      from below j above within same =
          let there = below j (omega (arith, enough, above)) (omega (arith, above)) within in (there.0, there.1, there.2, there.3 ∙ sym same)

      which : ((j : ℕ) → 2 * n ≤ j + fuel → 1 ≤ j → j < 2 * n → IndexOf n xs j) → i < n
          → (earlier (get_or xs (2 * i) None) (get_or xs (2 * i + 1) None) ≡ get_or xs (2 * i) None)
          ⊎ (earlier (get_or xs (2 * i) None) (get_or xs (2 * i + 1) None) ≡ get_or xs (2 * i + 1) None) → IndexOf n xs i
      which below lt (inl e) = from below (2 * i) (omega (arith, low)) (omega (arith, lt)) (all.won i low lt ∙ e)
      which below lt (inr e) = from below (2 * i + 1) (omega (arith, low)) (omega (arith, lt)) (all.won i low lt ∙ e)

      by : ((j : ℕ) → 2 * n ≤ j + fuel → 1 ≤ j → j < 2 * n → IndexOf n xs j) → (i < n) ⊎ (n ≤ i) → IndexOf n xs i
      by below (inr le) = (i, le, high, refl)
      by below (inl lt) = which below lt (earlier_is (get_or xs (2 * i) None) (get_or xs (2 * i + 1) None))

  -- the root has the first moment of the leaves
  pub first_node : 0 < n → IsFirstOf (drop n xs) (get_or xs 1 None)
  first_node some = record { one = one (get_or xs 1 None) refl; least = least }
    where
      least : (k : ℕ) (d : Option ℕ) → k < length (drop n xs) → IsNotAfter (get_or xs 1 None) (get_or (drop n xs) k d)
      least k d lt =
          let inside = rw (length-drop n xs) at lt in
          let within : n + k < 2 * n = omega (arith, inside, all.long) in
          let here : get_or (drop n xs) k d ≡ get_or xs (n + k) None = get_or-drop n xs k d ∙ get_or_default xs (n + k) d None (omega (arith, within, all.long)) in
          rw here (not_after (n + k) (n + k) (omega arith) (omega (arith, some)) within)

      one : (r : Option ℕ) → get_or xs 1 None ≡ r → MatchOption r ⊤ (λ m. Contains (drop n xs) (Some m))
      one None is = tt
      one (Some m) is =
          let there = has_index (2 * n) 1 (omega arith) (omega arith) (omega (arith, some)) in
          let k = there.0 in
          let within : k - n < length (drop n xs) = rw (length-drop n xs) (omega (arith, there.1, there.2, all.long)) in
          let at : n + (k - n) ≡ k = omega (arith, there.1) in (
            k - n,
            within,
            get_or-drop n xs (k - n) (Some m) ∙ ap (λ (j : ℕ). get_or xs j (Some m)) at
                ∙ get_or_default xs k (Some m) None (omega (arith, there.2, all.long)) ∙ there.3 ∙ is,
          )

-- the first of no moments is `None`
pub no_first : (n : ℕ) (xs : List (Option ℕ)) → IsTournament n xs → n ≡ 0 → IsFirstOf (drop n xs) None
no_first n xs all none = record { one = tt; least = λ k d lt. absurd (let inside = rw (length-drop n xs) at lt in omega (arith, inside, all.long, none)) }

-- the number of leaves
pub length-leaves : (n : ℕ) (xs : List (Option ℕ)) → length xs ≡ 2 * n → length (drop n xs) ≡ n
length-leaves n xs long = rw (length-drop n xs) (omega (arith, long))

-- the nodes without node 0 and a leaf
pub leaves-removed : (xs : List (Option ℕ)) (n k : ℕ) → 0 < n → length xs ≡ 2 * n → k < n
    → drop (n - 1) (remove (remove xs (n + k)) 0) ≡ remove (drop n xs) k
leaves-removed xs n k some long within =
    let ys = remove xs (n + k) in
    let prefix : length (take n xs) ≡ n = length-take-le n xs (omega (arith, long)) in
    let zero_out : drop (n - 1) (drop 1 ys) ≡ drop n ys = drop-drop (n - 1) 1 ys ∙ ap (λ (j : ℕ). drop j ys) (let e : 1 + (n - 1) ≡ n = omega (arith, some) in e) in
    let split : ys ≡ take n xs ++ remove (drop n xs) (n + k - n)
    = ap (λ (zs : List (Option ℕ)). remove zs (n + k)) (sym (take-append-drop n xs)) ∙ remove-append_right (take n xs) (drop n xs) n (n + k) prefix (omega arith) in
    zero_out ∙ ap (drop n) split ∙ drop_at (take n xs) (remove (drop n xs) (n + k - n)) n prefix
    ∙ ap (remove (drop n xs)) (let e : n + k - n ≡ k = omega arith in e)

-- no nodes are the tree of no moments
pub no_nodes : IsTournament 0 []
no_nodes = record { long = refl; won = λ i low high. absurd (omega (arith, high)) }

-- the vector after a tree is written over its elements
pub items_of_slice : {Z : Type 0} (v : Vec (Option ℕ) Z) (ws : List (Option ℕ)) (n : ℕ) → length v.items ≡ 2 * n → IsTournament n ws
    → (with_items v ws).items ≡ ws
items_of_slice v ws n long all = with_items_is v ws (let size : length ws ≡ v.len = omega (arith, all.long, v.ok.0, long) in size)
