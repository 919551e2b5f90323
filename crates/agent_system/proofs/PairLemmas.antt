-- Lists of which a relation holds at each pair, and how they are changed.
use Rattle.std.proofs.Common.{◌≡◌, ◌⊎◌, inl, inr, ⊎_elim, ℕ, zero, suc, Bool, true, false, cond, List, [], ◌∷◌, ◌++◌, take, drop, get_or, Contains, refl, sym, ap, subst, ◌∙◌, arith}
use Rattle.std.specs.Prelude.{All, Some, map, slice_get}
use Rattle.std.specs.List.{filter, remove}
use Rattle.std.proofs.lemmas.List.Elements.{All-append, All-cons, All-contains, All-drop, All-filter, All-head, All-nil, All-tail, All-take, All-weaker, Contains-append_cases, Contains-append_right, Contains-push_cases}
use Rattle.std.proofs.lemmas.Option.{slice_get_within}
use Rattle.ocf_types.specs.Lemmas.{some_is}
use Rattle.agent_system.specs.Histories.{AllPairs}
use Rattle.agent_system.specs.SystemView.{changed_at}

module _ {X : Type 0} where
  pub nothing_in : (x : X) → Contains [] x → ⊥
  nothing_in x has = omega (arith, has.1)

  here_in : (x : X) (xs : List X) → Contains (x ∷ xs) x
  here_in x xs = (0, omega arith, refl)

  there_in : (y x : X) (xs : List X) → Contains xs x → Contains (y ∷ xs) x
  there_in y x xs has = Contains-append_right (y ∷ []) xs x has

  pub in_cases : (y x : X) (xs : List X) → Contains (y ∷ xs) x → (y ≡ x) ⊎ Contains xs x
  in_cases y x xs has = ⊎_elim
      (λ here. inl (⊎_elim (λ none. absurd (nothing_in x none)) (λ same. same) (Contains-push_cases [] y x here)))
      inr
      (Contains-append_cases (y ∷ []) xs x has)

  -- an element that passes a test is kept by a filter
  pub passing_is_kept : (test : X → Bool) (xs : List X) (x : X) → test x ≡ true → Contains xs x → Contains (filter test xs) x
  passing_is_kept test [] x passes has = has
  passing_is_kept test (y ∷ ys) x passes has = ⊎_elim
      (λ same. subst (λ (b : Bool). Contains (cond b (y ∷ filter test ys) (filter test ys)) x) (sym (ap test same ∙ passes))
      (subst (Contains (y ∷ filter test ys)) same (here_in y (filter test ys))))
      (λ there. by (test y) (passing_is_kept test ys x passes there))
      (in_cases y x ys has)
    where
      by : (b : Bool) → Contains (filter test ys) x → Contains (cond b (y ∷ filter test ys) (filter test ys)) x
      by true kept = there_in y x (filter test ys) kept
      by false kept = kept

  pub kept_is_of : (test : X → Bool) (xs : List X) (x : X) → Contains (filter test xs) x → Contains xs x
  kept_is_of test [] x has = has
  kept_is_of test (y ∷ ys) x has = by (test y) (λ there. there_in y x ys (kept_is_of test ys x there)) has
    where
      by : (b : Bool) → (Contains (filter test ys) x → Contains (y ∷ ys) x)
          → Contains (cond b (y ∷ filter test ys) (filter test ys)) x → Contains (y ∷ ys) x
      by true rest both =
          ⊎_elim (λ same. subst (Contains (y ∷ ys)) same (here_in y ys)) rest (in_cases y x (filter test ys) both)
      by false rest there = rest there

  -- an element stays when one is removed, unless it is that one
  pub stays_or_removed : (xs : List X) (at : ℕ) (x : X) → Contains xs x → Contains (remove xs at) x ⊎ (slice_get xs at ≡ Some x)
  stays_or_removed [] at x has = absurd (nothing_in x has)
  stays_or_removed (y ∷ ys) zero x has = ⊎_elim (λ same. inr (ap Some same)) inl (in_cases y x ys has)
  stays_or_removed (y ∷ ys) (suc at) x has = ⊎_elim
      (λ same. inl (subst (Contains (y ∷ remove ys at)) same (here_in y (remove ys at))))
      (λ there. ⊎_elim (λ stays. inl (there_in y x (remove ys at) stays)) inr (stays_or_removed ys at x there))
      (in_cases y x ys has)

module _ {X Y : Type 0} (f : X → Y) where
  pub in_map : (xs : List X) (x : X) → Contains xs x → Contains (map f xs) (f x)
  in_map [] x has = absurd (nothing_in x has)
  in_map (y ∷ ys) x has = ⊎_elim
      (λ same. subst (Contains (f y ∷ map f ys)) (ap f same) (here_in (f y) (map f ys)))
      (λ there. there_in (f y) (f x) (map f ys) (in_map ys x there))
      (in_cases y x ys has)

  pub of_map : (xs : List X) (y : Y) → Contains (map f xs) y → (x : X) × Contains xs x × (f x ≡ y)
  of_map [] y has = absurd (nothing_in y has)
  of_map (x ∷ xs) y has = ⊎_elim
      (λ same. (x, here_in x xs, same))
      (λ there. let found = of_map xs y there in (found.0, there_in x found.0 xs found.1, found.2))
      (in_cases (f x) y (map f xs) has)

  pub map_removed : (xs : List X) (at : ℕ) → map f (remove xs at) ≡ remove (map f xs) at
  map_removed [] zero = refl
  map_removed [] (suc at) = refl
  map_removed (x ∷ xs) zero = refl
  map_removed (x ∷ xs) (suc at) = ap (λ l. f x ∷ l) (map_removed xs at)

  -- the element at an index
  pub read_map : (xs : List X) (at : ℕ) (x : X) → slice_get xs at ≡ Some x → Contains xs x × (slice_get (map f xs) at ≡ Some (f x))
  read_map [] at x is = absurd (omega (arith, slice_get_within [] at x is))
  read_map (y ∷ ys) zero x is = let same = some_is y x is in (subst (Contains (y ∷ ys)) same (here_in y ys), ap (λ z. Some (f z)) same)
  read_map (y ∷ ys) (suc at) x is = let found = read_map ys at x is in (there_in y x ys found.0, found.1)

  -- a change of an element that f does not see
  pub map_changed : (change : X → X) → ((x : X) → f (change x) ≡ f x) → (at : ℕ) (xs : List X) → map f (changed_at at change xs) ≡ map f xs
  map_changed change same at [] = refl
  map_changed change same zero (x ∷ xs) = ap (λ y. y ∷ map f xs) (same x)
  map_changed change same (suc at) (x ∷ xs) = ap (λ l. f x ∷ l) (map_changed change same at xs)

module _ {X : Type 0} where
  module _ (R : X → X → Type 0) where
    -- R holds of each pair of two lists, one after the other
    pub record IsParted (xs ys : List X) : Type 0 where
      pub left : AllPairs R xs
      pub right : AllPairs R ys
      pub across : All (λ x. All (R x) ys) xs

    pairs_join : (xs ys : List X) → AllPairs R xs → AllPairs R ys → All (λ x. All (R x) ys) xs → AllPairs R (xs ++ ys)
    pairs_join [] ys left right across = right
    pairs_join (x ∷ xs) ys left right across =
        let all = λ (z : X). All (R z) ys in (
          All-append (R x) xs ys left.0 (All-head all x xs across),
          pairs_join xs ys left.1 right (All-tail all x xs across),
        )

    pub of_parted : (xs ys : List X) → IsParted xs ys → AllPairs R (xs ++ ys)
    of_parted xs ys parted = pairs_join xs ys parted.left parted.right parted.across

    pairs_push : (xs : List X) (p : X) → AllPairs R xs → All (λ q. R q p) xs → AllPairs R (xs ++ p ∷ [])
    pairs_push xs p pairs all =
        pairs_join xs (p ∷ []) pairs (All-nil (R p), tt) (All-weaker (λ q. R q p) (λ q. All (R q) (p ∷ [])) (λ q r. All-cons (R q) p [] r (All-nil (R q))) xs all)

    pub push_left : (xs ys : List X) (p : X) → All (λ q. R q p) xs → All (R p) ys → IsParted xs ys → IsParted (xs ++ p ∷ []) ys
    push_left xs ys p before after parted = record {
      left = pairs_push xs p parted.left before;
      right = parted.right;
      across = All-append (λ x. All (R x) ys) xs (p ∷ []) parted.across (All-cons (λ x. All (R x) ys) p [] after (All-nil (λ x. All (R x) ys)));
    }

    both_pushed : (xs ys : List X) (p : X) → All (λ q. R q p) xs → All (λ x. All (R x) ys) xs → All (λ x. All (R x) (ys ++ p ∷ [])) xs
    both_pushed xs ys p before across k d lt =
        All-append (R (get_or xs k d)) ys (p ∷ []) (across k d lt) (All-cons (R (get_or xs k d)) p [] (before k d lt) (All-nil (R (get_or xs k d))))

    pub push_right : (xs ys : List X) (p : X) → All (λ q. R q p) xs → All (λ q. R q p) ys → IsParted xs ys → IsParted xs (ys ++ p ∷ [])
    push_right xs ys p before after parted = record {
      left = parted.left;
      right = pairs_push ys p parted.right after;
      across = both_pushed xs ys p before parted.across;
    }

    pairs_filter : (test : X → Bool) (xs : List X) → AllPairs R xs → AllPairs R (filter test xs)
    pairs_filter test [] pairs = tt
    pairs_filter test (x ∷ xs) pairs = by (test x) (pairs_filter test xs pairs.1)
      where
        by : (b : Bool) → AllPairs R (filter test xs) → AllPairs R (cond b (x ∷ filter test xs) (filter test xs))
        by true rest = (All-filter test (R x) xs pairs.0, rest)
        by false rest = rest

    pub filter_left : (test : X → Bool) (xs ys : List X) → IsParted xs ys → IsParted (filter test xs) ys
    filter_left test xs ys parted = record {
      left = pairs_filter test xs parted.left;
      right = parted.right;
      across = All-filter test (λ x. All (R x) ys) xs parted.across;
    }

    all_removed : (P : X → Type 0) (ys : List X) (at : ℕ) → All P ys → All P (remove ys at)
    all_removed P ys at all = All-append P (take at ys) (drop (suc at) ys) (All-take P at ys all) (All-drop P (suc at) ys all)

    pairs_removed : (ys : List X) (at : ℕ) → AllPairs R ys → AllPairs R (remove ys at)
    pairs_removed [] zero pairs = tt
    pairs_removed [] (suc at) pairs = tt
    pairs_removed (y ∷ ys) zero pairs = pairs.1
    pairs_removed (y ∷ ys) (suc at) pairs = (all_removed (R y) ys at pairs.0, pairs_removed ys at pairs.1)

    pub remove_right : (xs ys : List X) (at : ℕ) → IsParted xs ys → IsParted xs (remove ys at)
    remove_right xs ys at parted = record {
      left = parted.left;
      right = pairs_removed ys at parted.right;
      across = All-weaker (λ x. All (R x) ys) (λ x. All (R x) (remove ys at)) (λ x. all_removed (R x) ys at) xs parted.across;
    }

    -- the elements that pass a test that one of them does not pass
    others_of : ((x y : X) → R x y → R y x) → (test : X → Bool) (xs : List X) (p : X)
        → AllPairs R xs → Contains xs p → test p ≡ false → All (λ q. R q p) (filter test xs)
    others_of turned test [] p pairs has fails = All-nil (λ q. R q p)
    others_of turned test (x ∷ xs) p pairs has fails = ⊎_elim
        (λ same. subst (λ (b : Bool). All (λ q. R q p) (cond b (x ∷ filter test xs) (filter test xs))) (sym (ap test same ∙ fails)) (All-filter test (λ q. R q p) xs (All-weaker (R x) (λ q. R q p) (λ q r. turned p q (subst (λ z. R z q) same r)) xs pairs.0)))
        (λ there. by (test x) (All-contains (R x) xs p pairs.0 there) (others_of turned test xs p pairs.1 there fails))
        (in_cases x p xs has)
      where
        by : (b : Bool) → R x p → All (λ q. R q p) (filter test xs) → All (λ q. R q p) (cond b (x ∷ filter test xs) (filter test xs))
        by true r all = All-cons (λ q. R q p) x (filter test xs) r all
        by false r all = all

    -- an element of the left list goes to the end of the right one
    pub move_right : ((x y : X) → R x y → R y x) → (test : X → Bool) (xs ys : List X) (p : X)
        → Contains xs p → test p ≡ false → IsParted xs ys → IsParted (filter test xs) (ys ++ p ∷ [])
    move_right turned test xs ys p has fails parted =
        push_right (filter test xs) ys p (others_of turned test xs p parted.left has fails)
        (All-weaker (R p) (λ q. R q p) (turned p) ys (All-contains (λ x. All (R x) ys) xs p parted.across has))
        (filter_left test xs ys parted)

  pairs_weaker : (R S : X → X → Type 0) → ((x y : X) → R x y → S x y) → (xs : List X) → AllPairs R xs → AllPairs S xs
  pairs_weaker R S f [] pairs = tt
  pairs_weaker R S f (x ∷ xs) pairs = (All-weaker (R x) (S x) (f x) xs pairs.0, pairs_weaker R S f xs pairs.1)

  pub parted_weaker : (R S : X → X → Type 0) → ((x y : X) → R x y → S x y) → (xs ys : List X) → IsParted R xs ys → IsParted S xs ys
  parted_weaker R S f xs ys parted = record {
    left = pairs_weaker R S f xs parted.left;
    right = pairs_weaker R S f ys parted.right;
    across = All-weaker (λ x. All (R x) ys) (λ x. All (S x) ys) (λ x. All-weaker (R x) (S x) (f x) ys) xs parted.across;
  }
