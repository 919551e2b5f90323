-- Lemmas on a ring of the last n elements of a list that grows at its end.
use Rattle.std.proofs.Common.{◌≡◌, ℕ, ◌+◌, ◌-◌, ◌<◌, ◌≤◌, List, [], ◌∷◌, ◌++◌, length, map, take, drop, get_or, refl, sym, ap, ◌∙◌, arith}
use Rattle.std.proofs.Common.{length-append, length-drop, append_assoc}
use Rattle.std.proofs.lemmas.List.{drop-append-le, drop-drop, map_more, take_more}
use Rattle.circular_buffer.specs.Buffer.{Buffer, buffer, keep_last}

module _ {X : Type 0} (n : ℕ) where
  -- keeping the last elements before and after an append is keeping them after it
  pub keep_last-append : (xs ys : List X) → keep_last n (keep_last n xs ++ ys) ≡ keep_last n (xs ++ ys)
  keep_last-append xs ys =
      let k : ℕ = length xs - n in
      let prefix : keep_last n xs ++ ys ≡ drop k (xs ++ ys) = sym (drop-append-le k xs ys (omega arith)) in
      let size : length (keep_last n xs ++ ys) - n + k ≡ length (xs ++ ys) - n
      = omega (arith, length-append (drop k xs) ys, length-append xs ys, length-drop k xs) in
      ap (λ zs. drop (length (keep_last n xs ++ ys) - n) zs) prefix
      ∙ drop-drop (length (keep_last n xs ++ ys) - n) k (xs ++ ys)
      ∙ ap (λ m. drop m (xs ++ ys)) (omega (arith, size))

  -- a ring of the last elements of a list and of the images of i items, then with the image of the next item
  pub buffer_more : {Y : Type 0} (f : Y → X) (xs : List X) (ys : List Y) (i : ℕ) (y : Y) (x : X) (ring new : Buffer X) →
      i < length ys → y ≡ get_or ys i y → x ≡ f y →
      ring ≡ buffer (keep_last n (xs ++ map f (take i ys))) n →
      new ≡ buffer (keep_last ring.capacity (ring.items ++ x ∷ [])) ring.capacity →
      new ≡ buffer (keep_last n (xs ++ map f (take (i + 1) ys))) n
  buffer_more f xs ys i y x ring new within item image so_far pushed =
      let more : map f (take (i + 1) ys) ≡ map f (take i ys) ++ f y ∷ [] = rw (← item) at (map_more f ys i y within) in
      let last : keep_last n (keep_last n (xs ++ map f (take i ys)) ++ f y ∷ []) ≡ keep_last n (xs ++ map f (take i ys) ++ f y ∷ [])
      = keep_last-append (xs ++ map f (take i ys)) (f y ∷ []) in
      rw (pushed, so_far, image, more, last, append_assoc xs (map f (take i ys)) (f y ∷ [])) refl

  -- the same for the items themselves
  pub buffer_more_same : (xs ys : List X) (i : ℕ) (y : X) (ring new : Buffer X) →
      i < length ys → y ≡ get_or ys i y →
      ring ≡ buffer (keep_last n (xs ++ take i ys)) n →
      new ≡ buffer (keep_last ring.capacity (ring.items ++ y ∷ [])) ring.capacity →
      new ≡ buffer (keep_last n (xs ++ take (i + 1) ys)) n
  buffer_more_same xs ys i y ring new within item so_far pushed =
      let more : take (i + 1) ys ≡ take i ys ++ y ∷ [] = rw (← item) at (take_more ys i y within) in
      let last : keep_last n (keep_last n (xs ++ take i ys) ++ y ∷ []) ≡ keep_last n (xs ++ take i ys ++ y ∷ [])
      = keep_last-append (xs ++ take i ys) (y ∷ []) in
      rw (pushed, so_far, more, last, append_assoc xs (take i ys) (y ∷ [])) refl

-- a list that is no longer than the ring is kept whole
pub kept_whole : {X : Type 0} (n : ℕ) (xs : List X) → length xs ≤ n → drop (length xs - n) xs ≡ xs
kept_whole n xs h = let none : length xs - n ≡ 0 = omega (arith, h) in ap (λ m. drop m xs) none
