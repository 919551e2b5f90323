-- One byte more, and one offset more.
use Rattle.std.proofs.Common.{arith, ◌≡◌, ℕ, zero, suc, ◌+◌, ◌<◌, ◌++◌, true, false, List, [], ◌∷◌, Option, Some, None, length, take, filter, get_or, slice_index, refl, sym, ap, ◌∙◌}
use Rattle.std.proofs.lemmas.List.{append-nil, append_assoc}
use Rattle.std.proofs.lemmas.List.Elements.{filter-append}
use Rattle.std.proofs.lemmas.Grind.{get_or_default_zero}
use Rattle.std.specs.List.{flat_map, last_or, range_with_len}
use Rattle.ocf_types.specs.Lemmas.{flat_more}
use Rattle.agent_logs.specs.Reasons.{is_reason_at, last_of}
use Rattle.agent_logs.specs.declared.tail.Tail.{Tail}

-- one byte more
pub byte_more : (f : ℕ → List ℕ) (bs : List ℕ) (i : ℕ) (prefix now : List ℕ) → i < length bs → now ≡ prefix ++ flat_map f (take i bs)
    → now ++ f (slice_index bs i) ≡ prefix ++ flat_map f (take (i + 1) bs)
byte_more f bs i prefix now lt is =
    ap (λ t. t ++ f (slice_index bs i)) is ∙ append_assoc prefix (flat_map f (take i bs)) (f (slice_index bs i))
    ∙ ap (λ t. prefix ++ t) (sym (flat_more f bs i (slice_index bs i) lt (index_is bs i lt)))
  where
    index_is : (bs : List ℕ) (i : ℕ) → i < length bs → slice_index bs i ≡ get_or bs i (slice_index bs i)
    index_is bs i lt = sym (get_or_default_zero bs i (slice_index bs i) lt)

-- one number more
range_suc : (a n : ℕ) → range_with_len a (suc n) ≡ range_with_len a n ++ (a + n) ∷ []
range_suc a zero =
    let same : a ≡ a + 0 = omega arith in
    ap (λ m. m ∷ []) same
range_suc a (suc n) =
    let same : (a + 1) + n ≡ a + suc n = omega arith in
    ap (λ t. a ∷ t) (range_suc (a + 1) n ∙ ap (λ m. range_with_len (a + 1) n ++ m ∷ []) same)

range_more : (n : ℕ) → range_with_len 0 (n + 1) ≡ range_with_len 0 n ++ n ∷ []
range_more n =
    let next : n + 1 ≡ suc n = omega arith in
    let same : 0 + n ≡ n = omega arith in
    ap (range_with_len 0) next ∙ range_suc 0 n ∙ ap (λ m. range_with_len 0 n ++ m ∷ []) same

-- the last item of a list
last_more : {A : Type 0} (xs : List A) (x : A) (o : Option A) → last_or o (xs ++ x ∷ []) ≡ Some x
last_more [] x o = refl
last_more (z ∷ xs) x o = last_more xs x (Some z)

offsets_more : (t : Tail) (n : ℕ)
    → filter (is_reason_at t) (range_with_len 0 (n + 1)) ≡ filter (is_reason_at t) (range_with_len 0 n) ++ filter (is_reason_at t) (n ∷ [])
offsets_more t n = ap (filter (is_reason_at t)) (range_more n) ∙ filter-append (is_reason_at t) (range_with_len 0 n) (n ∷ [])

-- one offset more, at which a reason begins or not
pub offset_yes : (t : Tail) (n : ℕ) → is_reason_at t n ≡ true → last_of t (range_with_len 0 (n + 1)) ≡ Some n
offset_yes t n is =
    let one : filter (is_reason_at t) (n ∷ []) ≡ n ∷ [] = rw is refl in
    let es = filter (is_reason_at t) (range_with_len 0 n) in
    ap (last_or None) (offsets_more t n ∙ ap (λ x. es ++ x) one) ∙ last_more es n None

pub offset_no : (t : Tail) (n : ℕ) → is_reason_at t n ≡ false → last_of t (range_with_len 0 (n + 1)) ≡ last_of t (range_with_len 0 n)
offset_no t n is =
    let none : filter (is_reason_at t) (n ∷ []) ≡ [] = rw is refl in
    let es = filter (is_reason_at t) (range_with_len 0 n) in
    ap (last_or None) (offsets_more t n ∙ ap (λ x. es ++ x) none ∙ append-nil es)
