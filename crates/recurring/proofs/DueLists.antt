-- Lemmas on lists of calls with their due moments, seen as pairs.
use Rattle.std.proofs.Common.{◌≡◌, ℕ, ◌+◌, ◌==◌, ◌<◌, ◌≤◌, List, [], ◌∷◌, ◌++◌, map, take, drop, length, get_or, refl, sym, ap, ◌∙◌, arith, append_assoc}
use Rattle.std.proofs.lemmas.List.{append-nil, take_all, take_at, map_more, length-map, length-take-le}
use Rattle.std.proofs.lemmas.Slice.{drop-append-drop}
use Rattle.std.proofs.Math.ListN.{drop_of_length-le}
use Rattle.recurring.specs.declared.due_call.DueCall.{DueCall}
use Rattle.recurring.specs.declared.monitor.Monitor.{Monitor}
use Rattle.recurring.specs.DueCalls.{pair_of, pairs_of, due_call_of, settled_call}
use Rattle.recurring.specs.DueIndex.{pair_settled, pairs_settled}
use Rattle.recurring.specs.Monitors.{pair, pairs}
use Rattle.recurring.proofs.Recurs.{through_cond}

-- the pairs of the monitors' calls are those of the monitors
pub pairs_of-due_calls : (ms : List Monitor) → pairs_of (map due_call_of ms) ≡ pairs ms
pairs_of-due_calls [] = refl
pairs_of-due_calls (m ∷ ms) = ap (λ (ps : List (ℕ × ℕ)). pair m ∷ ps) (pairs_of-due_calls ms)

pair_of-settled : (call due : ℕ) (d : DueCall) → pair_of (settled_call call due d) ≡ pair_settled call due (pair_of d)
pair_of-settled call due d = through_cond pair_of (d.call == call) (record { due = due; call = d.call }) d

-- the pair of a settled call is the settled pair
pub pairs_of-settled : (call due : ℕ) (ds : List DueCall) → pairs_of (map (settled_call call due) ds) ≡ pairs_settled call due (pairs_of ds)
pairs_of-settled call due [] = refl
pairs_of-settled call due (d ∷ ds) =
    ap (λ (p : ℕ × ℕ). p ∷ pairs_of (map (settled_call call due) ds)) (pair_of-settled call due d)
    ∙ ap (λ (ps : List (ℕ × ℕ)). pair_settled call due (pair_of d) ∷ ps) (pairs_of-settled call due ds)

-- a change of a prefix is a change of the list if the prefix is the whole list
pub map_over_all : {A : Type 0} (f : A → A) (xs ys : List A) (i : ℕ) → length xs ≤ i → ys ≡ map f (take i xs) ++ drop i xs → ys ≡ map f xs
map_over_all f xs ys i le h = h ∙ rw (take_all i xs le, drop_of_length-le xs le) (append-nil (map f xs))

-- an element after the last one
pub put_after : {A : Type 0} (xs : List A) (i : ℕ) (x : A) → length xs ≤ i → xs ++ x ∷ [] ≡ take i xs ++ x ∷ drop (i + 1) xs
put_after xs i x le = rw (take_all i xs le, drop_of_length-le xs (let more : length xs ≤ i + 1 = omega (arith, le) in more)) refl

-- a prefix that is one element longer; the elements after it stay
pub prefix_more : {A B : Type 0} (f : A → B) (ms : List A) (was now : List B) (i : ℕ) (d : A) → i < length ms → now ≡ map f (take i ms) ++ drop i was
    → take i now ++ f (get_or ms i d) ∷ drop (i + 1) now ≡ map f (take (i + 1) ms) ++ drop (i + 1) was
prefix_more f ms was now i d lt is =
    let prefix : length (map f (take i ms)) ≡ i = length-map (take i ms) f ∙ length-take-le i ms (omega (arith, lt)) in
    rw (is, take_at (map f (take i ms)) (drop i was) i prefix, drop-append-drop i was (map f (take i ms)) (i + 1) (omega arith) prefix, map_more f ms i d lt)
    (sym (append_assoc (map f (take i ms)) (f (get_or ms i d) ∷ []) (drop (i + 1) was)))

-- nothing is after a prefix that is the whole list
pub prefix_all : {A B : Type 0} (f : A → B) (ms : List A) (was now : List B) (i : ℕ) → length ms ≤ i → length was ≤ i
    → now ≡ map f (take i ms) ++ drop i was → now ≡ map f ms
prefix_all f ms was now i le short is = is ∙ rw (take_all i ms le, drop_of_length-le was short) (append-nil (map f ms))
