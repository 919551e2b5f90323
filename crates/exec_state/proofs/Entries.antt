-- Lemmas on the registry's entries with a function applied to each value.
use Rattle.std.proofs.Common.{◌≡◌, ◌<◌, position, arith, ℕ, zero, suc, Bool, true, false, cond, not, ◌||◌, ◌≤◌, List, [], ◌∷◌, ◌++◌, map, take, drop, length}
use Rattle.std.proofs.Common.{filter, get_or, set, slice_get, slice_index_or, Option, Some, None, refl, sym, ap, subst, ◌∙◌}
use Rattle.std.specs.Option.{option_map, option_copied}
use Rattle.std.specs.Borrow.{Bor}
use Rattle.std.specs.List.{list_any, IsDistinct, AllByRecursion}
use Rattle.std.specs.Map.{keys_of, values_of, lookup, set_value, remove_entry}
use Rattle.std.specs.Str.{bytes_eq}
use Rattle.std.proofs.lemmas.List.{append-nil, take_all}
use Rattle.std.proofs.lemmas.List.Quantifiers.{position-Some}
use Rattle.std.proofs.Math.ListN.{drop_of_length-le}
use Rattle.std.proofs.lemmas.Map.Keys.{IsDistinct-head, IsDistinct-tail}
use Rattle.std.proofs.lemmas.Slice.Eq.{bytes_eq-Decides}
use Rattle.indexmap.specs.IndexMap.{set_value_at}
use Rattle.ocf_types.specs.declared.operation.Recur.{Recur}
use Rattle.ocf_model.specs.Resource.{Resource}
use Rattle.ocf_model.specs.State.{at_id}
use Rattle.exec_state.specs.declared.registered.Registered.{Registered}
use Rattle.recurring.specs.declared.monitor.Monitor.{Monitor}
use Rattle.recurring.specs.Monitors.{recurs, all_due_at}
use Rattle.exec_state.specs.Seen.{seen, seen_all, monitors_all, map_entries}
use Rattle.exec_state.specs.Lawful.{recurs_by_id, recurring_by_id}

-- no key equals the id
abbrev pub IsAbsent : {A : Type 0} → List ℕ → List (List ℕ × A) → Type 0
IsAbsent id es = AllByRecursion (λ k. bytes_eq id k ≡ false) (keys_of es)

-- an entry with f applied to its value
abbrev pub on_value : {A : Type 0} → (A → A) → List ℕ × A → List ℕ × A
on_value f e = (e.0, f e.1)

-- no entry after that of an id has the same id
pub absent_after : {A : Type 0} (id : List ℕ) (e : List ℕ × A) (es : List (List ℕ × A)) → IsDistinct bytes_eq (keys_of (e ∷ es))
    → bytes_eq id e.0 ≡ true → IsAbsent id es
absent_after id e es distinct same =
    subst (λ (k : List ℕ). IsAbsent k es) (sym ((bytes_eq-Decides id e.0).0 same)) (IsDistinct-head bytes_eq e.0 (keys_of es) distinct)

module _ {A : Type 0} where
  pub at_id-absent : (id : List ℕ) (f : A → A) (xs : List (List ℕ × A)) → IsAbsent id xs → at_id id f xs ≡ xs
  at_id-absent id f [] h = refl
  at_id-absent id f (x ∷ xs) h =
      ap (λ (b : Bool). (x.0, cond b (f x.1) x.1) ∷ at_id id f xs) h.0
      ∙ ap (λ (ys : List (List ℕ × A)). x ∷ ys) (at_id-absent id f xs h.1)

  pub others-absent : (id : List ℕ) (xs : List (List ℕ × A)) → IsAbsent id xs → filter (λ e. not (bytes_eq id e.0)) xs ≡ xs
  others-absent id [] h = refl
  others-absent id (x ∷ xs) h =
      ap (λ (b : Bool). cond (not b) (x ∷ filter (λ e. not (bytes_eq id e.0)) xs) (filter (λ e. not (bytes_eq id e.0)) xs)) h.0
      ∙ ap (λ (ys : List (List ℕ × A)). x ∷ ys) (others-absent id xs h.1)

module _ {H A : Type 0} (look : Registered H → A) where
  -- the keys stay the same
  pub keys-map_entries : (es : List (List ℕ × Registered H)) → keys_of (map_entries look es) ≡ keys_of es
  keys-map_entries [] = refl
  keys-map_entries (e ∷ es) = ap (λ (ks : List (List ℕ)). e.0 ∷ ks) (keys-map_entries es)

  pub length-map_entries : (es : List (List ℕ × Registered H)) → length (map_entries look es) ≡ length es
  length-map_entries [] = refl
  length-map_entries (e ∷ es) = ap suc (length-map_entries es)

  absent_seen : (id : List ℕ) (es : List (List ℕ × Registered H)) → IsAbsent id es → IsAbsent id (map_entries look es)
  absent_seen id es h = subst (λ (ks : List (List ℕ)). AllByRecursion (λ k. bytes_eq id k ≡ false) ks) (sym (keys-map_entries es)) h

  -- a write at the id
  pub map_entries-set_value : (id : List ℕ) (f : A → A) (es : List (List ℕ × Registered H)) (v w : Registered H)
      → IsDistinct bytes_eq (keys_of es)
      → lookup (bytes_eq id) es ≡ Some v → look w ≡ f (look v)
      → map_entries look (set_value (bytes_eq id) es w) ≡ at_id id f (map_entries look es)
  map_entries-set_value id f [] v w distinct at is = refl
  map_entries-set_value id f (e ∷ es) v w distinct at is =
      by (bytes_eq id e.0) refl (map_entries-set_value id f es v w (IsDistinct-tail bytes_eq e.0 (keys_of es) distinct))
    where
      by : (b : Bool) → bytes_eq id e.0 ≡ b
          → (lookup (bytes_eq id) es ≡ Some v → look w ≡ f (look v)
          → map_entries look (set_value (bytes_eq id) es w) ≡ at_id id f (map_entries look es))
          → map_entries look (set_value (bytes_eq id) (e ∷ es) w) ≡ at_id id f (map_entries look (e ∷ es))
      by true same rest =
          let here : Some e.1 ≡ Some v = rw same at at in
          let value : e.1 ≡ v = cc in
          let now : look w ≡ f (look e.1) = is ∙ ap (λ (r : Registered H). f (look r)) (sym value) in
          rw same (ap (λ (r : A). (e.0, r) ∷ map_entries look es) now
          ∙ ap (λ (xs : List (List ℕ × A)). (e.0, f (look e.1)) ∷ xs)
          (sym (at_id-absent id f (map_entries look es) (absent_seen id es (absent_after id e es distinct same)))))
      by false other rest = rw other (ap (λ (xs : List (List ℕ × A)). (e.0, look e.1) ∷ xs) (rest (rw other at at) is))

  -- without the id
  pub map_entries-remove_entry : (id : List ℕ) (es : List (List ℕ × Registered H)) → IsDistinct bytes_eq (keys_of es)
      → map_entries look (remove_entry (bytes_eq id) es) ≡ filter (λ e. not (bytes_eq id e.0)) (map_entries look es)
  map_entries-remove_entry id [] distinct = refl
  map_entries-remove_entry id (e ∷ es) distinct =
      by (bytes_eq id e.0) refl (map_entries-remove_entry id es (IsDistinct-tail bytes_eq e.0 (keys_of es) distinct))
    where
      by : (b : Bool) → bytes_eq id e.0 ≡ b
          → map_entries look (remove_entry (bytes_eq id) es) ≡ filter (λ e. not (bytes_eq id e.0)) (map_entries look es)
          → map_entries look (remove_entry (bytes_eq id) (e ∷ es)) ≡ filter (λ e. not (bytes_eq id e.0)) (map_entries look (e ∷ es))
      by true same rest = rw same (sym (others-absent id (map_entries look es) (absent_seen id es (absent_after id e es distinct same))))
      by false other rest = rw other (ap (λ (xs : List (List ℕ × A)). (e.0, look e.1) ∷ xs) rest)

  -- a write at an index
  pub map_entries-set_value_at : (f : A → A) (es : List (List ℕ × Registered H)) (i : ℕ) (v w : Registered H) (d : List ℕ × A)
      → slice_get (values_of es) i ≡ Some v → look w ≡ f (look v)
      → map_entries look (set_value_at es i w) ≡ set (map_entries look es) i (on_value f (get_or (map_entries look es) i d))
  map_entries-set_value_at f [] i v w d at is = refl
  map_entries-set_value_at f (e ∷ es) zero v w d at is =
      let value : e.1 ≡ v = cc in
      ap (λ (r : A). (e.0, r) ∷ map_entries look es) (is ∙ ap (λ (r : Registered H). f (look r)) (sym value))
  map_entries-set_value_at f (e ∷ es) (suc i) v w d at is =
      ap (λ (xs : List (List ℕ × A)). (e.0, look e.1) ∷ xs) (map_entries-set_value_at f es i v w d at is)

  -- a write that the function does not see
  pub map_entries-same_at : (es : List (List ℕ × Registered H)) (i : ℕ) (v w : Registered H)
      → slice_get (values_of es) i ≡ Some v → look w ≡ look v → map_entries look (set_value_at es i w) ≡ map_entries look es
  map_entries-same_at [] i v w at is = refl
  map_entries-same_at (e ∷ es) zero v w at is =
      let value : e.1 ≡ v = cc in
      ap (λ (r : A). (e.0, r) ∷ map_entries look es) (is ∙ ap look (sym value))
  map_entries-same_at (e ∷ es) (suc i) v w at is = ap (λ (xs : List (List ℕ × A)). (e.0, look e.1) ∷ xs) (map_entries-same_at es i v w at is)

-- a write at the index of an id is one at the id
index_is : {A : Type 0} (id : List ℕ) (es : List (List ℕ × A)) (i : ℕ) (w : A) → i < length (keys_of es)
    → bytes_eq id (get_or (keys_of es) i []) ≡ true → ((k : ℕ) → k < i → bytes_eq id (get_or (keys_of es) k []) ≡ false)
    → set_value_at es i w ≡ set_value (bytes_eq id) es w
index_is id [] i w lt here before = refl
index_is id (e ∷ es) zero w lt here before = let same : bytes_eq id e.0 ≡ true = here in rw same refl
index_is {A = A} id (e ∷ es) (suc i) w lt here before =
    let other : bytes_eq id e.0 ≡ false = before 0 (omega arith) in
    rw other (ap (λ (xs : List (List ℕ × A)). e ∷ xs)
    (index_is id es i w (omega (arith, lt)) here (λ k below. before (suc k) (omega (arith, below)))))

pub set_value-found : {A : Type 0} (id : List ℕ) (es : List (List ℕ × A)) (i : ℕ) (w : A)
    → Some i ≡ position (bytes_eq id) (keys_of es) → set_value_at es i w ≡ set_value (bytes_eq id) es w
set_value-found id es i w found =
    let there = position-Some (bytes_eq id) (keys_of es) i [] (sym found) in index_is id es i w there.0 there.1 there.2

-- a change of a prefix is a change of the list if the prefix is the whole list
pub map_over_all : {A : Type 0} (f : A → A) (xs ys : List A) (i : ℕ) → length xs ≤ i → ys ≡ map f (take i xs) ++ drop i xs → ys ≡ map f xs
map_over_all f xs ys i le h = h ∙ rw (take_all i xs le, drop_of_length-le xs le) (append-nil (map f xs))

-- a test that some resource passes
pub any_seen : {H : Type 0} (test : Resource → Bool) (es : List (List ℕ × Registered H))
    → list_any (λ r. test (seen r)) (values_of es) ≡ list_any (λ e. test e.1) (seen_all es)
any_seen test [] = refl
any_seen test (e ∷ es) = ap (λ (b : Bool). test (seen e.1) || b) (any_seen test es)

-- a borrowed value is seen as the stored one
pub look_copied : {H A : Type 0} (look : Registered H → A) (o : Option (Bor (Registered H)))
    → option_map (λ r. look r.now) o ≡ option_map look (option_copied o)
look_copied look None = refl
look_copied look (Some r) = refl

-- the monitors made due are those of the resources
pub due_seen : {H : Type 0} (at : ℕ) (es : List (List ℕ × Registered H))
    → map {B = List ℕ × List Monitor} (λ e. (e.0, all_due_at at (recurs e.1))) (monitors_all es)
    ≡ map {B = List ℕ × List Monitor} (λ e. (e.0, all_due_at at e.1.recurring)) (seen_all es)
due_seen at [] = refl
due_seen at (e ∷ es) = ap (λ (xs : List (List ℕ × List Monitor)). (e.0, all_due_at at (recurs e.1.monitors)) ∷ xs) (due_seen at es)

-- the monitors of the entries are those of the resources
pub recurs_seen : {H : Type 0} (es : List (List ℕ × Registered H)) → recurs_by_id (monitors_all es) ≡ recurring_by_id (seen_all es)
recurs_seen [] = refl
recurs_seen (e ∷ es) = ap (λ (xs : List (List ℕ × List Recur)). (e.0, recurs e.1.monitors) ∷ xs) (recurs_seen es)

-- the entry at an index
pub seen_entry : {H : Type 0} (es : List (List ℕ × Registered H)) (i : ℕ) (k : List ℕ) (v : Registered H) (d : List ℕ × Resource)
    → Some (k, v) ≡ slice_get es i → slice_index_or (seen_all es) i d ≡ (k, seen v)
seen_entry {H = H} [] i k v d at = absurd (let none : Some (k, v) ≡ None = at in cc)
seen_entry {H = H} (e ∷ es) zero k v d at =
    let here : Some (k, v) ≡ Some e = at in
    let same : e ≡ (k, v) = cc in
    ap (λ (x : List ℕ × Registered H). (x.0, seen x.1)) same
seen_entry {H = H} (e ∷ es) (suc i) k v d at = seen_entry es i k v d at

-- the ids of the entries are those of the resources
pub ids_seen : {H : Type 0} (es : List (List ℕ × Registered H)) → keys_of es ≡ map {B = List ℕ} (λ e. e.0) (seen_all es)
ids_seen [] = refl
ids_seen (e ∷ es) = ap (λ (ks : List (List ℕ)). e.0 ∷ ks) (ids_seen es)
