-- Lemmas on filtered lists, on resources by their ids, and on changes and refusals, for proofs here and in the crates above.
use Rattle.std.specs.Prelude.{◌≡◌, ◌≢◌, ℕ, Bool, true, false, cond, not, List, [], ◌∷◌, ◌++◌, ◌==◌, map, filter, is_some, Option, Some}
use Rattle.std.specs.Prelude.{None, Ok, Err}
use Rattle.std.specs.List.{AllByRecursion, IsDistinct, list_any}
use Rattle.std.specs.Map.{keys_of, lookup}
use Rattle.std.specs.Str.{bytes_eq}
use Rattle.std.proofs.Common.{refl, sym, ap, ◌∙◌}
use Rattle.std.proofs.lemmas.Bool.{false_from_ne_true}
use Rattle.std.proofs.lemmas.Bool.Decides.{Decides-eqb}
use Rattle.std.proofs.lemmas.Map.Entries.{lookup-filter-keys}
use Rattle.std.proofs.lemmas.Map.Keys.{IsDistinct-head, IsDistinct-tail, IsDistinct-cons}
use Rattle.std.proofs.lemmas.Slice.Eq.{bytes_eq-Decides}
use Rattle.std.specs.Option.{IsSomeAnd}
use Rattle.ocf_types.specs.declared.event.Change.TheVariants as change
use Rattle.ocf_types.specs.declared.operation.Recur.{Recur}
use Rattle.ocf_model.specs.declared.refusal.Refusal.{Refusal}
use Rattle.ocf_model.specs.Answer.{first_of}
use Rattle.ocf_types.specs.Kinds.{Change, Event}
use Rattle.ocf_model.specs.Resource.{of_call}
use Rattle.ocf_model.specs.State.{Registry, at_id, changed, named, registered, stepped}

-- the test of an id with itself holds
pub same_id : (id : List ℕ) → bytes_eq id id ≡ true
same_id id = (bytes_eq-Decides id id).1 refl

-- the test of ids that differ fails
pub other_id : (id other : List ℕ) → id ≢ other → bytes_eq other id ≡ false
other_id id other h = false_from_ne_true _ (λ e. h (sym ((bytes_eq-Decides other id).0 e)))

-- a key that equals one id does not equal another one
pub apart : (id other : List ℕ) → id ≢ other → (k : List ℕ) → bytes_eq other k ≡ true → not (bytes_eq id k) ≡ true
apart id other h k e =
    let n : bytes_eq id k ≡ false = false_from_ne_true _ (λ f. h ((bytes_eq-Decides id k).0 f ∙ sym ((bytes_eq-Decides other k).0 e))) in
    rw n refl

module _ {A : Type 0} where
  -- a property of each element holds for those that pass a test
  pub each_filter : (P : A → Type 0) (test : A → Bool) (xs : List A) → AllByRecursion P xs → AllByRecursion P (filter test xs)
  each_filter P test [] h = tt
  each_filter P test (x ∷ xs) h = by (test x) (each_filter P test xs h.1)
    where
      by : (b : Bool) → AllByRecursion P (filter test xs) → AllByRecursion P (cond b (x ∷ filter test xs) (filter test xs))
      by true k = (h.0, k)
      by false k = k

  -- a property of each key holds for the keys of those that pass a test
  pub keys_filter : {K : Type 0} (key : A → K) (P : K → Type 0) (test : A → Bool) (xs : List A) → AllByRecursion P (map key xs)
      → AllByRecursion P (map key (filter test xs))
  keys_filter key P test [] h = tt
  keys_filter key P test (x ∷ xs) h = by (test x) (keys_filter key P test xs h.1)
    where
      by : (b : Bool) → AllByRecursion P (map key (filter test xs))
          → AllByRecursion P (map key (cond b (x ∷ filter test xs) (filter test xs)))
      by true k = (h.0, k)
      by false k = k

  -- distinct keys stay distinct when elements are removed
  pub distinct_filter : {K : Type 0} (eq : K → K → Bool) (key : A → K) (test : A → Bool) (xs : List A) → IsDistinct eq (map key xs)
      → IsDistinct eq (map key (filter test xs))
  distinct_filter eq key test [] h = h
  distinct_filter eq key test (x ∷ xs) h = by (test x) (distinct_filter eq key test xs (IsDistinct-tail eq (key x) (map key xs) h))
    where
      by : (b : Bool) → IsDistinct eq (map key (filter test xs)) → IsDistinct eq (map key (cond b (x ∷ filter test xs) (filter test xs)))
      by true k = IsDistinct-cons eq (key x) (map key (filter test xs))
          (keys_filter key (λ y. eq (key x) y ≡ false) test xs (IsDistinct-head eq (key x) (map key xs) h)) k
      by false k = k

  -- an appended entry does not change the lookup of another id
  pub lookup-push_other : (other : List ℕ) (es : List (List ℕ × A)) (e : List ℕ × A) → bytes_eq other e.0 ≡ false
      → lookup (bytes_eq other) (es ++ e ∷ []) ≡ lookup (bytes_eq other) es
  lookup-push_other other [] e h = rw h refl
  lookup-push_other other (x ∷ xs) e h = ap (λ (o : Option A). cond (bytes_eq other x.0) (Some x.1) o) (lookup-push_other other xs e h)

  -- the lookup of an id finds its changed entry
  pub lookup-at_id_here : (id : List ℕ) (f : A → A) (es : List (List ℕ × A)) (v : A) → lookup (bytes_eq id) es ≡ Some v
      → lookup (bytes_eq id) (at_id id f es) ≡ Some (f v)
  lookup-at_id_here id f [] v at = absurd (let none : None ≡ Some v = at in cc)
  lookup-at_id_here id f (e ∷ es) v at = by (bytes_eq id e.0) refl (lookup-at_id_here id f es v)
    where
      by : (b : Bool) → bytes_eq id e.0 ≡ b → (lookup (bytes_eq id) es ≡ Some v → lookup (bytes_eq id) (at_id id f es) ≡ Some (f v))
          → cond (bytes_eq id e.0) (Some (cond b (f e.1) e.1)) (lookup (bytes_eq id) (at_id id f es)) ≡ Some (f v)
      by true same rest =
          let here : Some e.1 ≡ Some v = rw same at at in
          let is : e.1 ≡ v = cc in
          rw same (ap (λ (x : A). Some (f x)) is)
      by false other rest = rw other (rest (rw other at at))

  -- a change of one id's entry does not change the lookup of another
  pub lookup-at_id_other : (id other : List ℕ) (f : A → A) (es : List (List ℕ × A)) → id ≢ other
      → lookup (bytes_eq other) (at_id id f es) ≡ lookup (bytes_eq other) es
  lookup-at_id_other id other f [] h = refl
  lookup-at_id_other id other f (e ∷ es) h = by (bytes_eq id e.0) refl (lookup-at_id_other id other f es h)
    where
      by : (b : Bool) → bytes_eq id e.0 ≡ b → lookup (bytes_eq other) (at_id id f es) ≡ lookup (bytes_eq other) es
          → cond (bytes_eq other e.0) (Some (cond b (f e.1) e.1)) (lookup (bytes_eq other) (at_id id f es))
          ≡ cond (bytes_eq other e.0) (Some e.1) (lookup (bytes_eq other) es)
      by true same k =
          let n : bytes_eq other e.0 ≡ false = other_id e.0 other (λ x. h ((bytes_eq-Decides id e.0).0 same ∙ x)) in
          rw n k
      by false apart k = rw k refl

  -- an id that is not found is not among the keys
  pub absent_any : (id : List ℕ) (es : List (List ℕ × A)) → lookup (bytes_eq id) es ≡ None → list_any (bytes_eq id) (keys_of es) ≡ false
  absent_any id [] h = refl
  absent_any id (e ∷ es) h = by (bytes_eq id e.0) refl (absent_any id es)
    where
      by : (b : Bool) → bytes_eq id e.0 ≡ b → (lookup (bytes_eq id) es ≡ None → list_any (bytes_eq id) (keys_of es) ≡ false)
          → list_any (bytes_eq id) (keys_of (e ∷ es)) ≡ false
      by true same rest = let none : Some e.1 ≡ None = rw same at h in cc
      by false other rest = rw other (rest (rw other at h))

  -- a change of one id's entry leaves the keys
  pub keys-at_id : (id : List ℕ) (f : A → A) (es : List (List ℕ × A)) → keys_of (at_id id f es) ≡ keys_of es
  keys-at_id id f [] = refl
  keys-at_id id f (e ∷ es) = ap (λ (ks : List (List ℕ)). e.0 ∷ ks) (keys-at_id id f es)

  -- an option that does not test as `Some` is `None`
  pub none_is : (o : Option A) → is_some o ≡ false → o ≡ None
  none_is None h = refl
  none_is (Some x) h = absurd (cc)

-- a property of an option's value: there is a value, and the property holds for it
pub found : {A : Type 0} (o : Option A) (P : A → Type 0) → IsSomeAnd o P → (x : A) × (o ≡ Some x) × P x
found None P h = absurd h
found (Some x) P h = (x, refl, h)

-- a change leaves a resource that it does not name as it was
pub other_stays : (at : ℕ) (c : Change) (rs : Registry) (id other : List ℕ) → named c ≡ Some id → id ≢ other
    → lookup (bytes_eq other) (changed at c rs) ≡ lookup (bytes_eq other) rs
other_stays at (change.Register r) rs id other n h = lookup-push_other other rs (registered r) (other_id r.id other (λ e. h (cc)))
other_stays at (change.Unregister i) rs id other n h =
    lookup-filter-keys (bytes_eq other) (λ k. not (bytes_eq i k)) true (apart i other (λ e. h (cc))) rs
other_stays at (change.Step i what) rs id other n h = lookup-at_id_other i other (stepped at what) rs (λ e. h (cc))
other_stays at change.Boot rs id other n h = absurd (cc)

-- if the tests lead to an event, it is the one that was asked for, and no test held
pub passed : (ts : List (Refusal × Bool)) (e f : Event) → first_of ts e ≡ Ok f → (e ≡ f) × AllByRecursion (λ t. t.1 ≡ false) ts
passed [] e f h = (cc, tt)
passed (t ∷ ts) e f h = by t.1 refl (passed ts e f)
  where
    by : (b : Bool) → t.1 ≡ b → (first_of ts e ≡ Ok f → (e ≡ f) × AllByRecursion (λ x. x.1 ≡ false) ts)
        → (e ≡ f) × AllByRecursion (λ x. x.1 ≡ false) (t ∷ ts)
    by true same rest = let bad : Err t.0 ≡ Ok f = rw same at h in absurd (cc)
    by false other rest = let r = rest (rw other at h) in (r.0, (other, r.1))

-- the monitor of a call has that call
pub call_of : (call : ℕ) (monitors : List Recur) (m : Recur) → of_call call monitors ≡ Some m → m.call ≡ call
call_of call [] m h = absurd (let no : None ≡ Some m = h in cc)
call_of call (x ∷ xs) m h = by (x.call == call) refl (call_of call xs m)
  where
    by : (b : Bool) → (x.call == call) ≡ b → (of_call call xs ≡ Some m → m.call ≡ call) → m.call ≡ call
    by true is rest =
        let here : Some x ≡ Some m = rw is at h in
        let this : x ≡ m = cc in
        ap (λ (y : Recur). y.call) (sym this) ∙ (Decides-eqb x.call call).0 is
    by false is rest = rest (rw is at h)
