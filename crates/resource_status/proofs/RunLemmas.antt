-- The runs after one more event, and those of one more resource.
use Rattle.std.proofs.Common.{◌≡◌, ◌⊎◌, inl, inr, ℕ, zero, suc, ◌+◌, ◌-◌, ◌<◌, ◌≤◌, Bool, false, List, [], ◌∷◌, ◌++◌, Some, None, length, take, get_or, refl, sym, ap, subst, ◌∙◌, arith}
use Rattle.std.specs.Prelude.{option_and_then, option_map, option_to_list}
use Rattle.std.specs.List.{flat_map, position, IsDistinct}
use Rattle.std.specs.Map.{keys_of}
use Rattle.std.specs.Str.{bytes_eq}
use Rattle.std.proofs.lemmas.List.{append-nil, append_assoc, get_or-map, length-map, take_more, take_all}
use Rattle.std.proofs.lemmas.List.Concat.{flat_map-append, flat_map-cons}
use Rattle.std.proofs.lemmas.List.Quantifiers.{position-Some}
use Rattle.std.proofs.lemmas.Map.Keys.{apart_from_distinct}
use Rattle.std.proofs.lemmas.Slice.Eq.{bytes_eq-Decides}
use Rattle.ocf_types.specs.Expected.{has_failed}
use Rattle.ocf_types.specs.Kinds.{Change, Event}
use Rattle.ocf_model.specs.Indexes.{entry_at, id_at, no_entry}
use Rattle.ocf_model.specs.Resource.{Resource}
use Rattle.ocf_model.specs.State.{State, after, after_all}
use Rattle.ocf_types.specs.declared.operation.Running.{Running}
use Rattle.ocf_types.specs.declared.outcome.Outcome.{Outcome}
use Rattle.resource_status.specs.Runs.{Ran, EndsWithin, IsAlone, end_of, ended_by, ran, ran_after, ran_as, runs_since}

pub since_more : (s : State) (runs : List Ran) (es : List Event) (e : Event)
    → runs_since s runs (es ++ e ∷ []) ≡ ran_after (after_all s es) (runs_since s runs es) e
since_more s runs [] e = refl
since_more s runs (d ∷ ds) e = since_more (after s d) (ran_after s runs d) ds e

-- what is taken of each resource
module _ {B : Type 0} (f : List ℕ × Resource → List B) (s : State) where
  -- with one more resource
  pub index_more : (i : ℕ) (prefix : List B) → i < length s.resources
      → (prefix ++ flat_map f (take i s.resources)) ++ f (entry_at s i) ≡ prefix ++ flat_map f (take (i + 1) s.resources)
  index_more i prefix lt =
      let es = take i s.resources in
      let one : flat_map f (entry_at s i ∷ []) ≡ f (entry_at s i) = flat_map-cons f (entry_at s i) [] ∙ append-nil (f (entry_at s i)) in
      let all = ap (flat_map f) (take_more s.resources i no_entry lt) ∙ flat_map-append f es (entry_at s i ∷ []) in
      append_assoc prefix (flat_map f es) (f (entry_at s i)) ∙ ap (λ t. prefix ++ t) (sym (all ∙ ap (λ t. flat_map f es ++ t) one))

  -- with more resources, of which nothing is taken
  none_more : (from n to : ℕ) → to ≡ from + n → to ≤ length s.resources → ((k : ℕ) → from ≤ k → k < to → f (entry_at s k) ≡ [])
      → flat_map f (take to s.resources) ≡ flat_map f (take from s.resources)
  none_more from zero to is fits none = ap (λ m. flat_map f (take m s.resources)) (omega (arith, is))
  none_more from (suc n) to is fits none =
      let m = from + n in
      let next : to ≡ m + 1 = omega (arith, is) in
      let first = flat_map f (take m s.resources) in
      ap (λ k. flat_map f (take k s.resources)) next ∙ sym (index_more m [] (omega (arith, next, fits)))
      ∙ ap (λ l. first ++ l) (none m (omega arith) (omega (arith, next))) ∙ append-nil first
      ∙ none_more from n m refl (omega (arith, next, fits)) (λ k ge lt. none k ge (omega (arith, next, lt)))

  -- what a change ends is all taken of the resources between these indexes
  module _ (c : Change) (from to : ℕ) (ordered : from ≤ to) (fits : to ≤ length s.resources) (within : EndsWithin s c from to)
      (none : (e : List ℕ × Resource) → end_of c e.0 ≡ None → f e ≡ []) where
    pub none_before : flat_map f (take from s.resources) ≡ []
    none_before =
        none_more 0 from from (omega arith) (omega (arith, ordered, fits))
        (λ k ge lt. none (entry_at s k) (within k (omega (arith, lt, ordered, fits)) (inl lt)))

    pub none_after : flat_map f (take to s.resources) ≡ flat_map f s.resources
    none_after =
        let all = length s.resources in
        sym (none_more to (all - to) all (omega (arith, fits)) (omega arith) (λ k ge lt. none (entry_at s k) (within k lt (inr ge))))
        ∙ ap (flat_map f) (take_all all s.resources (omega arith))

-- the id at another index than that of an id is another one
pub alone_at : (s : State) (id : List ℕ) (index : ℕ) → IsDistinct bytes_eq (keys_of s.resources)
    → position (bytes_eq id) (keys_of s.resources) ≡ Some index → IsAlone s id index (index + 1)
alone_at s id index distinct found k lt out =
    let own : get_or (keys_of s.resources) k [] ≡ id_at s k = get_or-map (λ (e : List ℕ × Resource). e.0) s.resources k no_entry [] lt in
    subst (λ (x : List ℕ). bytes_eq id x ≡ false) own (by out)
  where
    by : (k < index) ⊎ (index + 1 ≤ k) → bytes_eq id (get_or (keys_of s.resources) k []) ≡ false
    by (inl before) = (position-Some (bytes_eq id) (keys_of s.resources) index [] found).2 k before
    by (inr after) =
        let ks = keys_of s.resources in
        let there = position-Some (bytes_eq id) ks index [] found in
        let long : length ks ≡ length s.resources = length-map s.resources (λ (e : List ℕ × Resource). e.0) in
        let same : get_or ks index [] ≡ id = sym ((bytes_eq-Decides id (get_or ks index [])).0 there.1) in
        subst (λ (x : List ℕ). bytes_eq x (get_or ks k []) ≡ false) same
        (apart_from_distinct bytes_eq ks index k [] distinct (omega (arith, after)) (omega (arith, lt, long)))

-- the run of a resource that a change ends with this outcome
pub ended_one : (c : Change) (e : List ℕ × Resource) (id : List ℕ) (outcome : Outcome) (x : Running) (failed : Bool) → id ≡ e.0
    → end_of c id ≡ Some outcome → e.1.history.running ≡ Some x → failed ≡ has_failed x.task.action x.task.check.expect outcome
    → ended_by c e ≡ ran_as id failed ∷ []
ended_one c e id outcome x failed same ends runs fails =
    ap (λ o. option_to_list (option_and_then (λ (y : Outcome). option_map (ran e.0 y) e.1.history.running) o)) (ap (end_of c) (sym same) ∙ ends)
    ∙ ap (λ o. option_to_list (option_map (ran e.0 outcome) o)) runs
    ∙ ap (λ (i : List ℕ). ran i outcome x ∷ []) (sym same)
    ∙ ap (λ b. ran_as id b ∷ []) (sym fails)

-- no run of a resource that a change does not end
pub ended_none : (c : Change) (e : List ℕ × Resource) → end_of c e.0 ≡ None → ended_by c e ≡ []
ended_none c e ends = ap (λ o. option_to_list (option_and_then (λ (y : Outcome). option_map (ran e.0 y) e.1.history.running) o)) ends
