-- The index of due moments agrees with the recurring monitors of all resources.
use Rattle.std.proofs.Common.{◌≡◌, ℕ, zero, suc, Bool, true, false, not, ◌++◌, filter, slice_get, length, List, [], ◌∷◌, Option, Some, None, unwrap_or}
use Rattle.std.proofs.Common.{refl, sym, ap, subst, ◌∙◌}
use Rattle.std.specs.List.{AllByRecursion, IsDistinct}
use Rattle.std.specs.Map.{keys_of, lookup, remove_entry}
use Rattle.std.specs.Option.{option_map}
use Rattle.std.specs.Str.{bytes_eq}
use Rattle.std.proofs.lemmas.List.{map-append}
use Rattle.std.proofs.lemmas.Map.Keys.{IsDistinct-head, IsDistinct-tail}
use Rattle.std.proofs.lemmas.Map.Made.{lookup-map_values}
use Rattle.indexmap.specs.IndexMap.{set_value_at}
use Rattle.ocf_types.specs.Lemmas.{other_way}
use Rattle.ocf_model.specs.RegistryLemmas.{same_id}
use Rattle.ocf_model.specs.State.{at_id}
use Rattle.recurring.specs.declared.monitor.Monitor.{Monitor}
use Rattle.recurring.specs.DueIndex.{Dues, pairs_at, pairs_of_all}
use Rattle.recurring.specs.Monitors.{pairs}
use Rattle.exec_state.specs.declared.registered.Registered.{Registered}
use Rattle.exec_state.specs.Seen.{seen, seen_all, monitors_all, map_entries}
use Rattle.exec_state.specs.StateValue.{Monitors, all_pairs, dues_by_id, monitors_at}
use Rattle.exec_state.proofs.Choices.{none_before}
use Rattle.exec_state.proofs.Entries.{IsAbsent, at_id-absent, map_entries-remove_entry}
use Rattle.exec_state.proofs.Lookups.{key_fact}

-- the pairs of an entry's monitors
abbrev pairs_in : {H : Type 0} → Registered H → List (ℕ × ℕ)
pairs_in r = pairs r.monitors

dues_seen : {H : Type 0} (es : List (List ℕ × Registered H)) → dues_by_id (monitors_all es) ≡ map_entries pairs_in es
dues_seen [] = refl
dues_seen (e ∷ es) = ap (λ (xs : Dues). (e.0, pairs e.1.monitors) ∷ xs) (dues_seen es)

keys_dues : {H : Type 0} (es : List (List ℕ × Registered H)) → keys_of (dues_by_id (monitors_all es)) ≡ keys_of es
keys_dues [] = refl
keys_dues (e ∷ es) = ap (λ (ks : List (List ℕ)). e.0 ∷ ks) (keys_dues es)

keys_set : {H : Type 0} (es : List (List ℕ × Registered H)) (i : ℕ) (w : Registered H) → keys_of (set_value_at es i w) ≡ keys_of es
keys_set [] i w = refl
keys_set (e ∷ es) zero w = refl
keys_set (e ∷ es) (suc i) w = ap (λ (ks : List (List ℕ)). e.0 ∷ ks) (keys_set es i w)

-- the same with one more resource
pub dues_more : (old new : Monitors) (id : List ℕ) (ms : List Monitor) → new ≡ old ++ (id, ms) ∷ []
    → dues_by_id new ≡ dues_by_id old ++ (id, pairs ms) ∷ []
dues_more old new id ms is = rw is (map-append (λ (e : List ℕ × List Monitor). (e.0, pairs e.1)) old ((id, ms) ∷ []))

-- a write at the id of the last entry
pub at_id-last : {A : Type 0} (id : List ℕ) (f : A → A) (es : List (List ℕ × A)) (v : A) → lookup (bytes_eq id) es ≡ None
    → at_id id f (es ++ (id, v) ∷ []) ≡ es ++ (id, f v) ∷ []
at_id-last id f [] v none = rw (same_id id) refl
at_id-last {A = A} id f (e ∷ es) v none = by (bytes_eq id e.0) refl (at_id-last id f es v)
  where
    by : (b : Bool) → bytes_eq id e.0 ≡ b → (lookup (bytes_eq id) es ≡ None → at_id id f (es ++ (id, v) ∷ []) ≡ es ++ (id, f v) ∷ [])
        → at_id id f (e ∷ es ++ (id, v) ∷ []) ≡ e ∷ es ++ (id, f v) ∷ []
    by true same rest = absurd (let some : Some e.1 ≡ None = rw same at none in cc)
    by false other rest = rw other (ap (λ (xs : List (List ℕ × A)). e ∷ xs) (rest (rw other at none)))

-- the monitors of the resource at an index, replaced
pub dues_set_at : {H : Type 0} (es : List (List ℕ × Registered H)) (i : ℕ) (w : Registered H)
    → dues_by_id (monitors_all (set_value_at es i w)) ≡ set_value_at (dues_by_id (monitors_all es)) i (pairs w.monitors)
dues_set_at [] i w = refl
dues_set_at (e ∷ es) zero w = refl
dues_set_at (e ∷ es) (suc i) w = ap (λ (xs : Dues). (e.0, pairs e.1.monitors) ∷ xs) (dues_set_at es i w)

pub length-dues : {H : Type 0} (es : List (List ℕ × Registered H)) → length (dues_by_id (monitors_all es)) ≡ length es
length-dues [] = refl
length-dues (e ∷ es) = ap suc (length-dues es)

-- the same without a resource
pub dues_without : {H : Type 0} (id : List ℕ) (es : List (List ℕ × Registered H)) → IsDistinct bytes_eq (keys_of es)
    → dues_by_id (monitors_all (remove_entry (bytes_eq id) es)) ≡ filter (λ e. not (bytes_eq id e.0)) (dues_by_id (monitors_all es))
dues_without id es distinct =
    dues_seen (remove_entry (bytes_eq id) es) ∙ map_entries-remove_entry pairs_in id es distinct
    ∙ ap (λ (xs : Dues). filter (λ e. not (bytes_eq id e.0)) xs) (sym (dues_seen es))

-- the monitors of the resource at an index, written again
pub dues_written_at : {H : Type 0} (es : List (List ℕ × Registered H)) (i : ℕ) (id : List ℕ) (u w : Registered H)
    → IsDistinct bytes_eq (keys_of es) → Some (id, u) ≡ slice_get (set_value_at es i w) i
    → dues_by_id (monitors_all (set_value_at es i w)) ≡ at_id id (λ ps. pairs u.monitors) (dues_by_id (monitors_all es))
dues_written_at [] i id u w distinct at = absurd (let none : Some (id, u) ≡ None = at in cc)
dues_written_at (e ∷ es) zero id u w distinct at =
    let here : Some (id, u) ≡ Some (e.0, w) = at in
    let same : (e.0, w) ≡ (id, u) = cc in
    let key : e.0 ≡ id = ap (λ (x : List ℕ × Registered _). x.0) same in
    let value : w ≡ u = ap (λ (x : List ℕ × Registered _). x.1) same in
    let absent : IsAbsent id (dues_by_id (monitors_all es)) = subst (λ (k : List ℕ). IsAbsent k (dues_by_id (monitors_all es))) key
    (subst (λ (ks : List (List ℕ)). AllByRecursion (λ k. bytes_eq e.0 k ≡ false) ks) (sym (keys_dues es))
    (IsDistinct-head bytes_eq e.0 (keys_of es) distinct)) in
    rw (key, value, same_id id)
    (ap (λ (xs : Dues). (id, pairs u.monitors) ∷ xs) (sym (at_id-absent id (λ ps. pairs u.monitors) (dues_by_id (monitors_all es)) absent)))
dues_written_at (e ∷ es) (suc i) id u w distinct at =
    let apart : bytes_eq e.0 id ≡ false
    = key_fact (λ x. bytes_eq e.0 x ≡ false) (set_value_at es i w) i id u
    (subst (λ (ks : List (List ℕ)). AllByRecursion (λ k. bytes_eq e.0 k ≡ false) ks) (sym (keys_set es i w))
    (IsDistinct-head bytes_eq e.0 (keys_of es) distinct)) at in
    rw (other_way e.0 id apart)
    (ap (λ (xs : Dues). (e.0, pairs e.1.monitors) ∷ xs)
    (dues_written_at es i id u w (IsDistinct-tail bytes_eq e.0 (keys_of es) distinct) at))

-- the pairs of all resources are those of all monitors
pub dues_all : (all : Monitors) → pairs_of_all (dues_by_id all) ≡ all_pairs all
dues_all [] = refl
dues_all (e ∷ es) = ap (λ (ps : List (ℕ × ℕ)). pairs e.1 ++ ps) (dues_all es)

-- the pairs of a resource are those of its monitors
pub dues_at : (id : List ℕ) (all : Monitors) → pairs_at (dues_by_id all) id ≡ pairs (monitors_at all id)
dues_at id all = rw (lookup-map_values pairs (bytes_eq id) all) (by (lookup (bytes_eq id) all))
  where
    by : (o : Option (List Monitor)) → unwrap_or (option_map pairs o) [] ≡ pairs (unwrap_or o [])
    by None = refl
    by (Some ms) = refl

-- an id without a resource is not in the index
pub dues_absent : {H : Type 0} (id : List ℕ) (es : List (List ℕ × Registered H)) → lookup (bytes_eq id) (seen_all es) ≡ None
    → lookup (bytes_eq id) (dues_by_id (monitors_all es)) ≡ None
dues_absent id es none =
    let there : lookup (bytes_eq id) es ≡ None = none_before seen _ (sym (lookup-map_values seen (bytes_eq id) es) ∙ none) in
    ap (lookup (bytes_eq id)) (dues_seen es) ∙ lookup-map_values pairs_in (bytes_eq id) es ∙ ap (option_map pairs_in) there
