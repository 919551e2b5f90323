-- A change leaves a resource that it does not name as it was.
use Rattle.std.proofs.Common.{◌≡◌, ℕ, true, not, List, [], ◌∷◌, Some, refl}
use Rattle.std.specs.Str.{bytes_eq}
use Rattle.std.proofs.lemmas.List.{append-nil}
use Rattle.std.proofs.lemmas.List.Elements.{filter-append}
use Rattle.ocf_types.specs.declared.event.Change.TheVariants as change
use Rattle.ocf_types.specs.Kinds.{Change}
use Rattle.ocf_model.specs.State.{Registry, changed, named, others, registered, stepped}
use Rattle.ocf_model.proofs.Lists.{filter-filter}
use Rattle.ocf_model.proofs.Registries.{same_id, others-at_id}
pub use Rattle.ocf_model.specs.RegistryLemmas.{other_stays}

-- a change leaves the others in their order
pub order_stays : (at : ℕ) (c : Change) (rs : Registry) (id : List ℕ) → named c ≡ Some id → others id (changed at c rs) ≡ others id rs
order_stays at (change.Register r) rs id n =
    let is : r.id ≡ id = cc in
    let own : bytes_eq id r.id ≡ true = rw is (same_id id) in
    rw (filter-append (λ e. not (bytes_eq id e.0)) rs (registered r ∷ []), own, append-nil (others id rs)) refl
order_stays at (change.Unregister i) rs id n =
    let is : i ≡ id = cc in
    rw is (filter-filter (λ e. not (bytes_eq id e.0)) rs)
order_stays at (change.Step i what) rs id n =
    let is : i ≡ id = cc in
    rw is (others-at_id id (stepped at what) rs)
order_stays at change.Boot rs id n = absurd (cc)
