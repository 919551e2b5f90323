-- The object of a resource, for a program.
use Rattle.std.proofs.Common.{◌≡◌, ◌++◌, ℕ, false, List, [], ◌∷◌, map, Option, Some, None, refl, ap, ◌∙◌}
use Rattle.std.proofs.lemmas.List.{map-append}
use Rattle.serde_json.specs.Data.{Data}
use Rattle.serde_json.specs.View.{view}
use Rattle.serde_json.specs.declared.value.Value.{Value}
use Rattle.serde_json.specs.Written.{has_float}
use Rattle.ocf_model.specs.Resource.{Resource}
use Rattle.ocf_types.specs.declared.operation.Ended.{Ended}
use Rattle.ocf_types.specs.declared.operation.Running.{Running}
use Rattle.resource_status.specs.Conditions.{since_of}
use Rattle.resource_status.specs.Statuses.{doing_data, failure_data, reason_data, resource_data, since_data}
use Rattle.resource_status.specs.declared.condition.Since.{Since}

pub reason_no_float : (reason : Option (List ℕ)) → has_float (reason_data reason) ≡ false
reason_no_float None = refl
reason_no_float (Some text) = refl

pub failure_no_float : (reason : Option (List ℕ)) (last : Option Ended) → has_float (failure_data reason last) ≡ false
failure_no_float reason None = refl
failure_no_float reason (Some e) = rw (reason_no_float reason) refl

doing_no_float : (r : Option Running) → has_float (doing_data r) ≡ false
doing_no_float None = refl
doing_no_float (Some x) = refl

since_no_float : (k : Option Since) → has_float (since_data k) ≡ false
since_no_float None = refl
since_no_float (Some k) = refl

pub resource_has_no_float : (reason : Option (List ℕ)) (e : List ℕ × Resource) → has_float (resource_data reason e) ≡ false
resource_has_no_float reason e =
    rw (failure_no_float reason e.1.history.failed, doing_no_float e.1.history.running, since_no_float (since_of e.1.history)) refl

-- the values of resources, and one more
pub status_more : (xs ys : List Value) (v : Value) (d : Data) → ys ≡ xs ++ v ∷ [] → view v ≡ d → map view ys ≡ map view xs ++ d ∷ []
status_more xs ys v d more is =
    ap (map view) more ∙ map-append view xs (v ∷ []) ∙ ap (λ (e : Data). map view xs ++ e ∷ []) is
