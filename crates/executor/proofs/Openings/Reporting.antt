-- Notices, one resource and one action after the other.
use Rattle.std.proofs.Common.{get_or, ◌≡◌, ℕ, ◌+◌, ◌<◌, List, [], ◌∷◌, ◌++◌, length, map, take, Some, sym, ap, ◌∙◌, append_assoc}
use Rattle.std.specs.Prelude.{slice_get}
use Rattle.std.specs.List.{flat_map}
use Rattle.std.proofs.lemmas.List.{map_more}
use Rattle.ocf_types.specs.Lemmas.{flat_more}
use Rattle.ocf_types.specs.declared.operation.Op.{Op}
use Rattle.ocf_types.specs.declared.notice.Notice.{Notice}
use Rattle.std.proofs.lemmas.Option.{get_or_from_slice_get, slice_get-get_or, slice_get_within}
use Rattle.ocf_model.specs.Notices.{drop_notice}
use Rattle.ocf_model.specs.Indexes.{entry_at, no_entry}
use Rattle.ocf_model.specs.Resource.{Resource}
use Rattle.ocf_model.specs.State.{State}

-- the entry at an index
entry_there : (s : State) (i : ℕ) → i < length s.resources → entry_at s i ≡ get_or s.resources i (entry_at s i)
entry_there s i lt =
    sym (get_or_from_slice_get s.resources i (entry_at s i) (entry_at s i) (slice_get-get_or s.resources i no_entry lt))

-- the notices of one more resource
pub reported_more : (sends : List ℕ × Resource → List Notice) (s : State) (i : ℕ) (out new : List Notice) → i < length s.resources
    → out ≡ flat_map sends (take i s.resources) → new ≡ out ++ sends (entry_at s i)
    → new ≡ flat_map sends (take (i + 1) s.resources)
reported_more sends s i out new lt so_far pushed =
    pushed ∙ ap (λ (t : List Notice). t ++ sends (entry_at s i)) so_far
    ∙ sym (flat_more sends s.resources i (entry_at s i) lt (entry_there s i lt))

-- the notice of one more action
pub drop_more : (id : List ℕ) (at i : ℕ) (queue : List Op) (o : Op) (old out new : List Notice) (n : Notice) → slice_get queue i ≡ Some o
    → n ≡ drop_notice id at o → out ≡ old ++ map (drop_notice id at) (take i queue) → new ≡ out ++ n ∷ []
    → new ≡ old ++ map (drop_notice id at) (take (i + 1) queue)
drop_more id at i queue o old out new n e is so_far pushed =
    pushed
    ∙ ap (λ (t : List Notice). t ++ n ∷ []) so_far
    ∙ append_assoc old (map (drop_notice id at) (take i queue)) (n ∷ [])
    ∙ ap (λ (m : Notice). old ++ (map (drop_notice id at) (take i queue) ++ m ∷ [])) is
    ∙ ap (λ (m : Notice). old ++ (map (drop_notice id at) (take i queue) ++ m ∷ []))
    (ap (drop_notice id at) (sym (get_or_from_slice_get queue i o o e)))
    ∙ ap (λ (t : List Notice). old ++ t) (sym (map_more (drop_notice id at) queue i o (slice_get_within queue i o e)))
