-- The text of a list of items, with one more item.
use Rattle.std.proofs.Common.{◌≡◌, ℕ, ◌+◌, ◌<◌, ◌++◌, List, [], ◌∷◌, length, take, get_or, slice_index, sym, ap, ◌∙◌}
use Rattle.std.proofs.lemmas.List.{append-nil, append_assoc, take_more}
use Rattle.std.proofs.lemmas.Grind.{flat_map-append, get_or_default_zero}
use Rattle.std.specs.List.{flat_map}
use Rattle.ocf_types.specs.Lemmas.{flat_more}
use Rattle.ocf_model.specs.Indexes.{entry_at, no_entry}
use Rattle.ocf_model.specs.Resource.{Resource}
use Rattle.ocf_model.specs.State.{State}

-- one more item, at an index within the list
pub item_more : {X : Type 0} (f : X → List ℕ) (xs : List X) (i : ℕ) (x : X) (prefix : List ℕ) → i < length xs → x ≡ get_or xs i x
    → (prefix ++ flat_map f (take i xs)) ++ f x ≡ prefix ++ flat_map f (take (i + 1) xs)
item_more f xs i x prefix lt is =
    append_assoc prefix (flat_map f (take i xs)) (f x) ∙ ap (λ t. prefix ++ t) (sym (flat_more f xs i x lt is))

-- one more resource
pub entry_more : (f : List ℕ × Resource → List ℕ) (s : State) (i : ℕ) (prefix : List ℕ) → i < length s.resources
    → (prefix ++ flat_map f (take i s.resources)) ++ f (entry_at s i) ≡ prefix ++ flat_map f (take (i + 1) s.resources)
entry_more f s i prefix lt =
    let es = take i s.resources in
    let one = ap (λ t. flat_map f es ++ t) (sym (append-nil (f (entry_at s i)))) in
    let all = ap (flat_map f) (take_more s.resources i no_entry lt) ∙ flat_map-append f es (entry_at s i ∷ []) in
    append_assoc prefix (flat_map f es) (f (entry_at s i)) ∙ ap (λ t. prefix ++ t) (one ∙ sym all)

-- one more byte
pub byte_more : (f : ℕ → List ℕ) (bs : List ℕ) (i : ℕ) (prefix now : List ℕ) → i < length bs → now ≡ prefix ++ flat_map f (take i bs)
    → now ++ f (slice_index bs i) ≡ prefix ++ flat_map f (take (i + 1) bs)
byte_more f bs i prefix now lt is =
    ap (λ t. t ++ f (slice_index bs i)) is ∙ append_assoc prefix (flat_map f (take i bs)) (f (slice_index bs i))
    ∙ ap (λ t. prefix ++ t) (sym (flat_more f bs i (slice_index bs i) lt (index_is bs i lt)))
  where
    index_is : (bs : List ℕ) (i : ℕ) → i < length bs → slice_index bs i ≡ get_or bs i (slice_index bs i)
    index_is bs i lt = sym (get_or_default_zero bs i (slice_index bs i) lt)

-- a text that was added after another one
pub after : (old x mid piece y new : List ℕ) → mid ≡ old ++ x → new ≡ mid ++ piece → piece ≡ y → new ≡ old ++ (x ++ y)
after old x mid piece y new first rest is = rest ∙ (λ i. first i ++ is i) ∙ append_assoc old x y
