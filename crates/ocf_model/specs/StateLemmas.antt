-- Lemmas on events, due monitors and boots, for proofs here and in the crates above.
use Rattle.std.specs.Prelude.{◌≡◌, ℕ, false, List, [], ◌∷◌, ◌++◌}
use Rattle.std.specs.List.{list_any}
use Rattle.std.proofs.Common.{inl, inr, arith, refl}
use Rattle.std.proofs.lemmas.List.Sums.{fold-append}
use Rattle.ocf_types.specs.declared.event.Change.TheVariants as change
use Rattle.ocf_types.specs.Kinds.{Event}
use Rattle.ocf_model.specs.Due.{IsBefore}
use Rattle.ocf_model.specs.Resource.{is_busy}
use Rattle.ocf_model.specs.State.{Registry, State, after, after_all, changed}

-- the state after two lists of events, one after the other
pub after_all-append : (s : State) (es fs : List Event) → after_all s (es ++ fs) ≡ after_all (after_all s es) fs
after_all-append s es fs = fold-append after s es fs

-- the order of due monitors is transitive
pub IsBefore-trans : (x y z : ℕ × ℕ) → IsBefore x y → IsBefore y z → IsBefore x z
IsBefore-trans x y z (inl h) (inl k) = inl (omega (arith, h, k))
IsBefore-trans x y z (inl h) (inr k) = inl (omega (arith, h, k.0))
IsBefore-trans x y z (inr h) (inl k) = inl (omega (arith, h.0, k))
IsBefore-trans x y z (inr h) (inr k) = inr (omega (arith, h.0, k.0), omega (arith, h.1, k.1))

-- after a boot nothing is queued or running
pub quiet : (at : ℕ) (rs : Registry) → list_any (λ e. is_busy e.1.history) (changed at change.Boot rs) ≡ false
quiet at [] = refl
quiet at (e ∷ es) = quiet at es
