-- The crash condition of an opening of a store, and then of that of an executor over it.
use Rattle.std.proofs.Common.{inl, ℕ, refl}
use Rattle.ocf_model.specs.State.{State}
use Rattle.store_model.specs.Calls.{OpensStore}
use Rattle.exec_ledger.specs.Boots.{BootsFrom}
use Rattle.store_model.specs.Crashes.{CrashesTo}
use Rattle.store_model.specs.Lemmas.{joined, weakened}
use Rattle.store_model.specs.StoreView.{StoreView}
use Rattle.executor.specs.OnStores.{StartsLike}

module _ {S : Type 0} (view : S → StoreView) (old mid : S) (s : State) (opens : OpensStore (view old) (view mid) s) where
  -- the states that a crash might have left before
  abbrev Was : State → Type 0
  Was x = (view old).leaves (view old).clock x

  -- the boot after the opening of the store
  pub both_crash : (new : S) (now : ℕ) → CrashesTo (view mid) (view new) (BootsFrom s now) → CrashesTo (view old) (view new) (StartsLike Was now)
  both_crash new now crash = joined (view old) (view mid) (view new) (StartsLike Was now)
      (weakened (view old) (view mid) Was (StartsLike Was now) (λ h x left. (x, left, inl refl)) opens.crash)
      (weakened (view mid) (view new) (BootsFrom s now) (StartsLike Was now) (λ h x boots. (s, opens.found (crash.passed.honest h), boots)) crash)
