-- An opening of a store, and then that of an executor over it.
use Rattle.std.proofs.Common.{◌≡◌, ℕ, List, Some, sym, subst, arith}
use Rattle.ocf_model.specs.State.{State}
use Rattle.ocf_types.specs.declared.notice.Notice.{Notice}
use Rattle.child_model.specs.Children.{ChildrenView}
use Rattle.store_model.specs.Calls.{OpensStore}
use Rattle.exec_ledger.specs.Boots.{BootsFrom}
use Rattle.store_model.specs.Crashes.{CrashesTo}
use Rattle.store_model.specs.Lemmas.{weakened}
use Rattle.store_model.specs.StoreView.{StoreView}
use Rattle.executor.proofs.Openings.OnStores.{both_crash}
use Rattle.executor.specs.ExecutorView.{ExecutorView}
use Rattle.executor.specs.OnStores.{NotOpenedOn, OpensFrom, OpensOn, StartsLike}
use Rattle.executor.specs.declared.opening.OpenError.{OpenError}
use Rattle.executor.specs.declared.opening.OpenError.TheVariants as why
use Rattle.executor_laws.specs.Incarnations.{EndsOpening, MayBoot}

module _ {S : Type 0} (view : S → StoreView) (old mid : S) (s : State) (opens : OpensStore (view old) (view mid) s) where
  -- the states that a crash might have left before
  abbrev Was : State → Type 0
  Was x = (view old).leaves (view old).clock x

  -- the executor was opened
  pub joined_opened : (from : ChildrenView) (now : ℕ) (x : ExecutorView S) (ran queued : List Notice)
      → OpensFrom view (λ t. t ≡ s) mid from now x ran queued → OpensOn view old from now x ran queued
  joined_opened from now x ran queued over = record {
    over = over.over;
    sound = over.sound;
    starts = λ h. let starts = over.starts h in
        record {
          state = starts.state;
          found = subst Was (sym starts.found) (opens.found (over.crash.passed.honest h));
          boot = starts.boot;
          due_is = starts.due_is;
          ran = starts.ran;
          queued = starts.queued;
        };
    opening_report = over.opening_report;
    crash = both_crash view old mid s opens x.store now (weakened (view mid) (view x.store) (StartsLike (λ t. t ≡ s) now) (BootsFrom s now)
        (λ h y left. subst (λ (t : State). BootsFrom t now y) left.1 left.2) over.crash);
  }

  -- it was refused
  pub joined_refused : (new : S) (from to : ChildrenView) (now : ℕ) (fault : OpenError) → NotOpenedOn view s mid new from to now fault
      → EndsOpening (view old) (view new) now (Some fault)
  joined_refused new from to now fault fails = record {
    did = both_crash view old mid s opens new now fails.crash;
    unbooted = λ never. subst (λ (k : S). CrashesTo (view old) (view k) Was)
        (sym (fails.unwritten (λ is. never (subst (λ (f : OpenError). MayBoot (Some f)) (sym is) (tt {0}))))) opens.crash;
  }

  -- where what was left before had space for its boot, the store is not full
  pub had_reserve : (new : S) (from to : ChildrenView) (now : ℕ) (fault : OpenError) → NotOpenedOn view s mid new from to now fault
      → (view old).boots (view old).clock → (view new).honest → fault ≡ why.Full → ⊥
  had_reserve new from to now fault fails boots honest is =
      let lacks = fails.full is in
      let reserve = opens.reserve (fails.crash.passed.honest honest) boots lacks.0 in
      let short = lacks.1 in
      omega (arith, reserve, short)
