-- The boots of a history over a store, and that whatever it leaves opens.
use Rattle.std.proofs.Common.{◌≡◌, ℕ, Bool, true, false, List, [], ◌∷◌, ◌++◌, Some, None, refl, sym, ap, ◌∙◌, arith}
use Rattle.std.specs.Prelude.{if◌then◌else◌, option_to_list}
use Rattle.ocf_model.specs.Answer.{moment}
use Rattle.ocf_model.specs.Boot.{any_busy, boot_at}
use Rattle.ocf_types.specs.Kinds.{Event}
use Rattle.ocf_model.specs.StateLemmas.{after_all-append}
use Rattle.ocf_model.specs.State.{State, after, after_all}
use Rattle.exec_ledger.specs.Boots.{booted}
use Rattle.store_model.specs.StoreView.{Lawful, StoreView}
use Rattle.executor_laws.specs.Incarnations.{AreIncarnations, GoesOnFrom, InOpening, Incarnation, IncarnationsOpen, Up, boots}
use Rattle.executor_laws.proofs.Incarnations.Uptimes.{uptime_opens}

-- the state after the boot that is needed, if one is
pub boots_is : (s : State) (now : ℕ) → after_all s (boots s now) ≡ booted s now
boots_is s now = by (any_busy s)
  where
    at : ℕ
    at = moment s now

    by : (b : Bool) → after_all s (option_to_list (if b then Some (boot_at at) else None)) ≡ (if b then after s (boot_at at) else s)
    by true = refl
    by false = refl

-- the state after some events and the boot that it needs
pub after_boots : (start : State) (ys : List Event) (s : State) (now : ℕ) → s ≡ after_all start ys
    → after_all start (ys ++ boots (after_all start ys) now) ≡ booted s now
after_boots start ys s now same =
    after_all-append start ys (boots (after_all start ys) now) ∙ boots_is (after_all start ys) now ∙ ap (λ (t : State). booted t now) (sym same)

module _ {S : Type 0} (view : S → StoreView) (lawful : (k : S) → (view k).honest → Lawful (view k)) (start : State) where
  -- whatever a history leaves opens, with space for its boot
  pub incarnations_open : (incarnations : List (Incarnation S)) → AreIncarnations view (GoesOnFrom view start) incarnations
      → IncarnationsOpen view incarnations
  incarnations_open [] is = tt
  incarnations_open (InOpening old new now end ∷ older) (is, from, ends, honest) =
      let before = from.opens (incarnations_open older is) in (
        ends.did.opens honest (view old).clock (omega arith) before.0,
        ends.did.boots honest (view old).clock (omega arith) before.1,
      )
  incarnations_open (Up x ∷ older) (is, from, serves, honest) = uptime_opens view lawful x serves honest
