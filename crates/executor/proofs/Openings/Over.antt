-- An opening over a store: its boot, and why it is refused.
use Rattle.std.proofs.Common.{◌≡◌, ◌<◌, ◌≤◌, inl, inr, ℕ, Bool, true, false, true≢false, cond, List, Ok, Err, refl, sym, ◌∙◌, ap, subst, arith}
use Rattle.ocf_model.specs.Answer.{moment}
use Rattle.ocf_model.specs.Boot.{any_busy, boot, boot_at}
use Rattle.ocf_model.specs.Due.{due_at}
use Rattle.ocf_model.specs.State.{State, after}
use Rattle.ocf_types.specs.declared.notice.Notice.{Notice}
use Rattle.two_parts.specs.declared.damage.Damage.{Damage}
use Rattle.child_model.specs.Children.{Admits, AllEnded, ChildrenView}
use Rattle.store_model.specs.Calls.{IsSettled}
use Rattle.store_model.specs.Crashes.{CrashesTo}
use Rattle.store_model.specs.Lemmas.{started, weakened}
use Rattle.store_model.specs.StoreView.{Increased, Lawful, StoreView}
use Rattle.store_model.specs.declared.fault.AppendFault.{AppendFault}
use Rattle.store_model.specs.declared.fault.AppendFault.TheVariants as append
use Rattle.exec_ledger.specs.Boots.{Boots, BootsFrom, LacksBoot, booted}
use Rattle.exec_ledger.specs.LedgerView.{LedgerView}
use Rattle.exec_ledger.proofs.Booting.{boot_quiet}
use Rattle.exec_turn.specs.Turns.{ChildrenMatch}
use Rattle.executor.specs.ExecutorView.{ExecutorView, due_in, ledger_of}
use Rattle.executor.specs.Interruptions.{dropped, interrupted}
use Rattle.executor.specs.OnStores.{IsOver, IsUnready, NotOpenedOn, OpensFrom, StartsLike, reported_append}
use Rattle.executor.specs.declared.opening.OpenError.{OpenError}
use Rattle.executor.specs.declared.opening.OpenError.TheVariants as why
use Rattle.executor.proofs.Keeping.{quiet_matched}

boot_next : (s : State) (m : ℕ) → (boot s m).next_run ≡ s.next_run
boot_next s m = by (any_busy s)
  where
    by : (b : Bool) → (cond b (after s (boot_at m)) s).next_run ≡ s.next_run
    by true = omega arith
    by false = refl

module _ {S : Type 0} (view : S → StoreView) (lawful : (k : S) → (view k).honest → Lawful (view k)) (store : S) (s : State)
    (settled : IsSettled (view store) s) (from to : ChildrenView) (now : ℕ) where
  -- nothing was done
  nothing_done : CrashesTo (view store) (view store) (BootsFrom s now)
  nothing_done = started (view store) (BootsFrom s now) (λ h x left. inl ((lawful store h).held s x (settled h) left))

  -- the children are another store's
  unready_foreign : to ≡ from → s.next_run ≤ from.last_run → NotOpenedOn view s store store from to now why.Foreign
  unready_foreign kids later = record {
    crash = nothing_done;
    unwritten = λ _. refl;
    quiet = λ _. refl;
    foreign = ((λ _. later), λ _. refl);
    kept = λ _. kids;
    given_up = λ not. absurd (not refl);
    full = λ is. let none : ⊥ = cc in absurd none;
    cause = λ is. let none : ⊥ = cc in absurd none;
    undamaged = λ d is. cc;
  }

  -- memory was refused, and the children were given up
  unready_memory : AllEnded from to → from.last_run < s.next_run → NotOpenedOn view s store store from to now why.Memory
  unready_memory kids low = record {
    crash = nothing_done;
    unwritten = λ _. refl;
    quiet = λ _. refl;
    foreign = ((λ is. let none : ⊥ = cc in absurd none), λ later. absurd (omega (arith, low, later)));
    kept = λ is. let none : ⊥ = cc in absurd none;
    given_up = λ _. kids;
    full = λ is. let none : ⊥ = cc in absurd none;
    cause = λ is. let none : ⊥ = cc in absurd none;
    undamaged = λ d is. cc;
  }

  pub unready : (fault : OpenError) → IsUnready from to s fault → NotOpenedOn view s store store from to now fault
  unready fault is = elim is.either [
    | inl foreign ↦ (let kids = is.foreign foreign in
        subst (λ (w : OpenError). NotOpenedOn view s store store from to now w) (sym foreign) (unready_foreign kids.0 kids.1))
    | inr memory ↦ (let kids = is.memory memory in
        subst (λ (w : OpenError). NotOpenedOn view s store store from to now w) (sym memory) (unready_memory kids.0 kids.1))
  ]

module _ {S : Type 0} (view : S → StoreView) (from : ChildrenView) (now : ℕ) (mid : ExecutorView S) (over : IsOver from mid) (new : LedgerView S) where
  -- the boot was recorded, or none was needed
  pub opened : (x : Unit) (final : ExecutorView S) (ran queued : List Notice) → Boots view now (ledger_of mid) new (Ok x) → final.is_open ≡ true
      → final.state ≡ new.state → final.store ≡ new.store → due_in final ≡ due_at final.state (moment mid.state now)
      → final.children ≡ mid.children → final.reported ≡ mid.reported
      → final.opening_report ≡ record { interrupted = ran; dropped = queued }
      → ran ≡ interrupted mid.state (moment mid.state now) → queued ≡ dropped mid.state (moment mid.state now)
      → Admits from.site final.site → OpensFrom view (λ t. t ≡ mid.state) mid.store from now final ran queued
  opened x final ran queued boots is_open state store due kids sends remembers ran_is queued_is admits =
      let done : final.state ≡ booted mid.state now = state ∙ boots.state in
      let quiet_now : any_busy final.state ≡ false = ap any_busy done ∙ boot_quiet mid.state (moment mid.state now) in
      let given : AllEnded from final.children = subst (AllEnded from) (sym kids) over.children in
      let next = ap (λ (u : State). u.next_run) done ∙ boot_next mid.state (moment mid.state now) in
      let low = over.rising in
      let rising : from.last_run < final.state.next_run = omega (arith, next, low) in
      let Like : State → Type 0 = StartsLike (λ t. t ≡ mid.state) now in record {
        over = record { is_open = is_open; children = given; reported = sends ∙ over.reported; rising = rising };
        sound = λ _. record {
          settled =
              subst (λ (k : S). IsSettled (view k) final.state) (sym store)
              (subst (λ (t : State). IsSettled (view new.store) t) (sym state) boots.settled);
          reserve = λ busy. absurd (true≢false (sym busy ∙ quiet_now));
          matched =
              subst (λ (v : ChildrenView). ChildrenMatch final.state v) (sym given.1) (quiet_matched final.state from given.0 quiet_now rising);
          admits = subst (λ (v : ChildrenView). Admits v.site final.site) (sym given.1) admits;
        };
        starts = λ h. record {
          state = mid.state;
          found = refl;
          boot = done;
          due_is = due;
          ran = ran_is;
          queued = queued_is;
        };
        opening_report = remembers;
        crash = subst (λ (k : S). CrashesTo (view mid.store) (view k) Like) (sym store)
            (weakened (view mid.store) (view new.store) (BootsFrom mid.state now) Like (λ h y left. (mid.state, refl, left)) boots.crash);
      }

  -- where nothing was queued or running the store is as it was
  pub stays_quiet : (x : Unit) (k : S) → Boots view now (ledger_of mid) new (Ok x) → k ≡ new.store → any_busy mid.state ≡ false → k ≡ mid.store
  stays_quiet x k boots store quiet = store ∙ ap (λ (h : LedgerView S). h.store) (boots.quiet quiet)

  -- the boot fitted
  pub had_space : (x : Unit) → Boots view now (ledger_of mid) new (Ok x) → LacksBoot (view mid.store).tail mid.state → ⊥
  had_space x boots lacks = let bad = boots.full.1 lacks in let none : ⊥ = cc in none

  -- the boot failed
  pub boot_refused : (fault : AppendFault) (k : S) → Boots view now (ledger_of mid) new (Err fault) → k ≡ new.store
      → NotOpenedOn view mid.state mid.store k from mid.children now (reported_append fault)
  boot_refused fault k boots same = record {
    crash = subst (λ (l : S). CrashesTo (view mid.store) (view l) (BootsFrom mid.state now)) (sym same) boots.crash;
    unwritten = λ not_disk. same ∙ boots.unwritten (ap Err (else_full fault not_disk));
    quiet = λ quiet. same ∙ ap (λ (h : LedgerView S). h.store) (boots.quiet quiet);
    foreign = ((λ is. absurd (no_foreign fault is)), λ later. let low = over.rising in absurd (omega (arith, low, later)));
    kept = λ is. absurd (no_foreign fault is);
    given_up = λ _. over.children;
    full = λ is. boots.full.0 (ap Err (as_full fault is));
    cause = λ is.
        subst (λ (l : S). Increased (view mid.store).failures (view l).failures) (sym same) (boots.cause (ap Err (as_disk fault is)));
    undamaged = λ d is. no_damage fault d is;
  }
    where
      no_damage : (f : AppendFault) (d : Damage) → reported_append f ≡ why.Damaged d → ⊥
      no_damage append.Disk d is = cc
      no_damage append.Full d is = cc

      as_disk : (f : AppendFault) → reported_append f ≡ why.Disk → f ≡ append.Disk
      as_disk append.Disk is = refl
      as_disk append.Full is = absurd cc

      as_full : (f : AppendFault) → reported_append f ≡ why.Full → f ≡ append.Full
      as_full append.Disk is = absurd cc
      as_full append.Full is = refl

      no_foreign : (f : AppendFault) → reported_append f ≡ why.Foreign → ⊥
      no_foreign append.Disk is = cc
      no_foreign append.Full is = cc

      else_full : (f : AppendFault) → (reported_append f ≡ why.Disk → ⊥) → f ≡ append.Full
      else_full append.Disk not = absurd (not refl)
      else_full append.Full not = refl

-- where an opening was refused for memory the boot was not
pub never_memory : (f : AppendFault) → reported_append f ≡ why.Memory → ⊥
never_memory append.Disk is = cc
never_memory append.Full is = cc
