-- Openings over a store: the state, the report, and what a crash leaves.
use Rattle.std.specs.Prelude.{◌≡◌, ◌⊎◌, ◌↔◌, ℕ, ◌<◌, ◌≤◌, true, false, List, []}
use Rattle.ocf_model.specs.Answer.{moment}
use Rattle.ocf_model.specs.Boot.{any_busy}
use Rattle.ocf_model.specs.Due.{Due, due_at}
use Rattle.ocf_model.specs.State.{State}
use Rattle.ocf_types.specs.declared.notice.Notice.{Notice}
use Rattle.two_parts.specs.declared.damage.Damage.{Damage}
use Rattle.store_model.specs.Crashes.{CrashesTo}
use Rattle.store_model.specs.StoreView.{Increased, StoreView}
use Rattle.store_model.specs.declared.fault.AppendFault.{AppendFault}
use Rattle.store_model.specs.declared.fault.AppendFault.TheVariants as append
use Rattle.child_model.specs.Children.{AllEnded, ChildrenView}
use Rattle.exec_ledger.specs.Boots.{BootsFrom, LacksBoot, booted}
use Rattle.executor.specs.ExecutorView.{ExecutorInvariant, ExecutorView, due_in}
use Rattle.executor.specs.Interruptions.{dropped, interrupted}
use Rattle.executor.specs.declared.opening.OpenError.{OpenError}
use Rattle.executor.specs.declared.opening.OpenError.TheVariants as why

-- An opening at this moment of a state that was found: the state after its boot, all recurring monitors due at that moment, and the
-- notices of the actions that ran and of those that were queued.
pub record Starts (was_found : State → Type 0) (now : ℕ) (t : State) (due : Due) (was_running was_queued : List Notice) : Type 0 where
  pub state : State
  pub found : was_found state
  pub boot : t ≡ booted state now
  pub due_is : due ≡ due_at t (moment state now)
  pub ran : was_running ≡ interrupted state (moment state now)
  pub queued : was_queued ≡ dropped state (moment state now)

-- a state that was found, or its boot
abbrev pub StartsLike : (State → Type 0) → ℕ → State → Type 0
StartsLike was_found now x = (s : State) × was_found s × BootsFrom s now x

-- an executor over these children, after all were given up and their end was asked for: none was started for a later state than its own
pub record IsOver {S : Type 0} (from : ChildrenView) (x : ExecutorView S) : Type 0 where
  pub is_open : x.is_open ≡ true
  pub children : AllEnded from x.children
  pub reported : x.reported ≡ []
  pub rising : from.last_run < x.state.next_run

-- The executor was opened over a store, in which one of these states was found: from the store before, and these children, and with
-- these notices, which it remembers.
pub record OpensFrom {S : Type 0} (view : S → StoreView) (was_found : State → Type 0) (old : S) (from : ChildrenView) (now : ℕ) (x : ExecutorView S)
    (was_running was_queued : List Notice) : Type 0 where
  pub over : IsOver from x
  pub sound : ExecutorInvariant view x
  pub starts : (view x.store).honest → Starts was_found now x.state (due_in x) was_running was_queued
  pub opening_report : x.opening_report ≡ record { interrupted = was_running; dropped = was_queued }
  -- at any moment a crash leaves a state that was found, or its boot
  pub crash : CrashesTo (view old) (view x.store) (StartsLike was_found now)

-- the same, where each state that a crash might have left before may be found
abbrev pub OpensOn : {S : Type 0} → (S → StoreView) → S → ChildrenView → ℕ → ExecutorView S → List Notice → List Notice → Type 0
OpensOn view old from now x was_running was_queued = OpensFrom view ((view old).leaves (view old).clock) old from now x was_running was_queued

-- a store that holds this state got no executor: its children are another store's, or there is no memory
pub record IsUnready (from to : ChildrenView) (s : State) (fault : OpenError) : Type 0 where
  pub either : (fault ≡ why.Foreign) ⊎ (fault ≡ why.Memory)
  pub foreign : fault ≡ why.Foreign → (to ≡ from) × (s.next_run ≤ from.last_run)
  pub memory : fault ≡ why.Memory → AllEnded from to × (from.last_run < s.next_run)

-- The executor was not opened over a store that held this state: from one view of the store and of the children to another.
pub record NotOpenedOn {S : Type 0} (view : S → StoreView) (s : State) (old new : S) (from to : ChildrenView) (now : ℕ) (fault : OpenError) : Type 0 where
  -- at any moment a crash leaves the state, or its boot; and nothing is recorded but where the device failed, nor where nothing was
  -- queued or running
  pub crash : CrashesTo (view old) (view new) (BootsFrom s now)
  pub unwritten : (fault ≡ why.Disk → ⊥) → new ≡ old
  pub quiet : any_busy s ≡ false → new ≡ old
  -- children that were started for another store's state are kept, and all others are given up
  pub foreign : (fault ≡ why.Foreign) ↔ (s.next_run ≤ from.last_run)
  pub kept : fault ≡ why.Foreign → to ≡ from
  pub given_up : (fault ≡ why.Foreign → ⊥) → AllEnded from to
  -- full only where a boot is needed and does not fit, and a fault only if a device failed
  pub full : fault ≡ why.Full → LacksBoot (view old).tail s
  pub cause : fault ≡ why.Disk → Increased (view old).failures (view new).failures
  pub undamaged : (d : Damage) → fault ≡ why.Damaged d → ⊥

-- why the boot was not recorded, as the executor reports it
abbrev pub reported_append : AppendFault → OpenError
reported_append append.Disk = why.Disk
reported_append append.Full = why.Full
