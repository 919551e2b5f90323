-- Histories of incarnations: an executor is opened, called, and crashes at any moment, again and again.
use Rattle.std.specs.Prelude.{◌≡◌, ◌⊎◌, ◌≤◌, ℕ, ⊤, List, [], ◌∷◌, ◌++◌, Option, Some, None, option_to_list}
use Rattle.ocf_model.specs.Answer.{moment}
use Rattle.ocf_model.specs.Boot.{boot_event}
use Rattle.ocf_types.specs.Kinds.{Event}
use Rattle.ocf_model.specs.State.{State, after_all}
use Rattle.ocf_types.specs.declared.notice.Notice.{Notice}
use Rattle.child_model.specs.Children.{Asked, ChildrenView}
use Rattle.exec_ledger.specs.Pieces.{Effects, HasBegin, followed_by}
use Rattle.executor.specs.OnStores.{OpensOn, StartsLike}
use Rattle.exec_ledger.specs.Boots.{booted}
use Rattle.executor.specs.declared.opening.OpenError.{OpenError}
use Rattle.executor.specs.declared.opening.OpenError.TheVariants.{Disk}
use Rattle.executor.specs.Interruptions.{dropped, interrupted}
use Rattle.executor.specs.Exchanges.{Calls, Exchange}
use Rattle.executor.specs.ExecutorView.{ExecutorView}
use Rattle.store_model.specs.StoreView.{StoreView}
use Rattle.store_model.specs.Crashes.{CrashesTo}

-- An incarnation whose opening succeeded: the store that its opening was handed, and when; the executor as it was opened, as the
-- calls that returned left it, and as those under way would have left it; the effects of both; and the store's clock, a number
-- of device calls, when it crashed or was closed.
pub record Uptime (S : Type 0) : Type 0 where
  pub store : S
  pub now : ℕ
  pub opened : ExecutorView S
  pub returned : ExecutorView S
  pub last : ExecutorView S
  pub done : Effects
  pub under_way : Effects
  pub stop : ℕ

-- It was opened, calls returned, others were begun, and it crashed at some moment after the last return.
pub record IsUptime {S : Type 0} (view : S → StoreView) (x : Uptime S) : Type 0 where
  pub children : ChildrenView
  pub was_running : List Notice
  pub was_queued : List Notice
  pub opens : OpensOn view x.store children x.now x.opened was_running was_queued
  pub calls : List Exchange
  pub returns : Calls view x.opened calls x.returned x.done
  pub begun : List Exchange
  pub goes_on : Calls view x.returned begun x.last x.under_way
  pub following : (view x.returned.store).clock ≤ x.stop

-- an incarnation: an opening that was refused for a fault, or in which the crash came, from one store to another; or one whose
-- opening was done
pub data Incarnation (S : Type 0) : Type 0 where
  InOpening : S → S → ℕ → Option OpenError → Incarnation S
  Up : Uptime S → Incarnation S

-- an opening that ended so may have recorded its boot: it crashed, or the device failed
abbrev pub MayBoot : Option OpenError → Type 0
MayBoot None = ⊤
MayBoot (Some Disk) = ⊤
MayBoot (Some _) = ⊥

-- An opening at this moment that was refused or crashed: it leaves a state that a crash might have left before, without its boot
-- unless one may be recorded.
pub record EndsOpening (old new : StoreView) (now : ℕ) (end : Option OpenError) : Type 0 where
  pub did : CrashesTo old new (StartsLike (old.leaves old.clock) now)
  pub unbooted : (MayBoot end → ⊥) → CrashesTo old new (old.leaves old.clock)

-- the store that its opening was handed, and the one that it worked on at its end
abbrev pub first_store : {S : Type 0} → Incarnation S → S
first_store (InOpening old new now end) = old
first_store (Up x) = x.store

abbrev pub last_store : {S : Type 0} → Incarnation S → S
last_store (InOpening old new now end) = new
last_store (Up x) = x.last.store

-- the moment of the store's clock from which on the crash came
abbrev pub stop_of : {S : Type 0} → (S → StoreView) → Incarnation S → ℕ
stop_of view (InOpening old new now end) = (view old).clock
stop_of view (Up x) = x.stop

-- what is so of every incarnation: its opening ended so, or it was opened, was called, and crashed
abbrev pub Lasted : {S : Type 0} → (S → StoreView) → Incarnation S → Type 0
Lasted view (InOpening old new now end) = EndsOpening (view old) (view new) now end
Lasted view (Up x) = IsUptime view x

-- A history, the last incarnation first: each goes on from those before it, and its store is honest throughout.
abbrev pub AreIncarnations : {S : Type 0} → (S → StoreView) → (List (Incarnation S) → S → Type 0) → List (Incarnation S) → Type 0
AreIncarnations view goes_on [] = ⊤
AreIncarnations view goes_on (x ∷ older) =
    AreIncarnations view goes_on older × goes_on older (first_store x) × Lasted view x × (view (last_store x)).honest

-- the states that the crash of an incarnation may have left
abbrev pub CrashLeaves : {S : Type 0} → (S → StoreView) → Incarnation S → State → Type 0
CrashLeaves view x s = (view (last_store x)).leaves (stop_of view x) s

-- the states that a history may leave if it begins with this state; its last incarnation comes first in the list
abbrev pub IncarnationsLeave : {S : Type 0} → (S → StoreView) → State → List (Incarnation S) → State → Type 0
IncarnationsLeave view start [] s = s ≡ start
IncarnationsLeave view start (x ∷ older) s = CrashLeaves view x s

-- whatever a history left opens as a state, and has space for its boot
abbrev pub IncarnationsOpen : {S : Type 0} → (S → StoreView) → List (Incarnation S) → Type 0
IncarnationsOpen view [] = ⊤
IncarnationsOpen view (x ∷ older) =
    (view (last_store x)).opens (stop_of view x) × (view (last_store x)).boots (stop_of view x)

-- This store is one that a history may have left: each state that a crash may leave now is left by it, and the store opens, with
-- space for its boot, where that is so of what the history left.
pub record GoesOnFrom {S : Type 0} (view : S → StoreView) (start : State) (older : List (Incarnation S)) (store : S) : Type 0 where
  pub leaves : (s : State) → (view store).leaves (view store).clock s → IncarnationsLeave view start older s
  pub opens : IncarnationsOpen view older → (view store).opens (view store).clock × (view store).boots (view store).clock

-- the boot that an opening at this moment needs, if one is
abbrev pub boots : State → ℕ → List Event
boots s now = option_to_list (boot_event s (moment s now))

-- The events of an incarnation that remain after its crash: a prefix of them that has all events that the returned calls recorded,
-- and the begin of each start that was asked before the crash.
pub record Survives {S : Type 0} (x : Uptime S) (p : List Event) : Type 0 where
  pub others : List Event
  pub prefix : p ++ others ≡ (followed_by x.done x.under_way).events ++ (followed_by x.done x.under_way).pending
  pub later : List Event
  pub acknowledged : p ≡ x.done.events ++ later
  pub begins : (run clock : ℕ) → Asked (followed_by x.done x.under_way).entries run clock → clock ≤ x.stop → HasBegin run p

-- The events of a history that remain, from the state with which it began: of each incarnation its boot, which remains if the
-- opening succeeded and may remain if the opening crashed or the device failed in it, and a prefix (`Survives`) of the events
-- of its calls.
abbrev pub SurvivingEvents : {S : Type 0} → State → List (Incarnation S) → List Event → Type 0
SurvivingEvents start [] zs = zs ≡ []
SurvivingEvents {S} start (InOpening old new now end ∷ older) zs =
    (ys : List Event) × SurvivingEvents start older ys × ((zs ≡ ys) ⊎ (MayBoot end × (zs ≡ ys ++ boots (after_all start ys) now)))
SurvivingEvents {S} start (Up x ∷ older) zs =
    (ys : List Event) × (p : List Event) × SurvivingEvents start older ys × Survives x p × (zs ≡ ys ++ (boots (after_all start ys) x.now ++ p))

-- An opening after a history gives this state and this report: the state after the events that remain and the boot; the actions that
-- ran there are reported as interrupted, those that were queued as dropped.
pub record OpensAfter {S : Type 0} (start : State) (incarnations : List (Incarnation S)) (now : ℕ) (t : State) (was_running was_queued : List Notice) : Type 0 where
  pub holds : List Event
  pub surviving : SurvivingEvents start incarnations holds
  pub state : t ≡ booted (after_all start holds) now
  pub ran : was_running ≡ interrupted (after_all start holds) (moment (after_all start holds) now)
  pub queued : was_queued ≡ dropped (after_all start holds) (moment (after_all start holds) now)
