-- The view of a ledger, and its invariant.
use Rattle.std.specs.Prelude.{◌≡◌, Bool, true, false}
use Rattle.ocf_model.specs.Due.{Due}
use Rattle.ocf_model.specs.State.{State}
use Rattle.store_model.specs.Batches.{HasReserve}
use Rattle.store_model.specs.Calls.{IsSettled}
use Rattle.store_model.specs.StoreView.{StoreView}
use Rattle.exec_state.specs.StateValue.{Monitors, StateValue, due_of}
use Rattle.exec_ledger.specs.declared.recorder.Recorder.{Recorder}

-- one statement while something is open, and another once it is closed
abbrev pub While : Bool → Type 0 → Type 0 → Type 0
While true R S = R
While false R S = S

-- the view: whether it records, its state, its recurring monitors with their due moments, its store, and whether its allocator
-- refuses growths
pub record LedgerView (S : Type 0) : Type 0 where
  pub is_open : Bool
  pub state : State
  pub monitors : Monitors
  pub store : S
  pub refuses : Bool

-- the view of a store and a state, open or closed, and that of a recorder
abbrev pub ledger_view : {S : Type 0} → Bool → S → StateValue → LedgerView S
ledger_view is_open store state = record {
  is_open = is_open;
  state = state.state;
  monitors = state.monitors;
  store = store;
  refuses = state.refuses;
}

abbrev pub ledger_view_of : {S M : Type 0} → Recorder S M → LedgerView S
ledger_view_of b = ledger_view b.open b.store b.state

-- the due moments of its recurring monitors
abbrev pub due_in : {S : Type 0} → LedgerView S → Due
due_in h = due_of h.monitors

-- its store holds its state
abbrev pub IsOnStore : {S : Type 0} → (S → StoreView) → LedgerView S → Type 0
IsOnStore view h = IsSettled (view h.store) h.state

-- Its store holds its state, and has space for the results of what runs and for a boot.
pub record LedgerKeeps {S : Type 0} (view : S → StoreView) (h : LedgerView S) : Type 0 where
  pub settled : IsOnStore view h
  pub reserve : HasReserve (view h.store).tail h.state

-- the invariant: the same while it is open
abbrev pub LedgerInvariant : {S : Type 0} → (S → StoreView) → LedgerView S → Type 0
LedgerInvariant view h = h.is_open ≡ true → LedgerKeeps view h
