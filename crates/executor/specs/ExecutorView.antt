-- The view of an executor, and its invariant.
use Rattle.std.specs.Prelude.{◌≡◌, Bool, List, true}
use Rattle.ocf_model.specs.Due.{Due}
use Rattle.ocf_model.specs.State.{State}
use Rattle.ocf_types.specs.declared.notice.Notice.{Notice}
use Rattle.ocf_env.specs.Locations.{SiteView}
use Rattle.child_model.specs.Children.{Admits, ChildrenView}
use Rattle.exec_state.specs.StateValue.{Monitors, due_of}
use Rattle.exec_turn.specs.Turns.{ChildrenMatch}
use Rattle.exec_ledger.specs.LedgerView.{LedgerView}
use Rattle.executor.specs.Reports.{ReportView}
use Rattle.store_model.specs.Calls.{IsSettled}
use Rattle.store_model.specs.Batches.{HasReserve}
use Rattle.store_model.specs.StoreView.{StoreView}

-- the view: whether it takes requests, its state, its recurring monitors with their due moments, its store, its children, the site
-- at which it spawns agents, the notices of the last turn, the report of its opening, and whether its allocator refuses memory
pub record ExecutorView (S : Type 0) : Type 0 where
  pub is_open : Bool
  pub state : State
  pub monitors : Monitors
  pub store : S
  pub children : ChildrenView
  pub site : SiteView
  pub reported : List Notice
  pub opening_report : ReportView
  pub refuses : Bool

-- the view of a ledger and of what is beside it
abbrev pub executor_view : {S : Type 0} → LedgerView S → ChildrenView → SiteView → List Notice → ReportView → ExecutorView S
executor_view h children site reported opening_report = record {
  is_open = h.is_open;
  state = h.state;
  monitors = h.monitors;
  store = h.store;
  children = children;
  site = site;
  reported = reported;
  opening_report = opening_report;
  refuses = h.refuses;
}

-- the view of its ledger
abbrev pub ledger_of : {S : Type 0} → ExecutorView S → LedgerView S
ledger_of x = record {
  is_open = x.is_open;
  state = x.state;
  monitors = x.monitors;
  store = x.store;
  refuses = x.refuses;
}

-- only the ledger changes: all that is beside it is as it was
pub record OnlyLedgerChanges {S : Type 0} (old new : ExecutorView S) : Type 0 where
  pub children : new.children ≡ old.children
  pub site : new.site ≡ old.site
  pub reported : new.reported ≡ old.reported
  pub opening_report : new.opening_report ≡ old.opening_report

-- the due moments of its recurring monitors
abbrev pub due_in : {S : Type 0} → ExecutorView S → Due
due_in x = due_of x.monitors

-- Its store holds its state, with space for the results of what runs and for a boot, the agent processes of all running actions
-- live, and its children admit its site.
pub record ExecutorKeeps {S : Type 0} (view : S → StoreView) (x : ExecutorView S) : Type 0 where
  pub settled : IsSettled (view x.store) x.state
  pub reserve : HasReserve (view x.store).tail x.state
  pub matched : ChildrenMatch x.state x.children
  pub admits : Admits x.children.site x.site

-- the invariant: the same while it is open
abbrev pub ExecutorInvariant : {S : Type 0} → (S → StoreView) → ExecutorView S → Type 0
ExecutorInvariant view x = x.is_open ≡ true → ExecutorKeeps view x

-- The part of the invariant that is not the ledger's.
pub record ChildrenKeep {S : Type 0} (x : ExecutorView S) : Type 0 where
  pub matched : ChildrenMatch x.state x.children
  pub admits : Admits x.children.site x.site

-- the same while it is open
abbrev pub ChildrenInvariant : {S : Type 0} → ExecutorView S → Type 0
ChildrenInvariant x = x.is_open ≡ true → ChildrenKeep x
