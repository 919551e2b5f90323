-- Runs of an executor, and the incarnations that a run was, at whatever moment it was stopped.
use Rattle.std.specs.Prelude.{◌≡◌, ◌≤◌, ℕ, List, ◌++◌, None}
use Rattle.ocf_types.specs.declared.notice.Notice.{Notice}
use Rattle.child_model.specs.Children.{ChildrenView}
use Rattle.exec_ledger.specs.Pieces.{Effects, followed_by}
use Rattle.executor.specs.ExecutorView.{ExecutorView}
use Rattle.executor.specs.OnStores.{OpensOn}
use Rattle.executor.specs.Exchanges.{Calls, Exchange}
use Rattle.executor_laws.specs.Incarnations.{InOpening, Incarnation, Lasted, Up}
use Rattle.store_model.specs.StoreView.{StoreView}

-- A run: the store that its opening was handed, and when; the executor as it was opened; its calls, one after the other, each with its
-- answer; the executor that they left; and their effects.
pub record Run (S : Type 0) : Type 0 where
  pub store : S
  pub now : ℕ
  pub opened : ExecutorView S
  pub calls : List Exchange
  pub last : ExecutorView S
  pub effects : Effects

-- the executor was opened over the store, and was called
pub record IsRun {S : Type 0} (view : S → StoreView) (r : Run S) : Type 0 where
  pub children : ChildrenView
  pub was_running : List Notice
  pub was_queued : List Notice
  pub opens : OpensOn view r.store children r.now r.opened was_running was_queued
  pub makes : Calls view r.opened r.calls r.last r.effects

-- A run whose first calls had returned: they left this executor, with these effects; the others were begun then, or later, or never.
pub record Returned {S : Type 0} (view : S → StoreView) (r : Run S) (first later : List Exchange) : Type 0 where
  pub all : first ++ later ≡ r.calls
  pub executor : ExecutorView S
  pub done : Effects
  pub under_way : Effects
  pub returns : Calls view r.opened first executor done
  pub goes_on : Calls view executor later r.last under_way
  pub effects : r.effects ≡ followed_by done under_way

-- the incarnation that the run was if it was stopped in its opening
abbrev pub in_opening : {S : Type 0} → Run S → Incarnation S
in_opening r = InOpening r.store r.opened.store r.now None

-- the incarnation that it was if it was stopped when these calls had returned, from this moment of the store's clock on
abbrev pub stopped : {S : Type 0} → (view : S → StoreView) → (r : Run S) → (first later : List Exchange) → Returned view r first later → ℕ → Incarnation S
stopped view r first later x stop = Up (record {
  store = r.store;
  now = r.now;
  opened = r.opened;
  returned = x.executor;
  last = r.last;
  done = x.done;
  under_way = x.under_way;
  stop = stop;
})

-- and that it was: its calls are those of the run
abbrev pub stopped_lasts : {S : Type 0} → (view : S → StoreView) → (r : Run S) → (first later : List Exchange) → IsRun view r
    → (x : Returned view r first later) → (stop : ℕ) → (view x.executor.store).clock ≤ stop → Lasted view (stopped view r first later x stop)
stopped_lasts view r first later is x stop following = record {
  children = is.children;
  was_running = is.was_running;
  was_queued = is.was_queued;
  opens = is.opens;
  calls = first;
  returns = x.returns;
  begun = later;
  goes_on = x.goes_on;
  following = following;
}
