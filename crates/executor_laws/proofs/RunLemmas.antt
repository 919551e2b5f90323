-- A run of an executor is an incarnation, at whatever moment it is stopped, and keeps the promise.
use Rattle.std.proofs.Common.{◌≡◌, ℕ, List, [], ◌∷◌, ◌++◌, refl, sym, ap, subst, ◌∙◌}
use Rattle.ocf_model.specs.State.{State}
use Rattle.ocf_types.specs.declared.notice.Notice.{Notice}
use Rattle.disk_model.specs.Disk.{DiskView, Lawful}
use Rattle.disk_model.specs.Image.{Image}
use Rattle.child_model.specs.Children.{ChildrenView}
use Rattle.exec_journal.specs.Journal.{JournalView}
use Rattle.exec_journal.specs.StoreViews.{store_view}
use Rattle.exec_ledger.specs.Pieces.{Effects, followed_by, no_effects}
use Rattle.executor.specs.CallLemmas.{followed_by_assoc}
use Rattle.executor.specs.ExecutorView.{ExecutorView}
use Rattle.executor.specs.Openings.{NotOpened, Opened, closed_pair}
use Rattle.executor.specs.declared.opening.OpenError.{OpenError}
use Rattle.executor_laws.proofs.Incarnations.Files.{opening_on, refused_lasts}
use Rattle.executor_laws.specs.Incarnations.{AreIncarnations, Incarnation, Lasted}
use Rattle.executor.specs.Exchanges.{Calls, Exchange}
use Rattle.executor_laws.specs.KeepsPromise.{IsPromised, KeepsPromise, KeepsPromiseNext, RefusalKeepsPromise, refused}
use Rattle.executor_laws.specs.OnFiles.{FilesGoOn, FilesLeave}
use Rattle.executor_laws.specs.Runs.{IsRun, Returned, Run, in_opening, stopped, stopped_lasts}
use Rattle.store_model.specs.StoreView.{StoreView}

module _ {S : Type 0} (view : S → StoreView) where
  -- the first of some calls had returned
  split : (x y : ExecutorView S) (first later : List Exchange) (d : Effects) → Calls view x (first ++ later) y d
      → (z : ExecutorView S) × (a : Effects) × (b : Effects) × Calls view x first z a × Calls view z later y b × (d ≡ followed_by a b)
  split x y [] later d calls = (x, no_effects, d, (refl, refl), calls, refl)
  split x y (e ∷ first) later d (mid, a, rest, does, calls, is) =
      let (z, b, c, done, goes_on, all) = split mid y first later rest calls in (
        z,
        followed_by a b,
        c,
        (mid, a, b, does, done, refl),
        goes_on,
        is ∙ ap (λ (r : Effects). followed_by a r) all ∙ followed_by_assoc a b c,
      )

  pub first_returned : (r : Run S) (first later : List Exchange) → IsRun view r → first ++ later ≡ r.calls → Returned view r first later
  first_returned r first later is all =
      let (z, a, b, done, goes_on, effects) = split r.opened r.last first later r.effects
      (subst (λ (calls : List Exchange). Calls view r.opened calls r.last r.effects) (sym all) is.makes) in record {
        all = all;
        executor = z;
        done = a;
        under_way = b;
        returns = done;
        goes_on = goes_on;
        effects = effects;
      }

  -- a crash in the opening
  pub opening_lasts : (r : Run S) → IsRun view r → Lasted view (in_opening r)
  opening_lasts r is = record { did = is.opens.crash; unbooted = λ never. absurd (never tt) }

module _ {D : Type 0} (view : D → DiskView) (lawful : (d : D) → (view d).honest → Lawful (view d))
    (promise : (start : State) (xs : List (Incarnation (JournalView D))) (are : AreIncarnations (store_view view) (FilesGoOn view start) xs) (c : Image)
    → FilesLeave view start xs c → IsPromised view start xs are c) where
  -- the promise of a longer history
  next : (x : Incarnation (JournalView D)) (lasts : Lasted (store_view view) x) → KeepsPromiseNext view x lasts
  next x lasts start older are files honest c left = promise start (x ∷ older) (are, files, lasts, honest) c left

  pub run_keeps : (disk : D) (from : ChildrenView) (now : ℕ) (ran queued : List Notice) (x y : ExecutorView (JournalView D)) (calls : List Exchange)
      (effects : Effects) → Opened view disk from now x ran queued → Calls (store_view view) x calls y effects
      → KeepsPromise view (record { store = closed_pair disk; now = now; opened = x; calls = calls; last = y; effects = effects })
  run_keeps disk from now ran queued x y calls effects opens makes =
      let r : Run (JournalView D) = record { store = closed_pair disk; now = now; opened = x; calls = calls; last = y; effects = effects } in
      let is : IsRun (store_view view) r = record {
        children = from;
        was_running = ran;
        was_queued = queued;
        opens = opening_on view lawful disk from now x ran queued opens;
        makes = makes;
      } in record {
        is = is;
        opening_lasts = opening_lasts (store_view view) r is;
        opening_keeps = next (in_opening r) (opening_lasts (store_view view) r is);
        returned = λ first later all. first_returned (store_view view) r first later is all;
        keeps = λ first later z stop following.
            next (stopped (store_view view) r first later z stop) (stopped_lasts (store_view view) r first later is z stop following);
        left = λ first later z stop early start older honest c now_c. (lawful y.store.disk honest).counts_now stop c early now_c;
      }

  pub refusal_keeps : (disk last : D) (from to : ChildrenView) (now : ℕ) (why : OpenError) → NotOpened view disk last from to now why
      → RefusalKeepsPromise view disk last now why
  refusal_keeps disk last from to now why fails =
      let lasts = refused_lasts view lawful disk last from to now why fails in record {
        lasts = lasts;
        keeps = next (refused disk last now why) lasts;
        left = λ start older honest c now_c. (lawful last honest).counts_now (view disk).clock c fails.did.crash.passed.clock now_c;
      }
