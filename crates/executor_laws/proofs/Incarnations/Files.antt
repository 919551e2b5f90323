-- Histories over a pair of files are histories over a store, whatever is left of which opens.
use Rattle.std.proofs.Common.{◌≡◌, inl, inr, ℕ, List, [], ◌∷◌, length, Option, Some, refl, sym, ap, subst, arith}
use Rattle.ocf_types.specs.Kinds.{Event}
use Rattle.ocf_model.specs.State.{State, after_all, empty}
use Rattle.ocf_types.specs.declared.notice.Notice.{Notice}
use Rattle.disk_model.specs.Image.{Image}
use Rattle.disk_model.specs.Disk.{Lawful, DiskView}
use Rattle.child_model.specs.Children.{ChildrenView}
use Rattle.two_parts.specs.declared.choice.Choice.{Choice}
use Rattle.two_parts.specs.declared.damage.Damage.{Damage}
use Rattle.exec_journal.specs.Found.{FoundAs, HasDamage, IsFirstLayout, IsFreshPair, IsToWrite, JournalAt, LeadsTo}
use Rattle.exec_journal.specs.Journal.{JournalView}
use Rattle.exec_journal.specs.Opening.{Opens}
use Rattle.exec_journal.specs.Position.{Position, first_position}
use Rattle.exec_journal.specs.Reserve.{PairHasReserve}
use Rattle.exec_journal.specs.StoreViews.{store_view}
use Rattle.exec_journal.proofs.StoreLaws.{lawful_store, opens_crash}
use Rattle.store_model.specs.Lemmas.{weakened}
use Rattle.executor_laws.specs.Behaves.{Behaves, Opening, Seen, Serving}
use Rattle.executor.specs.ExecutorView.{ExecutorView}
use Rattle.executor_laws.specs.Incarnations.{AreIncarnations, GoesOnFrom, InOpening, Incarnation, IncarnationsLeave, IncarnationsOpen, Lasted, MayBoot, OpensAfter, SurvivingEvents, Up, first_store, last_store}
use Rattle.executor_laws.specs.OnFiles.{BeginsAs, FilesGoOn, FilesLeave}
use Rattle.executor.specs.OnStores.{OpensOn, StartsLike}
use Rattle.executor.specs.Openings.{NotOpened, Opened, closed_pair}
use Rattle.executor_laws.specs.SeenIncarnations.{labels, seen}
use Rattle.executor.specs.declared.opening.OpenError.{OpenError}
use Rattle.executor.specs.declared.opening.OpenError.TheVariants as why
use Rattle.executor_laws.proofs.Incarnations.Uptimes.{whole_leads}
use Rattle.executor_laws.proofs.Incarnations.Whole.{incarnations_open}
use Rattle.executor_laws.proofs.Machines.Incarnations.{incarnations_behave, opened_after}

-- one state is found on a pair of parts
pub record OneFinding : Type 0 where
  pub state : (c : Image) (s t : State) → FoundAs s c → FoundAs t c → s ≡ t
  pub either : (c : Image) (s : State) (d : Damage) → FoundAs s c → HasDamage c d → ⊥

-- a history begins on a fresh pair, and on one of the first layout
module _ (stays : (p : Position) (s : State) (c : Image) → JournalAt p s c → IsToWrite c → ⊥) where
  fresh_found : (c : Image) → IsFreshPair c → FoundAs empty c
  fresh_found c fresh = subst (λ (h : Choice). LeadsTo h c empty) (sym fresh) refl

  written_begins : (s : State) (c : Image) → FoundAs s c → IsToWrite c → BeginsAs s c
  written_begins s c found to_write = (found, λ p t holds. absurd (stays p t c holds to_write))

  pub fresh_begins : (c : Image) → IsFreshPair c → BeginsAs empty c
  fresh_begins c fresh = written_begins empty c (fresh_found c fresh) (inl fresh)

  pub first_begins : (s : State) (c : Image) → FoundAs s c → IsFirstLayout c → BeginsAs s c
  first_begins s c found first = written_begins s c found (inr (first, (s, found)))

module _ {D : Type 0} (view : D → DiskView) (lawful : (d : D) → (view d).honest → Lawful (view d)) where
  -- an opening of an executor over two files is one over a store
  pub opening_on : (old : D) (from : ChildrenView) (now : ℕ) (x : ExecutorView (JournalView D)) (ran queued : List Notice)
      → Opened view old from now x ran queued → OpensOn (store_view view) (closed_pair old) from now x ran queued
  opening_on old from now x ran queued opens = record {
    over = opens.over;
    sound = opens.sound;
    starts = λ h.
        let starts = opens.starts h in
        let law = lawful old (opens.did.crash.passed.honest h) in
        let reads = (view old).reads in
        record {
          state = starts.state;
          found = (reads, law.counts_now (view old).clock reads (omega arith) law.reads_now, starts.found);
          boot = starts.boot;
          due_is = starts.due_is;
          ran = starts.ran;
          queued = starts.queued;
        };
    opening_report = opens.opening_report;
    crash = opens.did.crash;
  }

  -- an opening that was refused is an incarnation
  pub refused_lasts : (old new : D) (from to : ChildrenView) (now : ℕ) (fault : OpenError) → NotOpened view old new from to now fault
      → Lasted (store_view view) (InOpening (closed_pair old) (closed_pair new) now (Some fault))
  refused_lasts old new from to now fault fails = record {
    did = fails.did.crash;
    unbooted = λ never. opens_crash (view old) (view new) first_position first_position (lawful old)
        (fails.unbooted (λ is. never (subst (λ (f : OpenError). MayBoot (Some f)) (sym is) (tt {0}))));
  }

  -- so is one of the journal alone
  pub looked_lasts : (old new : D) (now : ℕ) (end : Option OpenError) → Opens (view old) (view new)
      → Lasted (store_view view) (InOpening (closed_pair old) (closed_pair new) now end)
  looked_lasts old new now end opens =
      let u = store_view view (closed_pair old) in
      let v = store_view view (closed_pair new) in
      let was : State → Type 0 = u.leaves u.clock in
      let crash = opens_crash (view old) (view new) first_position first_position (lawful old) opens in
      record { did = weakened u v was (StartsLike was now) (λ h x left. (x, left, inl refl)) crash; unbooted = λ _. crash }

  -- the first disk of an incarnation was honest
  pub first_honest : (x : Incarnation (JournalView D)) → Lasted (store_view view) x → (view (last_store x).disk).honest → (view (first_store x).disk).honest
  first_honest (InOpening old new now end) ends honest = ends.did.passed.honest honest
  first_honest (Up x) serves honest =
      serves.opens.crash.passed.honest ((whole_leads (store_view view) (lawful_store view lawful) x serves).crash.crash.passed.honest honest)

  module _ (once : OneFinding) (start : State) where
    -- the next disk: as a store it goes on from the same history
    goes_on_store : (older : List (Incarnation (JournalView D))) (store : JournalView D) → (view store.disk).honest → FilesGoOn view start older store
        → GoesOnFrom (store_view view) start older store
    goes_on_store older store honest files = record {
      leaves = λ s left. leaves_so older s left.0 (here left.0 left.1) left.2;
      opens = λ opens. ((λ c since. opens_so older opens c (here c since)), λ c since. boots_so older opens c (here c since));
    }
      where
        here : (c : Image) → (view store.disk).since (view store.disk).clock c → FilesLeave view start older c
        here c since = files c ((lawful store.disk honest).only_now c since)

        leaves_so : (xs : List (Incarnation (JournalView D))) (s : State) (c : Image) → FilesLeave view start xs c → FoundAs s c
            → IncarnationsLeave (store_view view) start xs s
        leaves_so [] s c left found = once.state c s start found left.0
        leaves_so (x ∷ xs) s c left found = (c, left, found)

        opens_so : (xs : List (Incarnation (JournalView D))) → IncarnationsOpen (store_view view) xs → (c : Image) → FilesLeave view start xs c
            → (s : State) × FoundAs s c
        opens_so [] opens c left = (start, left.0)
        opens_so (x ∷ xs) opens c left = opens.0 c left

        boots_so : (xs : List (Incarnation (JournalView D))) → IncarnationsOpen (store_view view) xs → (c : Image) → FilesLeave view start xs c
            → PairHasReserve c
        boots_so [] opens c left = left.1
        boots_so (x ∷ xs) opens c left = opens.1 c left

    -- a history over files is one over a store
    pub on_store : (xs : List (Incarnation (JournalView D))) → AreIncarnations (store_view view) (FilesGoOn view start) xs
        → AreIncarnations (store_view view) (GoesOnFrom (store_view view) start) xs
    on_store [] is = tt
    on_store (x ∷ older) (is, files, lasted, honest) =
        (on_store older is, goes_on_store older (first_store x) (first_honest x lasted honest) files, lasted, honest)

    -- with the same observations
    same_seen : (xs : List (Incarnation (JournalView D))) (is : AreIncarnations (store_view view) (FilesGoOn view start) xs)
        → seen (store_view view) (GoesOnFrom (store_view view) start) xs (on_store xs is) ≡ seen (store_view view) (FilesGoOn view start) xs is
    unfolding on_store
    same_seen [] is = refl
    same_seen (InOpening old new now end ∷ older) (is, files, lasted, honest) = ap (λ (l : List Seen). Opening now end ∷ l) (same_seen older is)
    same_seen (Up x ∷ older) (is, files, lasted, honest) = ap (λ (l : List Seen). Serving (record {
      now = x.now;
      ran = lasted.was_running;
      queued = lasted.was_queued;
      calls = labels (store_view view) x.opened lasted.calls x.returned x.done lasted.returns;
      begun = labels (store_view view) x.returned lasted.begun x.last x.under_way lasted.goes_on;
      stop = x.stop;
      refuses = x.opened.refuses;
      room = x.opened.children.room;
      booked = length x.opened.children.book;
    }) ∷ l) (same_seen older is)

    -- every pair that is left is found as a state, which the store leaves
    left_so : (xs : List (Incarnation (JournalView D))) → AreIncarnations (store_view view) (FilesGoOn view start) xs → (c : Image)
        → FilesLeave view start xs c → ((s : State) × FoundAs s c × IncarnationsLeave (store_view view) start xs s) × PairHasReserve c
    left_so [] is c left = ((start, left.0, refl), left.1)
    left_so (x ∷ older) is c left =
        let opens = incarnations_open (store_view view) (lawful_store view lawful) start (x ∷ older) (on_store (x ∷ older) is) in
        let found = opens.0 c left in
        ((found.0, found.1, (c, left, found.1)), opens.1 c left)

    -- so it is found after a behaviour of the machine
    pub files_behave : (xs : List (Incarnation (JournalView D))) (is : AreIncarnations (store_view view) (FilesGoOn view start) xs) (c : Image)
        → FilesLeave view start xs c
        → (zs : List Event) × Behaves start (seen (store_view view) (FilesGoOn view start) xs is) zs × SurvivingEvents start xs zs
        × FoundAs (after_all start zs) c
    files_behave xs is c left =
        let s = (left_so xs is c left).0 in
        let b = incarnations_behave (store_view view) (lawful_store view lawful) start xs (on_store xs is) s.0 s.2 in (
          b.0,
          subst (λ (l : List Seen). Behaves start l b.0) (same_seen xs is) b.1,
          b.2,
          subst (λ (t : State). FoundAs t c) b.3 s.1,
        )

    -- and has its reserve
    pub files_reserved : (xs : List (Incarnation (JournalView D))) → AreIncarnations (store_view view) (FilesGoOn view start) xs → (c : Image)
        → FilesLeave view start xs c → PairHasReserve c
    files_reserved xs is c left = (left_so xs is c left).1

    -- so an opening after a history gives the state after the events that remain, and reports the actions that ran
    pub files_opened : (xs : List (Incarnation (JournalView D))) (old : D) (from : ChildrenView) (now : ℕ) (x : ExecutorView (JournalView D))
        (ran queued : List Notice)
        → AreIncarnations (store_view view) (FilesGoOn view start) xs → FilesGoOn view start xs (closed_pair old)
        → Opened view old from now x ran queued → (view x.store.disk).honest → OpensAfter start xs now x.state ran queued
    files_opened xs old from now x ran queued is files opens honest =
        opened_after (store_view view) (lawful_store view lawful) start xs (closed_pair old) from now x ran queued (on_store xs is)
        (goes_on_store xs (closed_pair old) (opens.did.crash.passed.honest honest) files) (opening_on old from now x ran queued opens) honest

    -- and it finds no damage, and space for its boot
    pub files_not_refused : (xs : List (Incarnation (JournalView D))) (old new : D) (from to : ChildrenView) (now : ℕ) (fault : OpenError)
        → AreIncarnations (store_view view) (FilesGoOn view start) xs → FilesGoOn view start xs (closed_pair old)
        → NotOpened view old new from to now fault → (view new).honest
        → (fault ≡ why.Full → ⊥) × ((d : Damage) → fault ≡ why.Damaged d → ⊥)
    files_not_refused xs old new from to now fault is files fails honest =
        let was_honest = fails.did.crash.passed.honest honest in
        let reads = (view old).reads in
        let found = files_behave xs is reads (files reads (lawful old was_honest).reads_now) in (
          fails.never_full (λ _ c now_c. files_reserved xs is c (files c now_c)) honest,
          λ d bad. once.either reads (after_all start found.0) d found.3 (fails.damaged honest d bad),
        )
