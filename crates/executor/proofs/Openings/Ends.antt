-- An opening over a pair of files: that of its journal, and then that of the executor over it.
use Rattle.std.proofs.Common.{◌≡◌, ◌⊎◌, ◌<◌, ◌≤◌, inl, inr, ⊎_elim, ℕ, Bool, true, false, true≢false, List, refl, sym, ◌∙◌, ap, subst, arith}
use Rattle.std.proofs.lemmas.Bool.{cases_lt}
use Rattle.ocf_model.specs.Boot.{any_busy}
use Rattle.ocf_model.specs.State.{State}
use Rattle.ocf_types.specs.declared.notice.Notice.{Notice}
use Rattle.disk_model.specs.Image.{Image}
use Rattle.disk_model.specs.Lemmas.{passed_on, stayed, supposed}
use Rattle.disk_model.specs.Disk.{Lawful, Passed, Unwritten, DiskView}
use Rattle.two_parts.specs.declared.damage.Damage.{Damage}
use Rattle.child_model.specs.Children.{ChildrenView}
use Rattle.exec_journal.specs.Found.{FoundAs, IsToWrite, JournalAt}
use Rattle.exec_journal.specs.Journal.{JournalView}
use Rattle.exec_journal.specs.Opening.{FailsToOpen, Opens, OpensAt, OpensLike}
use Rattle.exec_journal.specs.Position.{Position, first_position}
use Rattle.exec_journal.specs.StoreViews.{store_view}
use Rattle.store_model.specs.Calls.{OpensStore}
use Rattle.exec_journal.specs.declared.fault.JournalFault.{JournalFault}
use Rattle.exec_journal.specs.declared.fault.JournalFault.TheVariants as journal
use Rattle.exec_journal.proofs.StoreLaws.{lawful_store, opens_crash}
use Rattle.store_model.specs.Crashes.{CrashesTo}
use Rattle.store_model.specs.Lemmas.{weakened}
use Rattle.exec_ledger.specs.Boots.{BootsFrom, LacksBoot}
use Rattle.executor.specs.ExecutorView.{ExecutorView}
use Rattle.executor.specs.OnStores.{NotOpenedOn, OpensFrom, StartsLike}
use Rattle.executor.specs.Openings.{IsForeign, IsQuietPair, NotOpened, Opened, OpensDisk, PairLacksReserve, closed_pair, reported_fault}
use Rattle.executor.specs.declared.opening.OpenError.{OpenError}
use Rattle.executor.specs.declared.opening.OpenError.TheVariants as why
use Rattle.executor.proofs.Openings.OnStores.{both_crash}

-- the journal's laws of what is found
pub record FoundLaws : Type 0 where
  pub once : (c : Image) (s t : State) → FoundAs s c → FoundAs t c → s ≡ t
  pub found : (p : Position) (s : State) (c : Image) → JournalAt p s c → FoundAs s c
  pub same : (p q : Position) (s t : State) (c : Image) → JournalAt p s c → JournalAt q t c → (p ≡ q) × (s ≡ t)
  pub stays : (p : Position) (s : State) (c : Image) → JournalAt p s c → IsToWrite c → ⊥

module _ {D : Type 0} (view : D → DiskView) (lawful : (d : D) → (view d).honest → Lawful (view d)) (old : D) (from : ChildrenView) (now : ℕ) where
  -- only the journal was opened, or not even that
  read_only : (new : D) → Opens (view old) (view new) → OpensDisk view old (closed_pair new) now
  read_only new opens =
      let u = store_view view (closed_pair old) in
      let v = store_view view (closed_pair new) in
      let was : State → Type 0 = u.leaves u.clock in
      record {
        mid = new;
        opens = opens;
        later = stayed (view new);
        booted = λ h c since. inl ((lawful new h).only_now c since);
        crash = weakened u v was (StartsLike was now) (λ h x left. (x, left, inl refl))
            (opens_crash (view old) (view new) first_position first_position (lawful old) opens);
        unwritten = λ quiet. opens.unwritten (λ h. (quiet h).0);
      }

  -- the journal was not opened
  pub journal_refused : (new : D) (fault : JournalFault) → FailsToOpen fault (view old) (view new) → NotOpened view old new from from now (reported_fault fault)
  journal_refused new fault fails = record {
    did = read_only new fails.opens;
    children = inl refl;
    untouched = λ d is. refl;
    foreign = λ is. absurd (never_foreign fault is);
    spared = λ h other. refl;
    full_given_up = λ is. absurd (never_full fault is);
    kept_unbooted = inl (refl, fails.opens);
    damaged = λ h d is. fails.damaged h d (as_damaged fault d is);
    cause = λ is. fails.cause (as_disk fault is);
    full = λ h is. absurd (never_full fault is);
    not_foreign = λ h is. absurd (never_full fault is);
    never_full = λ reserved h is. never_full fault is;
    unbooted = λ _. fails.opens;
    foreign_unbooted = λ _. fails.opens.crash;
  }
    where
      as_damaged : (f : JournalFault) (d : Damage) → reported_fault f ≡ why.Damaged d → f ≡ journal.Damaged d
      as_damaged journal.Disk d is = absurd cc
      as_damaged (journal.Damaged x) d is = let same : x ≡ d = cc in ap journal.Damaged same
      as_damaged journal.Memory d is = absurd cc

      as_disk : (f : JournalFault) → reported_fault f ≡ why.Disk → f ≡ journal.Disk
      as_disk journal.Disk is = refl
      as_disk (journal.Damaged x) is = absurd cc
      as_disk journal.Memory is = absurd cc

      never_foreign : (f : JournalFault) → reported_fault f ≡ why.Foreign → ⊥
      never_foreign journal.Disk is = cc
      never_foreign (journal.Damaged x) is = cc
      never_foreign journal.Memory is = cc

      never_full : (f : JournalFault) → reported_fault f ≡ why.Full → ⊥
      never_full journal.Disk is = cc
      never_full (journal.Damaged x) is = cc
      never_full journal.Memory is = cc

  module _ (law : FoundLaws) (mid : JournalView D) (s : State) (opens : OpensAt mid.position s (view old) (view mid.disk))
      (store : OpensStore (store_view view (closed_pair old)) (store_view view mid) s) where
    did_both : (new : JournalView D) → CrashesTo (store_view view mid) (store_view view new) (BootsFrom s now) → (any_busy s ≡ false → new ≡ mid)
        → OpensDisk view old new now
    did_both new crash quiet = record {
      mid = mid.disk;
      opens = opens.opens;
      later = later;
      booted = λ h c since.
          let mid_h = crash.passed.honest h in
          let found = crash.opens h (view mid.disk).clock (omega arith) ((lawful_store view lawful mid mid_h).held_opens s (opens.settled mid_h)) c since in
          inr (found.0, (s, opens.found mid_h, crash.from_start h found.0 (c, since, found.1)), found.1);
      crash = both_crash (store_view view) (closed_pair old) mid s store new now crash;
      unwritten = λ is_quiet. rests is_quiet (any_busy s) refl;
    }
      where
        later : Passed (view mid.disk) (view new.disk)
        later = record { clock = crash.passed.clock; failures = crash.passed.failures; honest = crash.passed.honest }

        rests : ((view old).honest → IsQuietPair (view old).reads) → (b : Bool) → any_busy s ≡ b → Unwritten (view old) (view new.disk)
        rests is_quiet false not =
            subst (λ (k : JournalView D). Unwritten (view old) (view k.disk)) (sym (quiet not)) (opens.opens.unwritten (λ h. (is_quiet h).0))
        rests is_quiet true busy =
            let never : (view new.disk).honest → ⊥ = λ h. let mid_h = crash.passed.honest h in
            true≢false (sym busy ∙ (is_quiet (opens.opens.crash.passed.honest mid_h)).1 s (opens.found mid_h)) in
            record {
              passed = passed_on (view old) (view mid.disk) (view new.disk) opens.opens.crash.passed later;
              same = λ h. absurd (never h);
              still = λ h. absurd (never h);
              since = λ h. absurd (never h);
            }

    -- where nothing was written, the same is found
    holds_before : (view mid.disk).honest → (IsToWrite (view old).reads → ⊥) → JournalAt mid.position s (view old).reads
    holds_before h unwritten =
        subst (λ (c : Image). JournalAt mid.position s c) ((opens.opens.unwritten (λ _. unwritten)).same h) (opens.settled h).holds

    -- and nothing was written where a boot does not fit
    lacks_unwritten : (view mid.disk).honest → LacksBoot mid.position.tail s → IsToWrite (view old).reads → ⊥
    lacks_unwritten h lacks to_write =
        let reserve = opens.anew h to_write lacks.0 in
        let short = lacks.1 in
        omega (arith, reserve, short)

    lacks_reserve : (view mid.disk).honest → LacksBoot mid.position.tail s → PairLacksReserve (view old).reads
    lacks_reserve h lacks =
        record { position = mid.position; state = s; holds = holds_before h (lacks_unwritten h lacks); lacks = lacks }

    lacks_boot : (view mid.disk).honest → PairLacksReserve (view old).reads → LacksBoot mid.position.tail s
    lacks_boot h lacks =
        let reads = (view old).reads in
        let same = law.once reads lacks.state s (law.found lacks.position lacks.state reads lacks.holds) (opens.found h) in
        let here = subst (λ (t : State). LacksBoot lacks.position.tail t) same lacks.lacks in
        let at = (law.same lacks.position mid.position lacks.state s reads lacks.holds
        (holds_before h (law.stays lacks.position lacks.state reads lacks.holds))).0 in
        subst (λ p. LacksBoot p.tail s) at here

    -- the executor was opened
    pub opened_files : (x : ExecutorView (JournalView D)) (ran queued : List Notice)
        → OpensFrom (store_view view) (λ t. t ≡ s) mid from now x ran queued → (any_busy s ≡ false → x.store ≡ mid)
        → (LacksBoot mid.position.tail s → ⊥) → Opened view old from now x ran queued
    opened_files x ran queued over quiet fits = record {
      over = over.over;
      sound = over.sound;
      starts = λ h. let starts = over.starts h in
          record {
            state = starts.state;
            found = subst (λ (t : State). FoundAs t (view old).reads) (sym starts.found) (opens.found (over.crash.passed.honest h));
            boot = starts.boot;
            due_is = starts.due_is;
            ran = starts.ran;
            queued = starts.queued;
          };
      opening_report = over.opening_report;
      did = did_both x.store
          (weakened (store_view view mid) (store_view view x.store) (StartsLike (λ t. t ≡ s) now) (BootsFrom s now)
          (λ h y left. subst (λ (t : State). BootsFrom t now y) left.1 left.2) over.crash)
          quiet;
      fits = λ h lacks. fits (lacks_boot (over.crash.passed.honest h) lacks);
    }

    -- it was not opened
    pub refused_files : (new : JournalView D) (to : ChildrenView) (fault : OpenError) → NotOpenedOn (store_view view) s mid new from to now fault
        → NotOpened view old new.disk from to now fault
    refused_files new to fault fails = record {
      did = record {
        mid = did.mid;
        opens = did.opens;
        later = did.later;
        booted = did.booted;
        crash = record {
          passed = record { clock = did.crash.passed.clock; failures = did.crash.passed.failures; honest = did.crash.passed.honest };
          from_start = did.crash.from_start;
          before = did.crash.before;
          opens = did.crash.opens;
          boots = did.crash.boots;
        };
        unwritten = did.unwritten;
      };
      children = ⊎_elim (λ is. inl (fails.kept is)) (λ not. inr (fails.given_up not)) (is_foreign fault);
      untouched = λ d is. absurd (fails.undamaged d is);
      foreign = λ is. (fails.kept is, λ h. record { state = s; found = found h; later = fails.foreign.0 is });
      spared = λ h other. fails.kept (theirs h other);
      full_given_up = λ is. fails.given_up (λ bad. no_full (sym is ∙ bad));
      kept_unbooted = ⊎_elim
          (λ is. inl (fails.kept is, unbooted (λ bad. no_disk (sym is ∙ bad))))
          (λ not. inr (fails.given_up not, λ h. record { state = s; found = found h; earlier = own not }))
          (is_foreign fault);
      damaged = λ h d is. absurd (fails.undamaged d is);
      cause = λ is. let increased = fails.cause is in let before = opens.opens.crash.passed.failures in
          omega (arith, increased, before);
      full = λ h is. lacks_reserve (fails.crash.passed.honest h) (fails.full is);
      not_foreign = λ h is other. no_full (sym is ∙ theirs h other);
      never_full = λ reserved h is.
          let lacks = fails.full is in
          let reserve = opens.reserve reserved (fails.crash.passed.honest h) lacks.0 in
          let short = lacks.1 in
          omega (arith, reserve, short);
      unbooted = unbooted;
      foreign_unbooted = λ other.
          supposed (view old) (view new.disk) (OpensLike (view old))
          (passed_on (view old) (view mid.disk) (view new.disk) opens.opens.crash.passed later)
          (λ h. (unbooted (λ bad. no_disk (sym (theirs h (other h)) ∙ bad))).crash);
    }
      where
        did : OpensDisk view old new now
        did = did_both new fails.crash fails.quiet

        later : Passed (view mid.disk) (view new.disk)
        later = record { clock = fails.crash.passed.clock; failures = fails.crash.passed.failures; honest = fails.crash.passed.honest }

        found : (view new.disk).honest → FoundAs s (view old).reads
        found h = opens.found (fails.crash.passed.honest h)

        unbooted : (fault ≡ why.Disk → ⊥) → Opens (view old) (view new.disk)
        unbooted not_disk = subst (λ (k : JournalView D). Opens (view old) (view k.disk)) (sym (fails.unwritten not_disk)) opens.opens

        theirs : (view new.disk).honest → IsForeign (view old).reads from → fault ≡ why.Foreign
        theirs h other =
            fails.foreign.1 (subst (λ (t : State). t.next_run ≤ from.last_run) (law.once (view old).reads other.state s other.found (found h)) other.later)

        own : (fault ≡ why.Foreign → ⊥) → from.last_run < s.next_run
        own not = ⊎_elim (λ lt. lt) (λ later. absurd (not (fails.foreign.1 later))) (cases_lt from.last_run s.next_run)

        no_full : why.Full ≡ why.Foreign → ⊥
        no_full is = cc

        no_disk : why.Foreign ≡ why.Disk → ⊥
        no_disk is = cc

        is_foreign : (f : OpenError) → (f ≡ why.Foreign) ⊎ (f ≡ why.Foreign → ⊥)
        is_foreign why.Foreign = inl refl
        is_foreign why.Disk = inr (λ is. cc)
        is_foreign (why.Damaged d) = inr (λ is. cc)
        is_foreign why.Memory = inr (λ is. cc)
        is_foreign why.Full = inr (λ is. cc)

-- where an opening was refused for memory the journal's opening was
pub reported_memory : (f : JournalFault) → reported_fault f ≡ why.Memory → f ≡ journal.Memory
reported_memory journal.Disk is = absurd cc
reported_memory (journal.Damaged d) is = absurd cc
reported_memory journal.Memory is = refl
