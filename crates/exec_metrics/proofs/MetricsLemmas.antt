-- The metrics of a state that is found on parts of this measure.
use Rattle.std.proofs.Common.{◌≡◌, ℕ, List, [], Option, Result, Ok, Err, subst}
use Rattle.ocf_model.specs.State.{State}
use Rattle.disk_model.specs.Image.{Image}
use Rattle.disk_model.specs.Disk.{DiskView}
use Rattle.exec_journal.specs.Found.{FoundAs}
use Rattle.exec_journal.specs.Opening.{OpensAt}
use Rattle.exec_journal.specs.Position.{Position}
use Rattle.exec_faults.specs.declared.fault.Fault.{Fault}
use Rattle.exec_faults.specs.declared.fault.Fault.TheVariants as fault
use Rattle.journal_log.specs.RanOn.{HasCounts}
use Rattle.journal_log.specs.RecordedOn.{HasRecorded}
use Rattle.journal_log.specs.Sizes.{IsSize}
use Rattle.journal_log.specs.declared.measuring.Size.{Size}
use Rattle.resource_status.specs.Facts.{recorded_at}
use Rattle.resource_status.specs.declared.condition.Recorded.{Recorded}
use Rattle.resource_status.specs.Counts.{count_at}
use Rattle.resource_status.specs.declared.count.RunCount.{RunCount}
use Rattle.exec_metrics.specs.Metrics.{journal_families, measured, GoesOn, IsWritten, Measure, WritesAs, WritesFound}

-- the measure by the maps of a measured journal
abbrev pub counted : ℕ → Size → List (List ℕ × RunCount) → List (List ℕ × Recorded) → Measure
counted now size counts recorded = record { now = now; size = size; counts = count_at counts; recorded = recorded_at recorded }

module _ {T : Type 0} (reads : Image) (now : ℕ) (old new : Option (List ℕ)) (size : Size) (counts : List (List ℕ × RunCount))
    (recorded : List (List ℕ × Recorded)) (s : State) where
  abbrev Writes : Result T Fault → Type 0
  Writes ended = IsWritten (GoesOn (journal_families (counted now size counts recorded) s) []) old new ended

  found_so : (ended : Result T Fault) → FoundAs s reads → IsSize reads size → HasCounts reads counts → HasRecorded reads recorded → Writes ended
      → WritesFound T reads now old new ended
  found_so ended found is_size has tells written = record {
    state = s;
    found = found;
    size = size;
    is_size = is_size;
    runs = has.0;
    ran = has.1;
    facts = tells.0;
    are_facts = tells.1;
    written =
        let same : counted now size counts recorded ≡ measured now size has.0 tells.0 = λ i. record {
          now = now;
          size = size;
          counts = λ id. has.2 id i;
          recorded = λ id. tells.2 id i;
        } in
        subst (λ (m : Measure). IsWritten (GoesOn (journal_families m s) []) old new ended) same written;
  }

  pub writes : (ended : Result T Fault) → FoundAs s reads → IsSize reads size → HasCounts reads counts → HasRecorded reads recorded → Writes ended
      → WritesAs reads now old new ended
  writes (Ok done) found is_size has tells written = found_so (Ok done) found is_size has tells written
  writes (Err fault.InputOrOutput) found is_size has tells written = found_so (Err fault.InputOrOutput) found is_size has tells written
  writes (Err fault.ReplyMemory) found is_size has tells written = found_so (Err fault.ReplyMemory) found is_size has tells written
  writes (Err fault.NoResource) found is_size has tells written = absurd written
  writes (Err fault.Usage) found is_size has tells written = absurd written
  writes (Err fault.Choice) found is_size has tells written = absurd written
  writes (Err fault.NotText) found is_size has tells written = absurd written
  writes (Err fault.Log) found is_size has tells written = absurd written
  writes (Err (fault.Damaged damage)) found is_size has tells written = absurd written
  writes (Err fault.Memory) found is_size has tells written = absurd written
  writes (Err fault.NotOpened) found is_size has tells written = absurd written
  writes (Err fault.NoJournal) found is_size has tells written = absurd written
  writes (Err fault.NotExisting) found is_size has tells written = absurd written
  writes (Err fault.NotWell) found is_size has tells written = absurd written
  writes (Err fault.Disk) found is_size has tells written = absurd written
  writes (Err fault.Full) found is_size has tells written = absurd written
  writes (Err fault.ChildrenIgnored) found is_size has tells written = absurd written
  writes (Err fault.NoExecutor) found is_size has tells written = absurd written
  writes (Err fault.Failed) found is_size has tells written = absurd written

-- the same for a journal that was opened on a disk of this measure
pub writes_opened : {T : Type 0} (now : ℕ) (old new : Option (List ℕ)) (size : Size) (counts : List (List ℕ × RunCount))
    (recorded : List (List ℕ × Recorded)) (p : Position) (s : State) (first opened last : DiskView) (ended : Result T Fault)
    → OpensAt p s first opened → (first.honest → IsSize first.reads size)
    → (first.honest → (t : State) → FoundAs t first.reads → HasCounts first.reads counts)
    → (first.honest → (t : State) → FoundAs t first.reads → HasRecorded first.reads recorded)
    → IsWritten (GoesOn (journal_families (counted now size counts recorded) s) []) old new ended
    → last ≡ opened → last.honest
    → WritesAs first.reads now old new ended
writes_opened now old new size counts recorded p s first opened last ended opens is_size has tells written same honest =
    let h1 = subst (λ (v : DiskView). v.honest) same honest in
    let h0 = opens.opens.crash.passed.honest h1 in
    let found = opens.found h1 in
    writes first.reads now old new size counts recorded s ended found (is_size h0) (has h0 s found) (tells h0 s found) written
