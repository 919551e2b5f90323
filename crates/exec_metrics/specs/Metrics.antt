-- The metrics of a journal.
use Rattle.std.specs.Prelude.{◌≡◌, ℕ, ◌-◌, ⊤, List, [], ◌∷◌, ◌++◌, length, map, is_some, Option, Result, Ok, Err}
use Rattle.std.specs.List.{flat_map}
use Rattle.std.specs.Io.KnownBytes.{Appends}
use Rattle.ocf_model.specs.Resource.{Resource}
use Rattle.ocf_model.specs.State.{State}
use Rattle.disk_model.specs.Image.{Image}
use Rattle.two_parts.specs.Choice.{choice}
use Rattle.exec_journal.specs.Found.{FoundAs, HasDamage}
use Rattle.exec_faults.specs.declared.fault.Fault.{Fault}
use Rattle.exec_faults.specs.declared.fault.Fault.TheVariants as fault
use Rattle.exec_metrics.specs.Families.{header}
use Rattle.exec_metrics.specs.Samples.{age, age_of_monitor, age_sample, bare, bit, code_of_monitor, code_sample, last_result, plain, state_samples}
use Rattle.exec_metrics.specs.declared.families.Taken.{Taken}
use Rattle.exec_metrics.specs.declared.family.Family.{Family}
use Rattle.exec_metrics.specs.declared.family.Family.TheVariants as family
use Rattle.journal_log.specs.RanOn.{RanOn}
use Rattle.journal_log.specs.RecordedOn.{FactsBy}
use Rattle.journal_log.specs.Sizes.{IsSize}
use Rattle.journal_log.specs.declared.measuring.Size.{Size}
use Rattle.ocf_codes.specs.ExitCodes.{IsPlainText}
use Rattle.resource_status.specs.Conditions.{condition_by}
use Rattle.resource_status.specs.Facts.{FactOf, held_of, recorded_at}
use Rattle.resource_status.specs.declared.condition.Recorded.{Recorded}
use Rattle.resource_status.specs.Counts.{count_at, tally}
use Rattle.resource_status.specs.Runs.{Ran}
use Rattle.resource_status.specs.declared.count.RunCount.{RunCount}

-- a moment, the size of a journal, the counts of each resource's runs, and what the records hold of each resource
pub record Measure : Type 0 where
  pub now : ℕ
  pub size : Size
  pub counts : List ℕ → RunCount
  pub recorded : List ℕ → Recorded

abbrev pub measure_of : Taken → Measure
measure_of t = record {
  now = t.moment;
  size = t.measured.size;
  counts = count_at t.measured.counts.entries;
  recorded = recorded_at t.measured.recorded.entries;
}

abbrev pub measured : ℕ → Size → List Ran → List FactOf → Measure
measured now size runs facts = record { now = now; size = size; counts = tally runs; recorded = held_of facts }

-- the samples of a resource in a family; it has none in the other families
abbrev pub samples : Measure → Family → List ℕ × Resource → List ℕ
samples m family.State e = state_samples e.0 (condition_by (m.recorded e.0) e.1.history.failed)
samples m family.Queued e = plain family.Queued e.0 (length e.1.history.queue)
samples m family.Running e = plain family.Running e.0 (bit (is_some e.1.history.running))
samples m family.ResourceRuns e = plain family.ResourceRuns e.0 (m.counts e.0).runs
samples m family.ResourceFailures e = plain family.ResourceFailures e.0 (m.counts e.0).failures
samples m family.LastCode e = code_sample family.LastCode e.0 (last_result e.1.history.ended)
samples m family.LastAge e = age_sample family.LastAge e.0 (age m.now (last_result e.1.history.ended))
samples m family.FailureCode e = code_sample family.FailureCode e.0 e.1.history.failed
samples m family.FailureAge e = age_sample family.FailureAge e.0 (age m.now e.1.history.failed)
samples m family.MonitorCode e = flat_map (code_of_monitor e.0 e.1.history.ended) e.1.recurring
samples m family.MonitorAge e = flat_map (age_of_monitor m.now e.0 e.1.history.ended) e.1.recurring
samples m _ e = []

-- the samples of a family: one of the journal, or those of each resource, in order of registration
abbrev pub lines_in : Measure → State → Family → List ℕ
lines_in m s family.Epoch = bare family.Epoch m.size.epoch
lines_in m s family.Bytes = bare family.Bytes m.size.bytes
lines_in m s family.Calls = bare family.Calls (s.next_call - 1)
lines_in m s family.Runs = bare family.Runs (s.next_run - 1)
lines_in m s family.Resources = bare family.Resources (length s.resources)
lines_in m s f = flat_map (samples m f) s.resources

abbrev pub family_of : Measure → State → Family → Family × List ℕ
family_of m s f = (f, lines_in m s f)

-- the families of a journal, each once: its own, those of what its resources do and did, and those of their last results
abbrev pub of_journal : Measure → State → List (Family × List ℕ)
of_journal m s = map (family_of m s) (family.Epoch ∷ family.Bytes ∷ family.Calls ∷ family.Runs ∷ family.Resources ∷ [])

abbrev pub of_actions : Measure → State → List (Family × List ℕ)
of_actions m s = map (family_of m s) (family.State ∷ family.Queued ∷ family.Running ∷ family.ResourceRuns ∷ family.ResourceFailures ∷ [])

abbrev pub of_results : Measure → State → List (Family × List ℕ)
of_results m s =
    map (family_of m s)
    (family.LastCode ∷ family.LastAge ∷ family.FailureCode ∷ family.FailureAge ∷ family.MonitorCode ∷ family.MonitorAge ∷ [])

abbrev pub journal_families : Measure → State → List (Family × List ℕ)
journal_families m s = of_journal m s ++ of_actions m s ++ of_results m s

-- a text goes on with these families: each is its header, with a line of help, and its samples
abbrev pub GoesOn : List (Family × List ℕ) → List ℕ → List ℕ → Type 0
GoesOn [] old new = new ≡ old
GoesOn (x ∷ xs) old new = (help : List ℕ) × IsPlainText help × GoesOn xs (old ++ (header x.0 help ++ x.1)) new

-- a text of which this holds is written, by the result of writing
abbrev pub IsWritten : {T : Type 0} → (List ℕ → Type 0) → Option (List ℕ) → Option (List ℕ) → Result T Fault → Type 0
IsWritten IsText old new (Ok done) = (text : List ℕ) × IsText text × Appends old new text
IsWritten IsText old new (Err fault.ReplyMemory) = new ≡ old
IsWritten IsText old new (Err fault.InputOrOutput) = ⊤
IsWritten IsText old new (Err _) = ⊥

-- The metrics, at a moment, of the state that is found on these parts, the size of the journal, the runs since the snapshot of its
-- current part, and what the records of both parts hold of each resource are written.
pub record WritesFound (T : Type 0) (reads : Image) (now : ℕ) (old new : Option (List ℕ)) (ended : Result T Fault) : Type 0 where
  pub state : State
  pub found : FoundAs state reads
  pub size : Size
  pub is_size : IsSize reads size
  pub runs : List Ran
  pub ran : RanOn reads runs
  pub facts : List FactOf
  pub are_facts : FactsBy (choice reads) reads facts
  pub written : IsWritten (GoesOn (journal_families (measured now size runs facts) state) []) old new ended

-- the same, or nothing if the parts are not read; the damage that is reported is that which is found
abbrev pub WritesAs : {T : Type 0} → Image → ℕ → Option (List ℕ) → Option (List ℕ) → Result T Fault → Type 0
WritesAs reads now old new (Err (fault.Damaged damage)) = HasDamage reads damage × (new ≡ old)
WritesAs reads now old new (Err fault.Disk) = new ≡ old
WritesAs reads now old new (Err fault.Memory) = new ≡ old
WritesAs {T} reads now old new ended = WritesFound T reads now old new ended
