-- The samples of what is known of the executor that has a journal.
use Rattle.std.specs.Prelude.{ℕ, List, [], ◌∷◌, Option, Some, None, map, option_map}
use Rattle.std.specs.List.{flat_map}
use Rattle.exec_metrics.specs.Samples.{bare, bit, plain}
use Rattle.exec_metrics.specs.declared.executor.Seen.{Seen}
use Rattle.exec_metrics.specs.declared.family.Family.{Family}
use Rattle.exec_metrics.specs.declared.family.Family.TheVariants as family

-- the sample of a value, if it is known
abbrev pub known : Family → Option ℕ → List ℕ
known f None = []
known f (Some n) = bare f n

abbrev pub held_sample : List ℕ → List ℕ
held_sample id = plain family.Held id 1

-- the samples: whether an executor has the journal, when it opened it, the age of the last record, and the resources that are held
abbrev pub seen_lines : Seen → Family → List ℕ
seen_lines s family.Up = known family.Up (option_map bit s.up)
seen_lines s family.Opened = known family.Opened s.opened
seen_lines s family.RecordAge = known family.RecordAge s.record_age
seen_lines s family.Held = flat_map held_sample s.held.now
seen_lines s _ = []

abbrev pub seen_family : Seen → Family → Family × List ℕ
seen_family s f = (f, seen_lines s f)

abbrev pub seen_families : Seen → List (Family × List ℕ)
seen_families s = map (seen_family s) (family.Up ∷ family.Opened ∷ family.RecordAge ∷ family.Held ∷ [])
