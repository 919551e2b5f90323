-- A history over files begins with a lawful state.
use Rattle.std.proofs.Common.{List, [], ◌∷◌, flat_map, sym, subst}
use Rattle.ocf_model.specs.Applies.{Applies, AppliesIn}
use Rattle.ocf_types.specs.Kinds.{Event}
use Rattle.ocf_model.specs.LawfulState.{IsLawfulState, IsLawfulStateIn}
use Rattle.ocf_model.specs.State.{State, after, after_all_in, after_in, empty}
use Rattle.ocf_types.specs.declared.layout.Layout.{Layout}
use Rattle.ocf_types.specs.declared.layout.Layout.TheVariants.{First, Second}
use Rattle.disk_model.specs.Image.{Image}
use Rattle.disk_model.specs.Disk.{Lawful, DiskView}
use Rattle.two_parts.specs.Choice.{choice}
use Rattle.two_parts.specs.declared.choice.Choice.{Choice}
use Rattle.two_parts.specs.declared.choice.Choice.TheVariants.{Broken, Current, Fresh}
use Rattle.exec_journal.specs.Found.{FoundAs, LeadsTo}
use Rattle.exec_journal.specs.Journal.{JournalView}
use Rattle.exec_journal.specs.StoreViews.{store_view}
use Rattle.store_model.specs.Batches.{AllApplyIn}
use Rattle.executor_laws.specs.Incarnations.{AreIncarnations, Incarnation, first_store}
use Rattle.executor_laws.specs.OnFiles.{FilesGoOn, FilesLeave}
use Rattle.executor_laws.proofs.Incarnations.Files.{first_honest}

-- the model's laws of lawful states
pub record LawfulLemmas : Type 0 where
  pub empty : IsLawfulState empty
  pub after : (s : State) (e : Event) → IsLawfulState s → Applies s e → IsLawfulState (after s e)
  pub stays : (s : State) (e : Event) → IsLawfulStateIn First s → AppliesIn First s e → IsLawfulStateIn First (after_in First s e)
  pub carried : (s : State) → IsLawfulStateIn First s → IsLawfulState s

module _ (laws : LawfulLemmas) where
  one_stays : (layout : Layout) (s : State) (e : Event) → IsLawfulStateIn layout s → AppliesIn layout s e → IsLawfulStateIn layout (after_in layout s e)
  one_stays First s e lawful applies = laws.stays s e lawful applies
  one_stays Second s e lawful applies = laws.after s e lawful applies

  all_stay : (layout : Layout) (s : State) (es : List Event) → IsLawfulStateIn layout s → AllApplyIn layout s es
      → IsLawfulStateIn layout (after_all_in layout s es)
  all_stay layout s [] lawful apply = lawful
  all_stay layout s (e ∷ es) lawful apply = all_stay layout (after_in layout s e) es (one_stays layout s e lawful apply.0) apply.1

  in_second : (layout : Layout) (s : State) → IsLawfulStateIn layout s → IsLawfulState s
  in_second First s lawful = laws.carried s lawful
  in_second Second s lawful = lawful

  -- a state that is found is lawful
  pub found_lawful : (s : State) (c : Image) → FoundAs s c → IsLawfulState s
  found_lawful s c found = by (choice c) found
    where
      by : (h : Choice) → LeadsTo h c s → IsLawfulState s
      by (Broken d) is = absurd is
      by Fresh is = subst IsLawfulState (sym is) laws.empty
      by (Current part head) whole =
          let prefix = whole.is_prefix in
          subst IsLawfulState (sym prefix.folds)
          (in_second whole.layout (after_all_in whole.layout prefix.first (flat_map (λ es. es) prefix.batches))
          (all_stay whole.layout prefix.first (flat_map (λ es. es) prefix.batches) prefix.lawful prefix.apply))

  module _ {D : Type 0} (view : D → DiskView) (lawful : (d : D) → (view d).honest → Lawful (view d)) (start : State) where
    -- so is the first state of a history over files that may leave something
    pub start_lawful : (xs : List (Incarnation (JournalView D))) → AreIncarnations (store_view view) (FilesGoOn view start) xs → (c : Image)
        → FilesLeave view start xs c → IsLawfulState start
    start_lawful [] is c left = found_lawful start c left.0
    start_lawful (x ∷ older) (is, files, lasted, honest) c left =
        let d = (first_store x).disk in
        let reads = (view d).reads in
        start_lawful older is reads (files reads (lawful d (first_honest view lawful x lasted honest)).reads_now)
