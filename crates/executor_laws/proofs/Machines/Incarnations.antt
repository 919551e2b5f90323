-- Histories over a store are behaviours of the machine.
use Rattle.std.proofs.Common.{◌≡◌, inl, inr, ℕ, List, [], ◌∷◌, ◌++◌, length, Option, Some, None, refl, sym, ap, ap₂, subst, ◌∙◌, append_assoc}
use Rattle.std.proofs.lemmas.Grind.{flat_map-append}
use Rattle.std.proofs.lemmas.List.{append-nil}
use Rattle.ocf_model.specs.Answer.{moment}
use Rattle.ocf_model.specs.Due.{due_at}
use Rattle.ocf_types.specs.Kinds.{Event}
use Rattle.ocf_model.specs.StateLemmas.{after_all-append}
use Rattle.ocf_model.specs.State.{State, after_all}
use Rattle.ocf_types.specs.declared.notice.Notice.{Notice}
use Rattle.child_model.specs.Children.{Asked, ChildrenView}
use Rattle.child_model.specs.declared.answer.Entry.{Entry}
use Rattle.store_model.specs.StoreView.{Lawful, StoreView}
use Rattle.executor_laws.specs.Incarnations.{EndsOpening, GoesOnFrom, InOpening, Up, AreIncarnations, IncarnationsLeave, SurvivingEvents, MayBoot, IsUptime, OpensAfter, Uptime, Incarnation, Survives, boots}
use Rattle.executor_laws.specs.Machine.{Label, Machine, MovesAll}
use Rattle.executor_laws.specs.Behaves.{Opening, Remains, Behaves, Seen, SeenUptime, answers_in, opened_on}
use Rattle.executor.specs.OnStores.{OpensOn}
use Rattle.exec_ledger.specs.Boots.{BootsFrom, booted}
use Rattle.executor.specs.Interruptions.{dropped, interrupted}
use Rattle.executor_laws.specs.SeenIncarnations.{labels, seen}
use Rattle.exec_ledger.specs.Pieces.{followed_by}
use Rattle.executor.specs.ExecutorView.{ExecutorView, due_in}
use Rattle.executor.specs.declared.opening.OpenError.{OpenError}
use Rattle.executor.specs.declared.opening.OpenError.TheVariants as why
use Rattle.executor_laws.proofs.Incarnations.Uptimes.{uptime_survives, whole_leads}
use Rattle.executor_laws.proofs.Incarnations.Whole.{after_boots}
use Rattle.executor_laws.proofs.Machines.Calls.{labels_answers, machine_of, moves_all, same_machine}

module _ {S : Type 0} (view : S → StoreView) (lawful : (k : S) → (view k).honest → Lawful (view k)) (start : State) where
  -- a state after a behaviour
  abbrev BackedBy : List (Incarnation S) → List Seen → State → Type 0
  BackedBy incarnations xs x = (zs : List Event) × Behaves start xs zs × SurvivingEvents start incarnations zs × (x ≡ after_all start zs)

  module _ (old new : S) (now : ℕ) (end : Option OpenError) (older : List (Incarnation S)) (xs : List Seen) where
    -- after an opening that was refused or crashed: as before it
    unbooted : (x : State) → BackedBy older xs x → BackedBy (InOpening old new now end ∷ older) (Opening now end ∷ xs) x
    unbooted x b = (b.0, (b.0, [], b.1, inl refl, sym (append-nil b.0)), (b.0, b.2, inl refl), b.3)

    -- or with its boot
    may_boot : (s x : State) → BackedBy older xs s → MayBoot end → BootsFrom s now x
        → BackedBy (InOpening old new now end ∷ older) (Opening now end ∷ xs) x
    may_boot s x b may (inl same) = unbooted x (subst (BackedBy older xs) (sym same) b)
    may_boot s x b may (inr boot) = (
      b.0 ++ boots (after_all start b.0) now,
      (b.0, boots (after_all start b.0) now, b.1, inr (may, refl), refl),
      (b.0, b.2, inr (may, refl)),
      boot ∙ sym (after_boots start b.0 s now b.3),
    )

  -- by how it ended
  in_opening : (old new : S) (now : ℕ) (end : Option OpenError) (older : List (Incarnation S)) (xs : List Seen)
      → ((s : State) → (view old).leaves (view old).clock s → BackedBy older xs s) → (view new).honest
      → EndsOpening (view old) (view new) now end → (x : State) → (view new).leaves (view old).clock x
      → BackedBy (InOpening old new now end ∷ older) (Opening now end ∷ xs) x
  in_opening old new now end older xs from honest ends x left = by end refl
    where
      without : (MayBoot end → ⊥) → BackedBy (InOpening old new now end ∷ older) (Opening now end ∷ xs) x
      without never = unbooted old new now end older xs x (from x ((ends.unbooted never).from_start honest x left))

      perhaps : MayBoot end → BackedBy (InOpening old new now end ∷ older) (Opening now end ∷ xs) x
      perhaps may =
          let starts = ends.did.from_start honest x left in
          may_boot old new now end older xs starts.0 x (from starts.0 starts.1) may starts.2

      by : (e : Option OpenError) → end ≡ e → BackedBy (InOpening old new now end ∷ older) (Opening now end ∷ xs) x
      by None is = perhaps (subst MayBoot (sym is) (tt {0}))
      by (Some why.Disk) is = perhaps (subst MayBoot (sym is) (tt {0}))
      by (Some (why.Damaged d)) is = without (λ may. subst MayBoot is may)
      by (Some why.Memory) is = without (λ may. subst MayBoot is may)
      by (Some why.Foreign) is = without (λ may. subst MayBoot is may)
      by (Some why.Full) is = without (λ may. subst MayBoot is may)

  -- the observations of an incarnation
  abbrev view_of : (x : Uptime S) → IsUptime view x → SeenUptime
  view_of x s = record {
    now = x.now;
    ran = s.was_running;
    queued = s.was_queued;
    calls = labels view x.opened s.calls x.returned x.done s.returns;
    begun = labels view x.returned s.begun x.last x.under_way s.goes_on;
    stop = x.stop;
    refuses = x.opened.refuses;
    room = x.opened.children.room;
    booked = length x.opened.children.book;
  }

  -- an executor as it was opened
  opened_so : (x : Uptime S) (s : IsUptime view x) (t : State) → x.opened.state ≡ booted t x.now
      → due_in x.opened ≡ due_at x.opened.state (moment t x.now)
      → machine_of x.opened ≡ opened_on t (view_of x s)
  opened_so x s t state due = same_machine (machine_of x.opened) (opened_on t (view_of x s)) s.opens.over.is_open state
      (due ∙ ap (λ (u : State). due_at u (moment t x.now)) state) refl refl refl

  -- the answers in it are those that its children gave
  answers_are : (x : Uptime S) (s : IsUptime view x) → answers_in (view_of x s) ≡ (followed_by x.done x.under_way).entries
  answers_are x s =
      flat_map-append (λ (l : Label). l.answers) (view_of x s).calls (view_of x s).begun
      ∙ ap₂ (λ (a b : List Entry). a ++ b) (labels_answers view s.calls x.opened x.returned x.done s.returns)
      (labels_answers view s.begun x.returned x.last x.under_way s.goes_on)

  -- the events that remain of it
  remains_so : (x : Uptime S) (s : IsUptime view x) (t : State) (p : List Event) → s.was_running ≡ interrupted t (moment t x.now)
      → s.was_queued ≡ dropped t (moment t x.now) → machine_of x.opened ≡ opened_on t (view_of x s) → Survives x p → Remains (view_of x s) t p
  remains_so x s t p ran queued machine holds = record {
    ran = ran;
    queued = queued;
    returned = machine_of x.returned;
    last = machine_of x.last;
    done = x.done;
    under_way = x.under_way;
    moves = subst (λ (m : Machine). MovesAll (view_of x s).calls m (machine_of x.returned) x.done) machine
        (moves_all view s.calls x.opened x.returned x.done s.returns);
    goes_on = moves_all view s.begun x.returned x.last x.under_way s.goes_on;
    holds = (holds.later, holds.others, holds.acknowledged, holds.prefix);
    begins = λ run clock asked le.
        holds.begins run clock (subst (λ (es : List Entry). Asked es run clock) (answers_are x s) asked) le;
  }

  -- every state that a history may leave is the one after a behaviour of the machine
  pub incarnations_behave : (incarnations : List (Incarnation S)) (is : AreIncarnations view (GoesOnFrom view start) incarnations) (x : State)
      → IncarnationsLeave view start incarnations x → BackedBy incarnations (seen view (GoesOnFrom view start) incarnations is) x
  incarnations_behave [] is x left = ([], refl, refl, left)
  incarnations_behave (InOpening old new now end ∷ older) (is, from, ends, honest) x left =
      in_opening old new now end older (seen view (GoesOnFrom view start) older is) (λ s was. incarnations_behave older is s (from.leaves s was))
      honest ends x left
  incarnations_behave (Up x ∷ older) (is, from, serves, honest) y left =
      let whole = whole_leads view lawful x serves in
      let starts = serves.opens.starts (whole.crash.crash.passed.honest honest) in
      let before = incarnations_behave older is starts.state (from.leaves starts.state starts.found) in
      let ys = before.0 in
      let s = after_all start ys in
      let same = before.3 in
      let holds = uptime_survives view lawful x serves honest y left in
      let b = boots s x.now in
      let p = holds.0 in
      let opened : after_all start (ys ++ b) ≡ x.opened.state = after_boots start ys starts.state x.now same ∙ sym starts.boot in
      let all : after_all start (ys ++ (b ++ p)) ≡ after_all x.opened.state p =
      ap (λ (l : List Event). after_all start l) (sym (append_assoc ys b p)) ∙ after_all-append start (ys ++ b) p
      ∙ ap (λ (t : State). after_all t p) opened in
      let machine = opened_so x serves s (starts.boot ∙ ap (λ (t : State). booted t x.now) same)
      (starts.due_is ∙ ap (λ (t : State). due_at x.opened.state (moment t x.now)) same) in
      let remains = remains_so x serves s p (starts.ran ∙ ap (λ (t : State). interrupted t (moment t x.now)) same)
      (starts.queued ∙ ap (λ (t : State). dropped t (moment t x.now)) same) machine holds.1 in (
        ys ++ (b ++ p),
        (ys, b ++ p, before.1, (p, remains, refl), refl),
        (ys, p, before.2, holds.1, refl),
        holds.2 ∙ sym all,
      )

  -- so an opening after a history gives the state after the events that remain, and reports the actions that ran
  pub opened_after : (incarnations : List (Incarnation S)) (old : S) (from : ChildrenView) (now : ℕ) (x : ExecutorView S) (ran queued : List Notice)
      → AreIncarnations view (GoesOnFrom view start) incarnations → GoesOnFrom view start incarnations old → OpensOn view old from now x ran queued
      → (view x.store).honest → OpensAfter start incarnations now x.state ran queued
  opened_after incarnations old from now x ran queued is goes_on opens honest =
      let starts = opens.starts honest in
      let before = incarnations_behave incarnations is starts.state (goes_on.leaves starts.state starts.found) in
      let same = before.3 in
      record {
        holds = before.0;
        surviving = before.2;
        state = starts.boot ∙ ap (λ (s : State). booted s now) same;
        ran = starts.ran ∙ ap (λ (s : State). interrupted s (moment s now)) same;
        queued = starts.queued ∙ ap (λ (s : State). dropped s (moment s now)) same;
      }
