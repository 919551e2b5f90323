-- What a status writes of a state, and how it ends.
use Rattle.std.proofs.Common.{◌≡◌, inl, inr, ℕ, ◌++◌, ◌&&◌, Bool, true, false, if◌then◌else◌, List, Option, Result, Ok, Err, OnOk, refl, ap, subst, sym}
use Rattle.std.specs.Io.KnownBytes.{Appends}
use Rattle.std.proofs.KnownBytes.{Appends-trans}
use Rattle.ocf_model.specs.State.{State}
use Rattle.disk_model.specs.Disk.{DiskView}
use Rattle.exec_journal.specs.Found.{FoundAs}
use Rattle.exec_journal.specs.Opening.{FailsToOpen, OpensAt}
use Rattle.exec_journal.specs.Position.{Position}
use Rattle.exec_journal.specs.declared.fault.JournalFault.{JournalFault}
use Rattle.exec_journal.specs.declared.fault.JournalFault.TheVariants as journal
use Rattle.journal_log.specs.RecordedOn.{HasRecorded}
use Rattle.resource_status.specs.declared.condition.Recorded.{Recorded}
use Rattle.exec_faults.specs.Faults.{IsRunEnd, opening_fault}
use Rattle.exec_faults.specs.declared.fault.Fault.{Fault}
use Rattle.exec_faults.specs.declared.fault.Fault.TheVariants as fault
use Rattle.status_report.specs.Endings.{EndsWith, IsWritten, WritesAs}
use Rattle.status_table.specs.Rows.{is_any_bad, is_left, rows_of}
use Rattle.status_report.specs.StatusLines.{IsLinesOf, prefix_lines, status_lines}
use Rattle.status_table.specs.declared.options.StatusOptions.{StatusOptions}
use Rattle.status_table.specs.declared.rows.Row.{Row}

abbrev Ended : Type 0
Ended = Result (Unit {0}) Fault

-- what holds of a result that is not an error
pub of_no_error : {A E P : Type 0} (r : Result A E) → ((f : E) → r ≡ Err f → ⊥) → OnOk r P → P
of_no_error (Ok x) not holds = holds
of_no_error (Err f) not holds = absurd (not f refl)

-- the lines are written, after what `show` prints
pub lines_written : (options : StatusOptions) (s : State) (rows : List Row) (old mid new : Option (List ℕ)) (lines : List ℕ)
    → Appends old mid (prefix_lines options s rows) → Appends mid new lines → lines ≡ status_lines options rows
    → IsWritten (IsLinesOf options s rows) old new (Ok tt)
lines_written options s rows old mid new lines first last same =
    let prefix = prefix_lines options s rows in
    inl (refl, (prefix ++ lines, ap (λ t. prefix ++ t) same, Appends-trans old mid new prefix lines first last))

abbrev chosen : Bool → Bool → Ended
chosen left bad = if left then Err fault.NoExecutor else (if bad then Err fault.NotWell else Ok tt)

-- an end of a run by no fault of the device
abbrev IsQuiet : Ended → Type 0
IsQuiet ended = IsRunEnd ended × (ended ≡ Err fault.Disk → ⊥)

chosen_quiet : (left bad : Bool) → IsQuiet (chosen left bad)
chosen_quiet true bad = (tt, λ is. cc)
chosen_quiet false true = (tt, λ is. cc)
chosen_quiet false false = (tt, λ is. cc)

-- a status of a state that is found ends so
pub quiet : (options : StatusOptions) (s : State) (recorded : List (List ℕ × Recorded)) (old new : Option (List ℕ)) (ended : Ended)
    → EndsWith options s recorded old new ended → IsQuiet ended
quiet options s recorded old new ended (inl shown) =
    let rows = rows_of options recorded s in
    subst IsQuiet (sym shown.2) (chosen_quiet (options.alarms && is_left options) (options.alarms && is_any_bad rows))
quiet options s recorded old new ended (inr (inl refused)) = subst IsQuiet (sym refused.2) (tt, λ is. cc)
quiet options s recorded old new ended (inr (inr (inl why))) = subst IsQuiet (sym why) (tt, λ is. cc)
quiet options s recorded old new ended (inr (inr (inr why))) = subst IsQuiet (sym why) (tt, λ is. cc)

-- what is written of a journal that was opened
pub writes_opened : (options : StatusOptions) (recorded : List (List ℕ × Recorded)) (old new : Option (List ℕ)) (p : Position) (s : State)
    (first opened last : DiskView) (ended : Ended) → OpensAt p s first opened
    → (first.honest → (t : State) → FoundAs t first.reads → HasRecorded first.reads recorded) → EndsWith options s recorded old new ended → last ≡ opened
    → last.honest → WritesAs first.reads options old new ended
writes_opened options recorded old new p s first opened last ended opens has ends same honest =
    let h1 = subst (λ (v : DiskView). v.honest) same honest in
    let h0 = opens.opens.crash.passed.honest h1 in
    let found = opens.found h1 in
    inr (s, recorded, found, has h0 s found, ends)

-- what is written of one that was not
pub writes_unopened : (options : StatusOptions) (old : Option (List ℕ)) (f : JournalFault) (first last : DiskView) → FailsToOpen f first last → last.honest
    → WritesAs first.reads options old old (Err (opening_fault f))
writes_unopened options old journal.Disk first last fails honest = inl (refl, inl refl)
writes_unopened options old journal.Memory first last fails honest = inl (refl, inr (inl refl))
writes_unopened options old (journal.Damaged damage) first last fails honest =
    inl (refl, inr (inr (damage, fails.damaged honest damage refl, refl)))
