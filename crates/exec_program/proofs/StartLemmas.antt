-- Why the program ends as it does.
use Rattle.std.proofs.Common.{inl, inr, ⊎_elim, ◌||◌, ℕ, List, Result, Ok, Err, Option, ap, refl, subst, sym, ◌≡◌, is_some, Bool, IsTrue, true}
use Rattle.executor.specs.declared.opening.OpenError.{OpenError}
use Rattle.executor.specs.declared.opening.OpenError.TheVariants as opening
use Rattle.exec_options.specs.Faults.{IsFault}
use Rattle.exec_options.specs.Arguments.{AsksFor, Gives, GivesOnce, directory_of, is_once}
use Rattle.exec_options.specs.declared.once.OnceOptions.{OnceOptions}
use Rattle.exec_options.specs.declared.arguments.Wanted.{Wanted}
use Rattle.exec_options.specs.declared.arguments.Wanted.TheVariants as wanted
use Rattle.exec_options.specs.declared.fault.ArgumentsFault.{ArgumentsFault}
use Rattle.exec_options.specs.declared.options.Options.{Options}
use Rattle.exec_faults.specs.Faults.{HasCause, IsRunEnd}
use Rattle.exec_faults.specs.declared.fault.Fault.{Fault}
use Rattle.exec_faults.specs.declared.fault.Fault.TheVariants as fault
use Rattle.journal_files.specs.Ends.{IsDirectoryEnd}
use Rattle.exec_program.specs.Starts.{EndsFor, IsEndOf, IsWrittenAs, StartEndsFor, opening_fault, with_status}

-- neither does one that ended as sessions do
pub same_ends : {T : Type 0} (r s : Result T Fault) → r ≡ s → IsRunEnd s → IsRunEnd r
same_ends r s same ends = subst IsRunEnd (sym same) ends

-- neither does one whose opening failed
opening_end : (T : Type 0) (why : OpenError) → IsRunEnd {T = T} (Err (opening_fault why))
opening_end T opening.Disk = tt
opening_end T (opening.Damaged damage) = tt
opening_end T opening.Memory = tt
opening_end T opening.Foreign = tt
opening_end T opening.Full = tt

-- its cause is lack of memory only where that was the opening's
pub opening_cause : (refuses : Bool) (why : OpenError) → (why ≡ opening.Memory → IsTrue refuses) → HasCause refuses (opening_fault why)
opening_cause refuses opening.Disk cause = tt
opening_cause refuses (opening.Damaged damage) cause = tt
opening_cause refuses opening.Memory cause = cause refl
opening_cause refuses opening.Foreign cause = tt
opening_cause refuses opening.Full cause = tt

pub opening_ends : {T : Type 0} (why : OpenError) (f : Fault) (r : Result T Fault) → f ≡ opening_fault why → r ≡ Err f → IsRunEnd r
opening_ends {T} why f r is same =
    subst IsRunEnd (sym same) (subst (λ (x : Fault). IsRunEnd {T = T} (Err x)) (sym is) (opening_end T why))

-- arguments that ask for a journal
pub journal_ends : {T : Type 0} (named : Option (List ℕ)) (arguments : List (List ℕ)) (o : Options) (r : Result T Fault) → Gives named arguments o → IsRunEnd r → EndsFor named arguments r
journal_ends named arguments o (Ok done) gives ends = (o, gives)
journal_ends named arguments o (Err fault.Usage) gives ends = absurd ends
journal_ends named arguments o (Err fault.Choice) gives ends = absurd ends
journal_ends named arguments o (Err fault.NotText) gives ends = absurd ends
journal_ends named arguments o (Err fault.Log) gives ends = absurd ends
journal_ends named arguments o (Err fault.NoResource) gives ends = (o, gives)
journal_ends named arguments o (Err fault.NotOpened) gives ends = absurd ends
journal_ends named arguments o (Err fault.NoJournal) gives ends = absurd ends
journal_ends named arguments o (Err fault.NotExisting) gives ends = absurd ends
journal_ends named arguments o (Err fault.NotWell) gives ends = (o, gives)
journal_ends named arguments o (Err (fault.Damaged damage)) gives ends = (o, gives)
journal_ends named arguments o (Err fault.Memory) gives ends = tt
journal_ends named arguments o (Err fault.Disk) gives ends = (o, gives)
journal_ends named arguments o (Err fault.Full) gives ends = (o, gives)
journal_ends named arguments o (Err fault.InputOrOutput) gives ends = (o, gives)
journal_ends named arguments o (Err fault.ReplyMemory) gives ends = (o, gives)
journal_ends named arguments o (Err fault.ChildrenIgnored) gives ends = (o, gives)
journal_ends named arguments o (Err fault.NoExecutor) gives ends = (o, gives)
journal_ends named arguments o (Err fault.Failed) gives ends = (o, gives)

-- arguments that ask for a journal in the files of a directory
pub directory_ends : {T : Type 0} (named : Option (List ℕ)) (arguments : List (List ℕ)) (o : Options) (r : Result T Fault) → Gives named arguments o
    → is_some (directory_of o.journal) ≡ true → IsDirectoryEnd r → EndsFor named arguments r
directory_ends named arguments o r gives is_in =
    ⊎_elim (journal_ends named arguments o r gives)
    (⊎_elim (λ is. subst (λ x. EndsFor named arguments x) (sym is) (o, gives, is_in))
    (⊎_elim (λ is. subst (λ x. EndsFor named arguments x) (sym is) (o, gives, is_in))
    (λ is. subst (λ x. EndsFor named arguments x) (sym is) (o, gives, is_in))))

-- arguments whose options allow this end
pub options_end : {T : Type 0} (home : Option (List ℕ)) (arguments : List (List ℕ)) (o : Options) (r : Result T Fault) → Gives home arguments o
    → IsEndOf o r → EndsFor home arguments r
options_end {T} home arguments o r gives =
    ⊎_elim (journal_ends home arguments o r gives)
    (⊎_elim (λ is. subst (λ x. EndsFor home arguments x) (sym is.0) (o, gives, is.1)) (λ is. directory_ends home arguments o r gives is.0 is.1))

-- why the program ends as it does with these arguments: they ask for a journal, for one action by itself, or for nothing
pub starts_journal : (home : Option (List ℕ)) (arguments : List (List ℕ)) (o : Options) (r : Result (Unit {0}) Fault) (ended : Result ℕ Fault)
    → Gives home arguments o → IsEndOf o r → ended ≡ with_status r → StartEndsFor home arguments ended
starts_journal home arguments o r ended gives ends is = inr (inl (r, is, options_end home arguments o r gives ends))

pub starts_once : (home : Option (List ℕ)) (arguments : List (List ℕ)) (o : OnceOptions) (ended : Result ℕ Fault) → GivesOnce home arguments o
    → StartEndsFor home arguments ended
starts_once home arguments o ended gives = inl (o, gives)

pub starts_nothing : (home : Option (List ℕ)) (arguments : List (List ℕ)) (f : ArgumentsFault) (ended : Result ℕ Fault)
    → IsFault home arguments f → IsWrittenAs (is_once arguments) f ended → StartEndsFor home arguments ended
starts_nothing home arguments f ended is reported = inr (inr (f, is, reported))

-- the same where it is known what the arguments ask for
pub starts_asked_journal : (home : Option (List ℕ)) (arguments : List (List ℕ)) (w : Wanted) (o : Options) (r : Result (Unit {0}) Fault)
    (ended : Result ℕ Fault) → AsksFor home arguments w → w ≡ wanted.Journal o → IsEndOf o r → ended ≡ with_status r
    → StartEndsFor home arguments ended
starts_asked_journal home arguments w o r ended asks is =
    starts_journal home arguments o r ended (subst (λ (x : Wanted). AsksFor home arguments x) is asks)

pub starts_asked_once : (home : Option (List ℕ)) (arguments : List (List ℕ)) (w : Wanted) (o : OnceOptions) (ended : Result ℕ Fault)
    → AsksFor home arguments w → w ≡ wanted.Once o → StartEndsFor home arguments ended
starts_asked_once home arguments w o ended asks is =
    starts_once home arguments o ended (subst (λ (x : Wanted). AsksFor home arguments x) is asks)

-- how a session over a journal, or a view of one, ends: on its disk, in its directory, or because its log is not opened
pub ends_on_disk : {T : Type 0} (o : Options) (r : Result T Fault) → IsRunEnd r → IsEndOf o r
ends_on_disk o r ends = inl ends

pub ends_in_directory : {T : Type 0} (o : Options) (r : Result T Fault) → is_some (directory_of o.journal) ≡ true → IsDirectoryEnd r → IsEndOf o r
ends_in_directory o r is_in ends = inr (inr (is_in, ends))

pub ends_without_log : {T : Type 0} (o : Options) (f : Fault) → f ≡ fault.Log → (is_some o.log || is_some o.logs) ≡ true → IsEndOf {T = T} o (Err f)
ends_without_log o f is named = inr (inl (ap Err is, named))
