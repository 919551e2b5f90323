-- What the program may ask for, from its arguments down to the requests of its parts.
use Rattle.std.proofs.Common.{◌≡◌, ℕ, List, Option, Some, ap, inl, inr, is_some, true, refl, subst, Bor}
use Rattle.exec_options.specs.Arguments.{AsksFor, directory_of}
use Rattle.exec_options.specs.declared.once.OnceOptions.{OnceOptions}
use Rattle.exec_options.specs.declared.options.JournalLocation.{JournalLocation}
use Rattle.exec_options.specs.declared.options.JournalLocation.TheVariants.{Directory}
use Rattle.exec_options.specs.declared.options.Options.{Options}
use Rattle.exec_options.specs.declared.options.Subcommand.{Subcommand}
use Rattle.exec_options.specs.declared.arguments.Wanted.{Wanted}
use Rattle.exec_options.specs.declared.arguments.Wanted.TheVariants as wanted
use Rattle.exec_host.specs.Asked.{Asked}
use Rattle.exec_host.specs.Requests.{Allows, IsAskedFor, IsOfStreams, IsOfSubcommand, Request, RunOnce, WriteLine}
use Rattle.exec_host.specs.Services.{disk_line, served_directory}

-- where the arguments ask for a journal, the requests of its subcommand are allowed
pub allows_journal : {F L A S R W K H : Type 0} (asked : Asked F L A S R W K H) (named : Option (List ℕ)) (arguments : List (List ℕ))
    (may : Request L → Type 0) (w : Wanted) (o : Options) → AsksFor named arguments w → w ≡ wanted.Journal o
    → Allows may (IsAskedFor asked named arguments) → Allows may (IsOfSubcommand asked o o.subcommand)
allows_journal asked named arguments may w o asks is allows r h =
    allows r (inl (o, subst (λ (x : Wanted). AsksFor named arguments x) is asks, h))

-- where they ask for one action by itself, that request is allowed
pub allows_once : {F L A S R W K H : Type 0} (asked : Asked F L A S R W K H) (named : Option (List ℕ)) (arguments : List (List ℕ))
    (may : Request L → Type 0) (w : Wanted) (o : OnceOptions) → AsksFor named arguments w → w ≡ wanted.Once o
    → Allows may (IsAskedFor asked named arguments) → may (RunOnce o)
allows_once asked named arguments may w o asks is allows =
    allows (RunOnce o) (inr (inl (o, subst (λ (x : Wanted). AsksFor named arguments x) is asks, refl)))

-- the same of a subcommand that is known
pub allows_as : {F L A S R W K H : Type 0} (asked : Asked F L A S R W K H) (may : Request L → Type 0) (o : Options)
    (s t : Subcommand) → s ≡ t → Allows may (IsOfSubcommand asked o s) → Allows may (IsOfSubcommand asked o t)
allows_as asked may o s t is allows = subst (λ (x : Subcommand). Allows may (IsOfSubcommand asked o x)) is allows

-- a journal in files is in this directory
pub names_directory : (location : JournalLocation) (directory : Bor (List ℕ)) → location ≡ Directory directory
    → directory_of location ≡ Some directory.now
names_directory location directory is = ap directory_of is

-- where the served journal is gone, the line of such an end is allowed
pub allows_line : {F L A S R W K H : Type 0} (asked : Asked F L A S R W K H) (may : Request L → Type 0) (o : Options) (watch : H) (line : List ℕ)
    → Allows may (IsOfStreams asked o) → line ≡ disk_line → is_some (served_directory o) ≡ true → asked.watch (served_directory o) watch
    → asked.moved watch → may (WriteLine line)
allows_line asked may o watch line allows is served watched moved = allows (WriteLine line) (is, served, (watch, watched, moved))
