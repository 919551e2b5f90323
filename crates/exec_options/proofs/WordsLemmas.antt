-- The result of parsing the arguments of the command line, and arguments that give no options.
use Rattle.std.proofs.Common.{◌≡◌, ◌≢◌, true, inl, inr, List, [], Option, None, Some, option_map, unwrap_or, ap, subst, ◌∙◌, sym}
use Rattle.clap.specs.Words.{Row, Text, app_of, fault_of, is_simple, is_simple_and_free, subcommand_name_of, subcommand_of}
use Rattle.clap.specs.Words.{subcommand_rows_of, HasMatchesOf, Kinds}
use Rattle.clap.specs.declared.builder.command.Command.{Command}
use Rattle.clap.specs.declared.parser.matches.ArgMatches.{ArgMatches}
use Rattle.exec_options.specs.declared.options.Subcommand.{Subcommand}
use Rattle.exec_options.specs.declared.fault.ArgumentsFault.{ArgumentsFault}
use Rattle.exec_options.specs.declared.fault.ArgumentsFault.TheVariants.{Help, Usage, Choice, Value, Memory}
use Rattle.exec_options.specs.declared.arguments.Wanted.TheVariants as wanted
use Rattle.exec_options.specs.App.{ocfexec_app}
use Rattle.exec_options.specs.Faults.{HasFault, HasFaultKind, HasPlacedFault, IsFault, Unnamed}
use Rattle.exec_options.specs.Subcommands.{once_word, subcommand_word}
use Rattle.exec_options.specs.Arguments.{AsksFor, IsJournalWanted, IsOnceWanted}
use Rattle.exec_options.specs.declared.arguments.Wanted.{Wanted}
use Rattle.ocf_types.specs.Lemmas.{some_is}
use Rattle.exec_options.proofs.AppLemmas.{both_parts, name_in_rows}

-- the subcommand in the result of a parse is the one that the arguments name
pub met : (command : Command) (arguments : List Text) (m : ArgMatches) (name : Text) (rows : List Row) → app_of command ≡ ocfexec_app
    → HasMatchesOf (app_of command) arguments m
    → Some name ≡ subcommand_name_of m → Some rows ≡ option_map (λ p. p.1) (subcommand_rows_of m)
    → subcommand_of ocfexec_app arguments ≡ Some (name, rows)
met command arguments m name rows app matches is_name are_rows =
    let same : subcommand_rows_of m ≡ subcommand_of (app_of command) arguments = (matches (ap is_simple app)).1 in
    sym (ap (λ a. subcommand_of a arguments) app) ∙ sym same ∙ both_parts (subcommand_rows_of m) name rows (is_name ∙ name_in_rows m) are_rows

-- `clap` refuses the arguments of the command line by exactly these kinds
pub faults : (command : Command) (arguments : List Text) (P : Kinds → Type 0) → app_of command ≡ ocfexec_app
    → (is_simple_and_free (app_of command) ≡ true → P (fault_of (app_of command) arguments)) → P (fault_of ocfexec_app arguments)
faults command arguments P app holds = subst (λ a. P (fault_of a arguments)) app (holds (ap is_simple_and_free app))

-- arguments that name another subcommand name no subcommand that has a journal
pub unnamed : (arguments : List Text) (name : Text) (rows : List Row) → subcommand_of ocfexec_app arguments ≡ Some (name, rows)
    → ((s : Subcommand) → name ≢ subcommand_word s) → Unnamed arguments
unnamed arguments name rows named none s found names = none s (ap (λ (p : Text × List Row). p.0) (some_is _ _ (sym named ∙ names)))

-- the arguments of a subcommand give the options that are read from its rows
pub given : (home : Option Text) (arguments : List Text) (name : Text) (rows : List Row) (s : Subcommand) (w : Wanted)
    → subcommand_of ocfexec_app arguments ≡ Some (name, rows) → name ≡ subcommand_word s → IsJournalWanted s home rows w → AsksFor home arguments w
given home arguments name rows s (wanted.Journal o) named is (same, placed, read) = record {
  rows = rows;
  names = named ∙ ap (λ t. Some (t, rows)) (is ∙ ap subcommand_word (sym same));
  placed = placed;
  read = read;
}
given home arguments name rows s (wanted.Once o) named is none = absurd none

-- and so do those of an action that is run once
pub given_once : (home : Option Text) (arguments : List Text) (name : Text) (rows : List Row) (w : Wanted)
    → subcommand_of ocfexec_app arguments ≡ Some (name, rows) → name ≡ once_word → IsOnceWanted home rows w → AsksFor home arguments w
given_once home arguments name rows (wanted.Journal o) named is none = absurd none
given_once home arguments name rows (wanted.Once o) named is read = record {
  rows = rows;
  names = named ∙ ap (λ t. Some (t, rows)) is;
  read = read;
}

-- arguments that name no journal, or have a value that is refused, give no options
pub flawed : (home : Option Text) (arguments : List Text) (name : Text) (rows : List Row) (s : Subcommand) (fault : ArgumentsFault)
    → fault_of ocfexec_app arguments ≡ [] → subcommand_of ocfexec_app arguments ≡ Some (name, rows) → name ≡ subcommand_word s
    → HasPlacedFault s home rows fault → IsFault home arguments fault
flawed home arguments name rows s Choice parsed named is none = (
  parsed,
  inl (record { subcommand = s; rows = rows; names = named ∙ ap (λ t. Some (t, rows)) is; none = none }),
)
flawed home arguments name rows s (Value value) parsed named is (placed, flaw) = (
  parsed,
  inl (record { subcommand = s; rows = rows; names = named ∙ ap (λ t. Some (t, rows)) is; placed = placed; has_flaw = flaw }),
)
flawed home arguments name rows s (Help e) parsed named is flaw = absurd flaw
flawed home arguments name rows s (Usage e) parsed named is flaw = absurd flaw
flawed home arguments name rows s Memory parsed named is flaw = absurd flaw

pub flawed_once : (home : Option Text) (arguments : List Text) (name : Text) (rows : List Row) (fault : ArgumentsFault)
    → fault_of ocfexec_app arguments ≡ [] → subcommand_of ocfexec_app arguments ≡ Some (name, rows) → name ≡ once_word → HasFault rows fault
    → IsFault home arguments fault
flawed_once home arguments name rows (Value value) parsed named is flaw = (
  parsed,
  inr (record { rows = rows; names = named ∙ ap (λ t. Some (t, rows)) is; has_flaw = flaw }),
)
flawed_once home arguments name rows (Help e) parsed named is flaw = absurd flaw
flawed_once home arguments name rows (Usage e) parsed named is flaw = absurd flaw
flawed_once home arguments name rows Choice parsed named is flaw = absurd flaw
flawed_once home arguments name rows Memory parsed named is flaw = tt

-- `clap`'s fault is one of these
pub fault_kind : (home : Option Text) (arguments : List Text) (fault : ArgumentsFault) → HasFaultKind (fault_of ocfexec_app arguments) fault
    → IsFault home arguments fault
fault_kind home arguments (Help e) h = h
fault_kind home arguments (Usage e) h = h
fault_kind home arguments Choice h = absurd h
fault_kind home arguments (Value value) h = absurd h
fault_kind home arguments Memory h = h

-- the texts of an argument, or no texts if it is absent
pub texts_given : {X : Type 0} (o all : Option (List X)) (xs : List X) → o ≡ all → o ≡ Some xs → xs ≡ unwrap_or all []
texts_given o all xs e is = sym (ap (λ r. unwrap_or r []) (sym e ∙ is))

pub no_texts : {X : Type 0} (o all : Option (List X)) → o ≡ all → o ≡ None → [] ≡ unwrap_or all []
no_texts o all e is = sym (ap (λ r. unwrap_or r []) (sym e ∙ is))
