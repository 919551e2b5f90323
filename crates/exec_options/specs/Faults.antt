-- The faults of arguments that give no options. Rows are what `clap` read of a subcommand's arguments.
use Rattle.std.specs.Prelude.{◌≡◌, ◌⊎◌, ⊤, true, false, List, [], Option, None, codes, is_some}
use Rattle.clap.specs.Words.{Kinds, Row, Text, IsAmong, fault_of, kind_of}
use Rattle.clap.specs.declared.error.kind.ErrorKind.{ErrorKind}
use Rattle.clap.specs.declared.error.kind.ErrorKind.TheVariants.{DisplayHelp, DisplayVersion}
use Rattle.exec_options.specs.declared.fault.ArgumentsFault.{ArgumentsFault}
use Rattle.exec_options.specs.declared.fault.ArgumentsFault.TheVariants.{Help, Usage, Choice, Value, Memory}
use Rattle.exec_options.specs.declared.fault.BadValue.{BadValue}
use Rattle.exec_options.specs.declared.fault.BadValue.TheVariants as bad
use Rattle.exec_options.specs.declared.options.Subcommand.{Subcommand}
use Rattle.exec_options.specs.declared.table.TheConstants.{ROOT}
use Rattle.exec_options.specs.App.{ocfexec_app}
use Rattle.exec_options.specs.Arguments.{Names, is_absolute, is_clear, location_in, text_or}
use Rattle.exec_options.specs.Subcommands.{once_word, subcommand_word}

-- help or the version was asked for; it is no mistake
abbrev pub IsAsked : ErrorKind → Type 0
IsAsked k = (k ≡ DisplayHelp) ⊎ (k ≡ DisplayVersion)

-- the fault is one of `clap`'s, of one of these kinds, or lack of memory
abbrev pub HasFaultKind : Kinds → ArgumentsFault → Type 0
HasFaultKind kinds (Help e) = IsAmong (kind_of e) kinds × IsAsked (kind_of e)
HasFaultKind kinds (Usage e) = IsAmong (kind_of e) kinds × (¬ IsAsked (kind_of e))
HasFaultKind kinds Choice = ⊥
HasFaultKind kinds (Value value) = ⊥
HasFaultKind kinds Memory = ⊤

-- rows have a value that is refused: a root that is no absolute path, or no clear target; of any other value nothing is said
abbrev pub HasFlaw : List Row → BadValue → Type 0
HasFlaw rows bad.Root = is_absolute (text_or (codes "root") ROOT.now rows) ≡ false
HasFlaw rows bad.Target = is_clear rows ≡ false
HasFlaw rows _ = ⊤

-- a fault of rows: one of their values, or lack of memory
abbrev pub HasFault : List Row → ArgumentsFault → Type 0
HasFault rows (Value value) = HasFlaw rows value
HasFault rows Memory = ⊤
HasFault rows _ = ⊥

-- the same, or that the journal is not named
abbrev pub HasPlacedFault : Subcommand → Option Text → List Row → ArgumentsFault → Type 0
HasPlacedFault s named rows Choice = location_in s named rows ≡ None
HasPlacedFault s named rows (Value value) = (is_some (location_in s named rows) ≡ true) × HasFlaw rows value
HasPlacedFault s named rows _ = ⊥

-- the arguments name a subcommand and where its journal is, and their rows have this value
pub record Flawed (named : Option Text) (arguments : List Text) (value : BadValue) : Type 0 where
  pub subcommand : Subcommand
  pub rows : List Row
  pub names : Names arguments (subcommand_word subcommand) rows
  pub placed : is_some (location_in subcommand named rows) ≡ true
  pub has_flaw : HasFlaw rows value

-- the arguments name an action that is run once, and their rows have this value
pub record OnceFlawed (arguments : List Text) (value : BadValue) : Type 0 where
  pub rows : List Row
  pub names : Names arguments once_word rows
  pub has_flaw : HasFlaw rows value

-- the arguments name a subcommand, and not where its journal is
pub record Unplaced (named : Option Text) (arguments : List Text) : Type 0 where
  pub subcommand : Subcommand
  pub rows : List Row
  pub names : Names arguments (subcommand_word subcommand) rows
  pub none : location_in subcommand named rows ≡ None

-- the arguments name no subcommand that has a journal
abbrev pub Unnamed : List Text → Type 0
Unnamed arguments = (s : Subcommand) (rows : List Row) → ¬ Names arguments (subcommand_word s) rows

-- `clap` refuses the arguments for this, or accepts them and they give no options: the journal is not named, or a value is refused.
-- The environment names the directory `named`, if any.
abbrev pub IsFault : Option Text → List Text → ArgumentsFault → Type 0
IsFault named arguments Choice = (fault_of ocfexec_app arguments ≡ []) × (Unplaced named arguments ⊎ Unnamed arguments)
IsFault named arguments (Value value) =
    (fault_of ocfexec_app arguments ≡ []) × (Flawed named arguments value ⊎ OnceFlawed arguments value)
IsFault named arguments fault = HasFaultKind (fault_of ocfexec_app arguments) fault
