-- The options that arguments give. Rows are what `clap` read of a subcommand's arguments.
use Rattle.std.specs.Prelude.{◌≡◌, ◌≤◌, ◌==◌, ◌&&◌, ◌||◌, map, ℕ, Bool, true, false, not, if◌then◌else◌, List, [], ◌∷◌, IfSome}
use Rattle.std.specs.Prelude.{Option, Some, None, option_map, is_some, unwrap_or, codes, bytes_eq}
use Rattle.clap.specs.Words.{Row, Text, all_of, first_of, subcommand_of}
use Rattle.ocf_types.specs.Limits.{part_limit}
use Rattle.ocf_types.specs.declared.limits.TheConstants.{NUM_MAX, ORPHANS_LIMIT}
use Rattle.exec_options.specs.declared.arguments.Wanted.{Wanted}
use Rattle.exec_options.specs.declared.arguments.Wanted.TheVariants as wanted
use Rattle.exec_options.specs.declared.once.OnceOptions.{OnceOptions}
use Rattle.exec_options.specs.declared.once.OnceTarget.{OnceTarget}
use Rattle.exec_options.specs.declared.once.OnceTarget.TheVariants.{Agent, Resource}
use Rattle.exec_options.specs.declared.options.JournalLocation.{JournalLocation}
use Rattle.exec_options.specs.declared.options.JournalLocation.TheVariants.{Directory, Memory}
use Rattle.exec_options.specs.declared.options.Options.{Options}
use Rattle.exec_options.specs.declared.options.Subcommand.{Subcommand}
use Rattle.exec_options.specs.declared.table.TheConstants.{ID, JOURNAL, PATH, ROOT}
use Rattle.exec_options.specs.declared.values.TheConstants.{LONGEST_WATCH}
use Rattle.exec_options.specs.App.{ocfexec_app}
use Rattle.exec_options.specs.Subcommands.{is_query, once_word, subcommand_word}

-- the directory of a journal; `None` for one in memory
abbrev pub directory_of : JournalLocation → Option Text
directory_of (Directory dir) = Some dir.now
directory_of Memory = None

-- the texts of references that may be there
abbrev pub is_true_text : Option Text → Bool
is_true_text (Some t) = bytes_eq t (codes "true")
is_true_text None = false

-- a flag of this name is given; the text of an option, or this default; all texts of an argument
abbrev pub is_set : Text → List Row → Bool
is_set name rows = is_true_text (first_of name rows)

abbrev pub text_or : Text → Text → List Row → Text
text_or name default rows = unwrap_or (first_of name rows) default

abbrev pub texts_in : Text → List Row → List Text
texts_in name rows = unwrap_or (all_of name rows) []

-- the directory that is read if no journal is named: the one that the environment names, or the package's; a subcommand that starts
-- agents has none
abbrev pub default_directory : Subcommand → Option Text → Option Text
default_directory s named = if is_query s then Some (unwrap_or named JOURNAL.now) else None

-- where the journal is kept: a directory, or `Some None` for memory, from the text of `--journal` and whether `--memory` is given; `None`
-- if both are given, or neither and there is no default
abbrev pub location_of : Option Text → Option Text → Bool → Option (Option Text)
location_of default (Some directory) true = None
location_of default (Some directory) false = Some (Some directory)
location_of default None true = Some None
location_of default None false = option_map Some default

-- where the journal is kept by the rows of a subcommand, if the environment names the directory `named`
abbrev pub location_in : Subcommand → Option Text → List Row → Option (Option Text)
location_in s named rows =
    location_of (default_directory s named) (first_of (codes "journal") rows) (is_set (codes "memory") rows)

-- a number lies within these limits
abbrev pub IsWithin : ℕ → ℕ → ℕ → Type 0
IsWithin least most n = (least ≤ n) × (n ≤ most)

-- a path that begins at the root directory
abbrev pub is_absolute : Text → Bool
is_absolute (b ∷ more) = b == 47
is_absolute [] = false

-- the root, the program that agents are run through, and their `PATH` are those of these rows, with the defaults for absent ones
pub record IsSiteOf (rows : List Row) (root : Text) (via : Option Text) (path : Text) : Type 0 where
  pub root_is : root ≡ text_or (codes "root") ROOT.now rows
  pub absolute : is_absolute root ≡ true
  pub via_is : via ≡ first_of (codes "via") rows
  pub path_is : path ≡ text_or (codes "path") PATH.now rows

-- the journal of these options is where the rows of the subcommand say, if the environment names the directory `named`
abbrev pub IsPlacedAt : Option Text → List Row → Options → Type 0
IsPlacedAt named rows o = location_in o.subcommand named rows ≡ Some (directory_of o.journal)

-- the site, and the flags that decide whose journal is opened, whether orphans are left alone, and with which status a run ends, are those
-- of a subcommand's rows; all other options are some within their limits
pub record IsReadFrom (rows : List Row) (o : Options) : Type 0 where
  pub site : IsSiteOf rows o.root.now (option_map (λ s. s.now) o.via) o.path.now
  pub any_owner : o.any_owner ≡ is_set (codes "any-owner") rows
  pub leave_orphans : o.leave_orphans ≡ is_set (codes "leave-orphans") rows
  pub strict : o.strict ≡ is_set (codes "strict") rows
  pub tidy_at : o.tidy_at ≤ part_limit
  pub orphans : o.orphans ≤ ORPHANS_LIMIT
  pub watch : IfSome o.watch (IsWithin 1 LONGEST_WATCH)
  pub last : IfSome o.last (λ n. n ≤ NUM_MAX)

-- it is clear what is run once: an agent and its action, or, after `--of`, a resource of a journal and its action
abbrev pub is_clear : List Row → Bool
is_clear rows =
    if is_some (first_of (codes "of") rows)
    then is_some (first_of (codes "agent") rows)
    && (not (is_some (first_of (codes "action") rows)) && not (is_some (first_of (codes "id") rows)))
    else is_some (first_of (codes "agent") rows)
    && (is_some (first_of (codes "action") rows)
    && not (is_some (first_of (codes "journal") rows) || is_set (codes "beside") rows))

-- the name of the action that is run once: the only word after `--of`
abbrev pub once_action : List Row → Text
once_action rows =
    if is_some (first_of (codes "of") rows) then text_or (codes "agent") [] rows else text_or (codes "action") [] rows

-- whose action is run once, if the environment names the directory `named`
abbrev pub IsTarget : Option Text → List Row → OnceTarget → Type 0
IsTarget named rows (Agent a) =
    (first_of (codes "of") rows ≡ None)
    × (a.agent.now ≡ text_or (codes "agent") [] rows)
    × (a.id.now ≡ text_or (codes "id") ID.now rows)
    × (map (λ s. s.now) a.parameters.items ≡ texts_in (codes "parameters") rows)
IsTarget named rows (Resource r) =
    (first_of (codes "of") rows ≡ Some r.id.now)
    × (r.directory.now ≡ text_or (codes "journal") (unwrap_or named JOURNAL.now) rows)
    × (r.beside ≡ is_set (codes "beside") rows)

-- what is run once, and its site, are those of these rows; all other options are some within their limits
pub record IsOnceFrom (named : Option Text) (rows : List Row) (o : OnceOptions) : Type 0 where
  pub clear : is_clear rows ≡ true
  pub target : IsTarget named rows o.target
  pub action : o.action.now ≡ once_action rows
  pub site : IsSiteOf rows o.root.now (option_map (λ s. s.now) o.via) o.path.now
  pub timeout : 1 ≤ o.timeout

-- the arguments after the name of the program begin with the subcommand that runs an action once
abbrev pub is_once : List Text → Bool
is_once (program ∷ (word ∷ more)) = bytes_eq word once_word
is_once _ = false

-- a subcommand with these rows gives these options
abbrev pub IsJournalWanted : Subcommand → Option Text → List Row → Wanted → Type 0
IsJournalWanted s named rows (wanted.Journal o) = (o.subcommand ≡ s) × IsPlacedAt named rows o × IsReadFrom rows o
IsJournalWanted s named rows (wanted.Once o) = ⊥

-- an action that is run once, with these rows, gives these options
abbrev pub IsOnceWanted : Option Text → List Row → Wanted → Type 0
IsOnceWanted named rows (wanted.Journal o) = ⊥
IsOnceWanted named rows (wanted.Once o) = IsOnceFrom named rows o

-- by `clap`'s rules the arguments name the subcommand of this name, with these rows
abbrev pub Names : List Text → Text → List Row → Type 0
Names arguments name rows = subcommand_of ocfexec_app arguments ≡ Some (name, rows)

-- the arguments name a subcommand whose rows give these options, if the environment names the directory `named`
pub record Gives (named : Option Text) (arguments : List Text) (o : Options) : Type 0 where
  pub rows : List Row
  pub names : Names arguments (subcommand_word o.subcommand) rows
  pub placed : IsPlacedAt named rows o
  pub read : IsReadFrom rows o

-- the arguments name an action that is run once, and their rows give these options
pub record GivesOnce (named : Option Text) (arguments : List Text) (o : OnceOptions) : Type 0 where
  pub rows : List Row
  pub names : Names arguments once_word rows
  pub read : IsOnceFrom named rows o

-- the arguments give these options
abbrev pub AsksFor : Option Text → List Text → Wanted → Type 0
AsksFor named arguments (wanted.Journal o) = Gives named arguments o
AsksFor named arguments (wanted.Once o) = GivesOnce named arguments o
