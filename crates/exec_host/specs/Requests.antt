-- What the system may be asked for: what the arguments call for, and nothing else.
use Rattle.std.specs.Prelude.{◌≡◌, ◌⊎◌, ℕ, ⊤, Bool, true, List, Option, Some, not, option_map, is_some}
use Rattle.clap.specs.declared.error.Error.{Error}
use Rattle.ocf_env.specs.Locations.{SiteView}
use Rattle.exec_options.specs.Faults.{IsFault}
use Rattle.exec_options.specs.Arguments.{Gives, GivesOnce, directory_of}
use Rattle.exec_options.specs.declared.fault.ArgumentsFault.{ArgumentsFault}
use Rattle.exec_options.specs.declared.fault.ArgumentsFault.TheVariants as arguments_fault
use Rattle.exec_options.specs.declared.once.OnceOptions.{OnceOptions}
use Rattle.exec_options.specs.declared.options.Options.{Options}
use Rattle.exec_options.specs.declared.options.Subcommand.{Subcommand}
use Rattle.exec_options.specs.declared.options.Subcommand.TheVariants as subcommand
use Rattle.exec_host.specs.Asked.{Asked}
use Rattle.exec_host.specs.Limits.{book_room}
use Rattle.exec_host.specs.Services.{disk_line, served_directory}
use Rattle.exec_host.specs.Sites.{site_of}
use Rattle.exec_host.specs.Upkeeps.{UpkeepView, upkeep_of}

-- A request to open, spawn, read, write or show something, with its arguments. Texts are bytes, times are milliseconds.
pub data Request (Log : Type 0) : Type 0 where
  -- the files of the journal in a directory; the identity of a journal
  OpenFiles : Options → List ℕ → Request Log
  AskIdentity : Option (List ℕ) → Request Log
  -- the clock of a session over the journal of a directory or one in memory, whose last event has this moment
  StartClock : Option (List ℕ) → ℕ → Request Log
  -- where agents write; agents that are looked after like this and write there, with a book of this many answers; the metadata of the
  -- agents of a site, each of which runs in a process group of its own or not
  OpenLog : Option (List ℕ) → Option (List ℕ) → Request Log
  MakeAgents : UpkeepView → Log → ℕ → Request Log
  AskSite : SiteView → Bool → Request Log
  -- standard input; standard output and the watched paths of the journal, if it is served; a line on standard output
  OpenReader : Request Log
  OpenWriter : Option (List ℕ) → Request Log
  WatchPaths : Option (List ℕ) → Request Log
  WriteLine : List ℕ → Request Log
  -- a view of the journal of a directory, or of one in memory; one action by itself; a text
  ShowJournal : Options → Option (List ℕ) → Request Log
  RunOnce : OnceOptions → Request Log
  PrintText : Error → Request Log

-- all these requests are allowed
abbrev pub Allows : {L : Type 0} → (Request L → Type 0) → (Request L → Type 0) → Type 0
Allows {L} may asks = (r : Request L) → asks r → may r

-- the requests of a session about its journal, and about its clock
abbrev pub IsOfDirectory : {L : Type 0} → Options → Request L → Type 0
IsOfDirectory o (OpenFiles given directory) = (given ≡ o) × (directory_of o.journal ≡ Some directory)
IsOfDirectory o (AskIdentity directory) = directory ≡ directory_of o.journal
IsOfDirectory o (StartClock directory moment) = directory ≡ directory_of o.journal
IsOfDirectory o _ = ⊥

-- its requests about agents, which are looked after as the options say and write to the log that they name
abbrev pub IsOfAgents : {F L A S R W K H : Type 0} → Asked F L A S R W K H → Options → Request L → Type 0
IsOfAgents asked o (OpenLog file directory) = (file ≡ option_map (λ s. s.now) o.log) × (directory ≡ option_map (λ s. s.now) o.logs)
IsOfAgents asked o (MakeAgents upkeep log book) =
    (upkeep ≡ upkeep_of o) × asked.log (option_map (λ s. s.now) o.log) (option_map (λ s. s.now) o.logs) log × (book ≡ book_room)
IsOfAgents asked o (AskSite site groups) = (site ≡ site_of o) × (groups ≡ not o.no_groups)
IsOfAgents asked o _ = ⊥

-- its requests about the standard streams: a line by itself only where the served journal is gone
abbrev pub IsOfStreams : {F L A S R W K H : Type 0} → Asked F L A S R W K H → Options → Request L → Type 0
IsOfStreams asked o OpenReader = ⊤
IsOfStreams asked o (OpenWriter served) = served ≡ served_directory o
IsOfStreams asked o (WatchPaths served) = served ≡ served_directory o
IsOfStreams {H = H} asked o (WriteLine line) = (line ≡ disk_line) × (is_some (served_directory o) ≡ true)
    × ((watch : H) × asked.watch (served_directory o) watch × asked.moved watch)
IsOfStreams asked o _ = ⊥

-- the requests of a session
abbrev pub IsOfRun : {F L A S R W K H : Type 0} → Asked F L A S R W K H → Options → Request L → Type 0
IsOfRun asked o r = IsOfDirectory o r ⊎ (IsOfAgents asked o r ⊎ IsOfStreams asked o r)

-- the request of a view of a journal
abbrev pub IsOfLook : {L : Type 0} → Options → Request L → Type 0
IsOfLook o (ShowJournal given location) = (given ≡ o) × (directory_of o.journal ≡ location)
IsOfLook o _ = ⊥

-- the requests of a subcommand, by these options
abbrev pub IsOfSubcommand : {F L A S R W K H : Type 0} → Asked F L A S R W K H → Options → Subcommand → Request L → Type 0
IsOfSubcommand asked o subcommand.Run r = IsOfRun asked o r
IsOfSubcommand asked o subcommand.Serve r = IsOfRun asked o r
IsOfSubcommand asked o _ r = IsOfLook o r

-- the text that answers arguments which give no options
abbrev pub IsOfFault : {L : Type 0} → ArgumentsFault → Request L → Type 0
IsOfFault fault (PrintText text) = (fault ≡ arguments_fault.Help text) ⊎ (fault ≡ arguments_fault.Usage text)
IsOfFault fault _ = ⊥

-- These arguments call for this request, where the environment names this directory for a journal: by the options of a subcommand, to run
-- one action, or to print a text.
abbrev pub IsAskedFor : {F L A S R W K H : Type 0} → Asked F L A S R W K H → Option (List ℕ) → List (List ℕ) → Request L → Type 0
IsAskedFor asked named arguments r =
    ((o : Options) × Gives named arguments o × IsOfSubcommand asked o o.subcommand r)
    ⊎ (((o : OnceOptions) × GivesOnce named arguments o × (r ≡ RunOnce o)) ⊎ ((f : ArgumentsFault) × IsFault named arguments f × IsOfFault f r))
