-- What the system was asked for.
use Rattle.std.specs.Prelude.{◌≡◌, ℕ, Bool, List, [], Option, None, Result}
use Rattle.clap.specs.declared.error.Error.{Error}
use Rattle.ocf_env.specs.Locations.{SiteView}
use Rattle.disk_model.specs.Disk.{DiskView}
use Rattle.child_model.specs.Children.{ChildrenView}
use Rattle.ocf_types.specs.declared.orphan.Orphan.{Orphan}
use Rattle.exec_options.specs.declared.once.OnceOptions.{OnceOptions}
use Rattle.exec_options.specs.declared.options.Options.{Options}
use Rattle.exec_faults.specs.declared.fault.Fault.{Fault}
use Rattle.exec_lines.specs.Inputs.{InputView}
use Rattle.exec_lines.specs.Tickers.{TickerEvent}
use Rattle.session_machine.specs.Starts.{Gives, SourceView}
use Rattle.exec_host.specs.Upkeeps.{UpkeepView}

-- What a system was asked for, with its answers: each relation holds of the arguments and the answer of one method. Texts are bytes,
-- times are milliseconds.
pub record Asked (Files Log Agents Source Reader Writer Ticker Watch : Type 0) : Type 1 where
  -- the files of the journal in a directory, of any owner or not; why they were not opened; that they were closed as they are here
  pub files : List ℕ → Bool → Files → Type 0
  pub no_files : List ℕ → Bool → Fault → Type 0
  pub closed : Files → Type 0
  -- where agents write, by the file and the directory that are named; that it was not opened
  pub log : Option (List ℕ) → Option (List ℕ) → Log → Type 0
  pub no_log : Option (List ℕ) → Option (List ℕ) → Type 0
  -- agents that are looked after like this and write there, and the processes that live on from interrupted actions
  pub agents : UpkeepView → Log → List Orphan → Agents → Type 0
  -- the metadata of the agents of a site, each of which runs in a process group of its own or not
  pub source : SiteView → Bool → Source → Type 0
  -- standard input, and standard output, which counts as read while the journal of a directory is there; that standard input and the clock
  -- of a session were left as they are here
  pub reader : Reader → Type 0
  pub writer : Option (List ℕ) → Writer → Type 0
  pub left : Reader → Ticker → Type 0
  -- a reading of the system's clock; the clock of a session over the journal of a directory or one in memory, whose last event has this
  -- moment
  pub moment : ℕ → Type 0
  pub ticker : Option (List ℕ) → ℕ → Ticker → Type 0
  -- whether SIGCHLD is ignored. POSIX, sigaction
  pub ignored : Bool → Type 0
  -- the identity of a directory's journal, if it has one
  pub identity : Option (List ℕ) → Option (List ℕ) → Type 0
  -- the paths of a directory's journal as they are watched; that they lead elsewhere, or still lead there
  pub watch : Option (List ℕ) → Watch → Type 0
  pub moved : Watch → Type 0
  pub stays : Watch → Type 0
  -- a line on standard output
  pub line : List ℕ → Type 0
  -- the answer of `show` and its kin, for the journal of a directory or for one in memory
  pub shown : Options → Option (List ℕ) → Result Unit Fault → Type 0
  pub once : OnceOptions → ℕ → Type 0
  pub printed : Error → Type 0

-- A system: what it gives, what it was asked for, how what it gives is seen, and whether its allocator refuses growths.
pub record System : Type 1 where
  pub Files : Type 0
  pub Log : Type 0
  pub Agents : Type 0
  pub Source : Type 0
  pub Reader : Type 0
  pub Writer : Type 0
  pub Ticker : Type 0
  pub Watch : Type 0
  pub asked : Asked Files Log Agents Source Reader Writer Ticker Watch
  pub disk : Files → DiskView
  pub tend : Agents → ChildrenView
  pub gives : SourceView → Gives
  pub input : Reader → InputView
  pub contents : Writer → Option (List ℕ)
  pub ticks : Ticker → List TickerEvent
  pub refuses : Bool

-- the system of these
abbrev pub system_of : {F L A S R W K H : Type 0} → Asked F L A S R W K H → (F → DiskView) → (A → ChildrenView) → (SourceView → Gives)
    → (R → InputView) → (W → Option (List ℕ)) → (K → List TickerEvent) → Bool → System
system_of {F} {L} {A} {S} {R} {W} {K} {H} asked disk tend gives input contents ticks refuses = record {
  Files = F;
  Log = L;
  Agents = A;
  Source = S;
  Reader = R;
  Writer = W;
  Ticker = K;
  Watch = H;
  asked = asked;
  disk = disk;
  tend = tend;
  gives = gives;
  input = input;
  contents = contents;
  ticks = ticks;
  refuses = refuses;
}

-- no agent process yet and no resource held, with a book of this many answers, at any site
abbrev pub fresh_agents : ℕ → ChildrenView
fresh_agents book = record { book = []; log = []; room = book; last_run = 0; live = []; given_up = []; held = []; site = None }

-- the same, where any resources are held because processes of interrupted actions live
abbrev pub AreFresh : ℕ → ChildrenView → Type 0
AreFresh book v = (held : List (List ℕ)) × (v ≡ record (fresh_agents book) { held = held })
