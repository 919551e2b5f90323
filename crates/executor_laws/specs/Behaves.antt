-- Behaviours of the machine: openings, calls and crashes, one incarnation after another.
use Rattle.std.specs.Prelude.{◌≡◌, ◌⊎◌, ◌≤◌, ℕ, Bool, true, List, [], ◌∷◌, ◌++◌, Option}
use Rattle.std.specs.List.{flat_map}
use Rattle.ocf_model.specs.Answer.{moment}
use Rattle.ocf_model.specs.Due.{due_at}
use Rattle.ocf_types.specs.Kinds.{Event}
use Rattle.ocf_model.specs.State.{State, after_all}
use Rattle.ocf_types.specs.declared.notice.Notice.{Notice}
use Rattle.child_model.specs.Children.{Asked}
use Rattle.child_model.specs.declared.answer.Entry.{Entry}
use Rattle.exec_ledger.specs.Boots.{booted}
use Rattle.exec_ledger.specs.Pieces.{Effects, HasBegin, followed_by}
use Rattle.executor_laws.specs.Incarnations.{MayBoot, boots}
use Rattle.executor_laws.specs.Machine.{Label, Machine, MovesAll}
use Rattle.executor.specs.Interruptions.{dropped, interrupted}
use Rattle.executor.specs.declared.opening.OpenError.{OpenError}

-- the observations of an incarnation whose opening succeeded: its moment, the interruptions and drops that its opening
-- reported, the calls that returned, those under way at the crash, how many device calls the disk had had then, whether its allocator
-- refuses growths, and how many answers its book of agent processes had room for when it was opened, and how many were in it then
pub record SeenUptime : Type 0 where
  pub now : ℕ
  pub ran : List Notice
  pub queued : List Notice
  pub calls : List Label
  pub begun : List Label
  pub stop : ℕ
  pub refuses : Bool
  pub room : ℕ
  pub booked : ℕ

-- the observations of an incarnation: an opening at a moment that was refused, or in which the crash came; or one that was done
pub data Seen : Type 0 where
  Opening : ℕ → Option OpenError → Seen
  Serving : SeenUptime → Seen

-- the machine as it is opened on a state: after the boot, and all monitors are due
abbrev pub opened_on : State → SeenUptime → Machine
opened_on s x = record {
  is_open = true;
  state = booted s x.now;
  due = due_at (booted s x.now) (moment s x.now);
  refuses = x.refuses;
  room = x.room;
  booked = x.booked;
}

-- the events of calls that remain after a crash: all that were recorded when a call returned, and a prefix of the others
abbrev pub SurvivesOf : Effects → Effects → List Event → Type 0
SurvivesOf returned under_way p = (later : List Event) × (others : List Event) × (p ≡ returned.events ++ later)
    × (p ++ others ≡ (followed_by returned under_way).events ++ (followed_by returned under_way).pending)

-- the answers of agent processes in an incarnation
abbrev pub answers_in : SeenUptime → List Entry
answers_in x = flat_map (λ l. l.answers) (x.calls ++ x.begun)

-- each agent whose start was asked before the crash has its begin among these events
abbrev pub HasBegins : SeenUptime → List Event → Type 0
HasBegins x es = (run clock : ℕ) → Asked (answers_in x) run clock → clock ≤ x.stop → HasBegin run es

-- The events of an incarnation that remain after its boot: a prefix of those of its calls, with the begin of each start.
pub record Remains (x : SeenUptime) (s : State) (p : List Event) : Type 0 where
  pub ran : x.ran ≡ interrupted s (moment s x.now)
  pub queued : x.queued ≡ dropped s (moment s x.now)
  pub returned : Machine
  pub last : Machine
  pub done : Effects
  pub under_way : Effects
  pub moves : MovesAll x.calls (opened_on s x) returned done
  pub goes_on : MovesAll x.begun returned last under_way
  pub holds : SurvivesOf done under_way p
  pub begins : HasBegins x p

-- the events that remain of an incarnation
abbrev pub RemainOf : Seen → State → List Event → Type 0
RemainOf (Opening now end) s zs = (zs ≡ []) ⊎ (MayBoot end × (zs ≡ boots s now))
RemainOf (Serving x) s zs = (p : List Event) × Remains x s p × (zs ≡ boots s x.now ++ p)

-- a behaviour of the machine from a state on, the last incarnation first, and the events that remain of it
abbrev pub Behaves : State → List Seen → List Event → Type 0
Behaves start [] zs = zs ≡ []
Behaves start (x ∷ older) zs = (ys : List Event) × (more : List Event) × Behaves start older ys × RemainOf x (after_all start ys) more × (zs ≡ ys ++ more)
