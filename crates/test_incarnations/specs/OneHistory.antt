-- The history of the example in docs/STATEMENT.md, as a term: what is observed of three incarnations, and the events that remain.
use Rattle.std.specs.Prelude.{ℕ, false, List, [], ◌∷◌, None, Ok, codes}
use Rattle.ocf_types.specs.Actions.{plain, task}
use Rattle.ocf_types.specs.Kinds.{Event, Registration}
use Rattle.ocf_types.specs.declared.action.Action.TheVariants.{Start}
use Rattle.ocf_types.specs.declared.command.CommandOf.TheVariants as command
use Rattle.ocf_types.specs.declared.command.RequestOf.TheVariants as asked
use Rattle.ocf_types.specs.declared.event.Change.TheVariants as change
use Rattle.ocf_types.specs.declared.event.Step.TheVariants as step
use Rattle.ocf_types.specs.declared.expect.Expect.TheVariants.{Success}
use Rattle.ocf_types.specs.declared.outcome.Outcome.TheVariants.{Interrupted}
use Rattle.ocf_types.specs.declared.notice.Notice.{Notice}
use Rattle.ocf_model.specs.declared.reply.ReplyOf.TheVariants as reply
use Rattle.ocf_model.specs.declared.reply.TurnEnd.TheVariants as turn_end
use Rattle.child_model.specs.Children.{start_answer}
use Rattle.child_model.specs.declared.answer.Entry.{Entry}
use Rattle.executor_laws.specs.Behaves.{Opening, Seen, SeenUptime, Serving}
use Rattle.executor.specs.Exchanges.{Exchange, Took}
use Rattle.executor_laws.specs.Machine.{Label}
use Rattle.executor.specs.declared.session.InputOf.TheVariants as input

-- the resource
abbrev pub web : List ℕ
web = codes "web"

abbrev pub registration : Registration
registration = record { id = web; provider = codes "pacemaker"; agent = codes "Dummy"; params = [] }

-- the events R, E, B and K: the registration, the start that is queued as call 1, its begin as run 1, and the boot
abbrev pub registers : Event
registers = record { at = 1010; change = change.Register registration }

abbrev pub queues : Event
queues = record { at = 1020; change = change.Step web (step.Exec (record { call = 1; task = task Start plain; timeout = 20000 })) }

abbrev pub begins : Event
begins = record { at = 1030; change = change.Step web (step.Begin 1 1) }

abbrev pub boots : Event
boots = record { at = 5000; change = change.Boot }

-- the calls with their answers
abbrev pub register : Exchange
register = Took (input.Request 1010 (asked.Command (command.Register registration))) reply.Done

abbrev pub exec : Exchange
exec = Took (input.Request 1020 (asked.Command (command.Exec web (task Start plain) 20000))) (reply.Accepted 1 (codes "web_start_0"))

abbrev pub turn : Exchange
turn = Took (input.Turn 1030) (reply.Turn turn_end.Done)

-- the start of the agent for run 1, which succeeded; it was requested when the disk had had 25 calls
abbrev pub started : Entry
started = record { run = 1; at = 25; answer = start_answer (Ok tt) }

-- the label of a call: with these answers of agents, and at this offset of the journal; no resource is held, and no device call failed
abbrev pub label : Exchange → List Entry → ℕ → Label
label call answers tail =
    record { exchange = call; answers = answers; notices = []; held = []; tail = tail; epoch = 1; faults = (0, 0) }

-- opened at 1000, on two empty files, with room for 12 answers in the book: two calls returned, and the turn was begun when the machine
-- crashed, after 25 calls of the disk
abbrev pub first : SeenUptime
first = record {
  now = 1000;
  ran = [];
  queued = [];
  calls = label register [] 44 ∷ label exec [] 79 ∷ [];
  begun = label turn (started ∷ []) 112 ∷ [];
  stop = 25;
  refuses = false;
  room = 12;
  booked = 0;
}

-- the report of the second opening
abbrev pub interruption : Notice
interruption = record {
  id = web;
  result = record { call = 1; run = 1; action = Start; interval = 0; since = 1030; at = 5000; outcome = Interrupted };
  expect = Success;
}

-- an incarnation without a call, opened at this moment and with these actions reported as interrupted
abbrev pub uncalled : ℕ → List Notice → SeenUptime
uncalled now ran = record { now = now; ran = ran; queued = []; calls = []; begun = []; stop = 0; refuses = false; room = 12; booked = 0 }

-- opened again at 5000, and crashed at once; and opened again at 6000
abbrev pub second : SeenUptime
second = uncalled 5000 (interruption ∷ [])

abbrev pub third : SeenUptime
third = uncalled 6000 []

-- the history, its last incarnation first
abbrev pub one_history : List Seen
one_history = Serving third ∷ Serving second ∷ Serving first ∷ []

-- what remains of it
abbrev pub remaining : List Event
remaining = registers ∷ queues ∷ begins ∷ boots ∷ []

-- Had the machine crashed before the start was requested, the begin may be lost.
abbrev pub unstarted : List Seen
unstarted = Serving (record first { stop = 24 }) ∷ []

-- Had the crash come in the second opening, the boot may be lost.
abbrev pub in_opening : List Seen
in_opening = Opening 5000 None ∷ Serving first ∷ []
