-- A machine of one resource, which knows of no other. The numbers of its calls and runs are handed in, each above all that it
-- knows.
use Rattle.std.specs.Prelude.{◌≡◌, ◌⊎◌, ℕ, ◌+◌, ◌≤◌, Bool, false, List, [], ◌∷◌, ◌++◌, map, min, length, nat_lt, nat_le, is_some, is_none, Option, Some, None, option_map, option_and_then, option_to_list, Result, Ok, Err, if◌then◌else◌}
use Rattle.std.specs.Option.{option_map_or}
use Rattle.ocf_model.specs.Answer.{change_of, first_of, info_of}
use Rattle.ocf_model.specs.Due.{IsPick, or_else, step_sets}
use Rattle.ocf_types.specs.Kinds.{Change, Command, Event}
use Rattle.ocf_model.specs.Answer.{Reply}
use Rattle.ocf_types.specs.Limits.{event_limit, num_max, queue_limit, recurring_limit}
use Rattle.ocf_model.specs.Resource.{Resource, is_busy, of_call, of_interval, queued_of}
use Rattle.ocf_types.specs.Encoding.{encoded_event}
use Rattle.ocf_model.specs.State.{registered, resource_at, stepped}
use Rattle.ocf_types.specs.declared.command.CommandOf.TheVariants as command
use Rattle.ocf_types.specs.declared.command.Question.{Question}
use Rattle.ocf_types.specs.declared.command.Question.TheVariants as question
use Rattle.ocf_types.specs.declared.command.RequestOf.TheVariants as asked
use Rattle.ocf_types.specs.declared.event.Change.TheVariants as change
use Rattle.ocf_types.specs.declared.event.Step.TheVariants as step
use Rattle.ocf_types.specs.declared.operation.Running.{Running}
use Rattle.ocf_types.specs.declared.outcome.StartFault.{StartFault}
use Rattle.ocf_model.specs.declared.refusal.Refusal.{Refusal}
use Rattle.ocf_model.specs.declared.refusal.Refusal.TheVariants.{Busy, Exists, Recurs, NoSuchRecurring, NotQueued, QueueFull, RecurringFull, TooLarge, UnknownResource}
use Rattle.ocf_model.specs.declared.reply.ReplyOf.TheVariants as reply
use Rattle.ocf_model.specs.declared.reply.TurnEnd.TheVariants.{Done}
use Rattle.child_model.specs.Children.{start_answer}
use Rattle.child_model.specs.declared.answer.Entry.{Entry}
use Rattle.child_model.specs.declared.answer.KillFault.{KillFault}
use Rattle.child_model.specs.declared.answer.Poll.{Poll}
use Rattle.exec_turn.specs.Actives.{result_of}
use Rattle.exec_turn.specs.Polls.{IsPoll, ending, entries_of}
use Rattle.exec_turn.specs.Starts.{refused_end}
use Rattle.exec_ledger.specs.Replies.{acknowledged}
use Rattle.executor.specs.Exchanges.{Exchange, Finished, Took}
use Rattle.executor.specs.ExecutorView.{ExecutorView, due_in}
use Rattle.executor.specs.declared.session.InputOf.TheVariants as input

-- the resource, if it is registered, the due moment of each of its monitors, by call, and numbers above all that were handed in
pub record Isolated : Type 0 where
  pub resource : Option Resource
  pub due : ℕ → Option ℕ
  pub next_call : ℕ
  pub next_run : ℕ

-- this machine, as an executor has the resource
abbrev pub isolated_of : {S : Type 0} → ExecutorView S → List ℕ → Isolated
isolated_of x id = record { resource = resource_at x.state id; due = due_in x id; next_call = x.state.next_call; next_run = x.state.next_run }

-- the resource after a change that names it
abbrev pub isolated_changed : ℕ → Change → Option Resource → Option Resource
isolated_changed at (change.Register r) was = Some (registered r).1
isolated_changed at (change.Unregister id) was = None
isolated_changed at (change.Step id what) was = option_map (stepped at what) was
isolated_changed at change.Boot was = was

-- the due moment that it sets for a call
abbrev pub isolated_sets : ℕ → Change → Option Resource → ℕ → Option ℕ
isolated_sets at (change.Step id what) was call = option_and_then (λ r. step_sets r at what call) was
isolated_sets at _ was call = None

-- the resource has a monitor of this call
abbrev pub has_monitor : Option Resource → ℕ → Bool
has_monitor resource call = option_map_or (λ r. is_some (of_call call r.recurring)) resource false

-- the due moments after a change: of each monitor that is there then, the one that the change sets, else the one before
abbrev pub isolated_due : ℕ → Change → Option Resource → (ℕ → Option ℕ) → ℕ → Option ℕ
isolated_due at c was due call = if has_monitor (isolated_changed at c was) call then or_else (isolated_sets at c was call) (due call) else None

-- numbers above those that a change draws
abbrev pub above_call : Change → ℕ → ℕ
above_call (change.Step id (step.Exec o)) next = o.call + 1
above_call (change.Step id (step.Recur m)) next = m.call + 1
above_call _ next = next

abbrev pub above_run : Change → ℕ → ℕ
above_run (change.Step id (step.Begin call run)) next = run + 1
above_run _ next = next

-- the machine after an event, and after a list of them
abbrev pub isolated_after : Isolated → Event → Isolated
isolated_after x e = record {
  resource = isolated_changed e.at e.change x.resource;
  due = isolated_due e.at e.change x.resource x.due;
  next_call = above_call e.change x.next_call;
  next_run = above_run e.change x.next_run;
}

abbrev pub isolated_after_all : Isolated → List Event → Isolated
isolated_after_all x [] = x
isolated_after_all x (e ∷ es) = isolated_after_all (isolated_after x e) es

-- the resource is registered, and the test holds of it
abbrev pub holds : Option Resource → (Resource → Bool) → Bool
holds resource test = option_map_or test resource false

-- the refusals that a command may meet, each with its test, in the order in which they are tried
abbrev pub isolated_tests : Option Resource → Command → ℕ → List (Refusal × Bool)
isolated_tests resource (command.Register r) size = (Exists, is_some resource) ∷ (TooLarge, nat_lt event_limit size) ∷ []
isolated_tests resource (command.Unregister id) size =
    (UnknownResource, is_none resource) ∷ (Busy, holds resource (λ r. is_busy r.history)) ∷ []
isolated_tests resource (command.SetParams id ps) size = (UnknownResource, is_none resource) ∷ (TooLarge, nat_lt event_limit size) ∷ []
isolated_tests resource (command.Exec id task timeout) size =
    (UnknownResource, is_none resource) ∷ (QueueFull, holds resource (λ r. nat_le queue_limit (length r.history.queue))) ∷ []
isolated_tests resource (command.Recur id interval timeout level) size =
    (UnknownResource, is_none resource) ∷ (Recurs, holds resource (λ r. is_some (of_interval interval r.recurring)))
    ∷ (RecurringFull, holds resource (λ r. nat_le recurring_limit (length r.recurring))) ∷ []
isolated_tests resource (command.Cancel id interval) size =
    (UnknownResource, is_none resource) ∷ (NoSuchRecurring, holds resource (λ r. is_none (of_interval interval r.recurring))) ∷ []
isolated_tests resource (command.Forget id) size = (UnknownResource, is_none resource) ∷ []
isolated_tests resource (command.Withdraw id call) size =
    (UnknownResource, is_none resource) ∷ (NotQueued, holds resource (λ r. is_none (queued_of call r.history.queue))) ∷ []

-- the event that a command asks for, or the first refusal
abbrev pub isolated_event : Option Resource → Event → Command → Result Event Refusal
isolated_event resource e c = first_of (isolated_tests resource c (length (encoded_event e))) e

-- the reply to a command that is this event or this refusal, and the events that it records
abbrev pub Follows : Result Event Refusal → Reply → List Event → Type 0
Follows (Err refusal) answer events = (answer ≡ reply.Refused refusal) × (events ≡ [])
Follows (Ok e) answer events = (answer ≡ acknowledged e.change) × (events ≡ e ∷ [])

-- a command, under a call that is handed in
pub record IsolatedCommand (at : ℕ) (x : Isolated) (c : Command) (answer : Reply) (events : List Event) : Type 0 where
  pub call : ℕ
  pub above : x.next_call ≤ call
  pub follows : Follows (isolated_event x.resource (record { at = at; change = change_of call c }) c) answer events

-- an answer about the resource, or the refusal where it is not registered
abbrev pub said : Option Resource → (Resource → Reply) → Reply
said resource say = option_map_or say resource (reply.Refused UnknownResource)

-- the answer to a question
abbrev pub isolated_answer : Option Resource → Question → Reply
isolated_answer resource (question.Info id) = said resource (λ r. reply.Info (info_of id r))
isolated_answer resource (question.History id) = said resource (λ r. reply.History r.history.ended)
isolated_answer resource question.List = reply.List []

-- the running action
abbrev pub running_in : Isolated → Option Running
running_in x = option_and_then (λ r. r.history.running) x.resource

-- its own poll, of the running action, if there is one: the entries, and the result if it ended
abbrev pub IsolatedPoll : List ℕ → ℕ → Option Running → List Entry → List Event → Type 0
IsolatedPoll id at None entries events = (entries ≡ []) × (events ≡ [])
IsolatedPoll id at (Some running) entries events = (poll : Poll) × (kill : Result Unit KillFault) × IsPoll poll
    × (entries ≡ entries_of at running poll kill)
    × (events ≡ map (result_of at (record { id = id; running = running })) (option_to_list (ending at running poll)))

-- It begins nothing.
pub record IsolatedRest (at : ℕ) (x : Isolated) (entries : List Entry) (events : List Event) : Type 0 where
  pub none_picked : (r : Resource) → x.resource ≡ Some r → IsPick r x.due at None
  pub no_entries : entries ≡ []
  pub no_events : events ≡ []

-- It begins the action that it picks, under a run that is handed in, and spawns it; a refused start ends the action.
pub record IsolatedBegin (id : List ℕ) (at : ℕ) (x : Isolated) (entries : List Entry) (events : List Event) : Type 0 where
  pub resource : Resource
  pub is : x.resource ≡ Some resource
  pub call : ℕ
  pub picked : IsPick resource x.due at (Some call)
  pub run : ℕ
  pub above : x.next_run ≤ run
  pub clock : ℕ
  pub answer : Result Unit StartFault
  pub one_entry : entries ≡ record { run = run; at = clock; answer = start_answer answer } ∷ []
  pub begins : events ≡ record { at = at; change = change.Step id (step.Begin call run) }
      ∷ map (λ end. record { at = at; change = change.Step id (step.Result run end) }) (refused_end answer)

-- A turn: its poll, and then its begin, if there is one.
pub record IsolatedTurn (id : List ℕ) (at : ℕ) (x : Isolated) (answer : Reply) (entries : List Entry) (events : List Event) : Type 0 where
  pub done : answer ≡ reply.Turn Done
  pub polled : List Entry
  pub started : List Entry
  pub results : List Event
  pub begins : List Event
  pub all_entries : entries ≡ polled ++ started
  pub all_events : events ≡ results ++ begins
  pub polls : IsolatedPoll id at (running_in x) polled results
  pub goes_on : IsolatedRest at (isolated_after_all x results) started begins ⊎ IsolatedBegin id at (isolated_after_all x results) started begins

-- the moment that is handed in, cut at the greatest one
abbrev pub cut : ℕ → ℕ
cut now = min now num_max

-- the machine takes a call: a command, a question, a turn, or a turn that begins nothing
abbrev pub IsolatedTakes : List ℕ → Isolated → Exchange → List Entry → List Event → Type 0
IsolatedTakes id x (Took (input.Request now (asked.Command c)) answer) entries events =
    (entries ≡ []) × IsolatedCommand (cut now) x c answer events
IsolatedTakes id x (Took (input.Request now (asked.Question q)) answer) entries events =
    (entries ≡ []) × (events ≡ []) × (answer ≡ isolated_answer x.resource q)
IsolatedTakes id x (Took (input.Turn now) answer) entries events = IsolatedTurn id (cut now) x answer entries events
IsolatedTakes id x (Finished now end) entries events = (end ≡ Done) × IsolatedPoll id (cut now) (running_in x) entries events
IsolatedTakes id x _ entries events = ⊥

-- it takes calls, one after the other, with their replies
abbrev pub Alone : List ℕ → Isolated → List Exchange → List Entry → List Event → Type 0
Alone id x [] entries events = (entries ≡ []) × (events ≡ [])
Alone id x (e ∷ es) entries events =
    (first_entries : List Entry) × (later_entries : List Entry) × (first_events : List Event) × (later_events : List Event)
    × (entries ≡ first_entries ++ later_entries) × (events ≡ first_events ++ later_events)
    × IsolatedTakes id x e first_entries first_events × Alone id (isolated_after_all x first_events) es later_entries later_events
