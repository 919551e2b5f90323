-- The event or the refusal of a command, and the reply to a question.
use Rattle.std.specs.Prelude.{ℕ, ◌==◌, Bool, false, max, min, nat_lt, nat_le, is_some, is_none, List, [], ◌∷◌, length, map, Result, Ok, Err}
use Rattle.std.specs.Prelude.{if◌then◌else◌, ⊤}
use Rattle.std.specs.Option.{option_map_or}
use Rattle.ocf_types.specs.Limits.{num_max, event_limit, resources_limit, queue_limit, recurring_limit}
use Rattle.ocf_types.specs.Kinds.{Change, Event, Command}
use Rattle.ocf_types.specs.Params.{ParamList}
use Rattle.ocf_types.specs.declared.operation.Ended.{Ended}
use Rattle.ocf_types.specs.Encoding.{encoded_event}
use Rattle.ocf_model.specs.Resource.{Resource, is_busy, of_interval, queued_of}
use Rattle.ocf_model.specs.State.{State, resource_at}
use Rattle.ocf_types.specs.declared.command.CommandOf.TheVariants as command
use Rattle.ocf_types.specs.declared.command.Question.{Question}
use Rattle.ocf_types.specs.declared.command.Question.TheVariants as question
use Rattle.ocf_types.specs.declared.event.Step.TheVariants as step
use Rattle.ocf_types.specs.declared.event.Change.TheVariants as change
use Rattle.ocf_model.specs.declared.refusal.Refusal.{Refusal}
use Rattle.ocf_model.specs.declared.refusal.Refusal.TheVariants.{UnknownResource, Exists, Recurs, Busy, QueueFull, RecurringFull, NoSuchRecurring}
use Rattle.ocf_model.specs.declared.refusal.Refusal.TheVariants.{NotQueued, TooManyResources, TooLarge, CallsSpent}
use Rattle.ocf_model.specs.declared.reply.InfoOf.{InfoOf}
use Rattle.ocf_model.specs.declared.reply.ReplyOf.{ReplyOf}
use Rattle.ocf_model.specs.declared.reply.ReplyOf.TheVariants as reply

-- what is known of a resource, and replies, with their parameters and lists as plain lists
abbrev pub Info : Type 0
Info = InfoOf ParamList

abbrev pub Reply : Type 0
Reply = ReplyOf ParamList (List (List ℕ)) (List Ended)

-- the moment of the next event: the clock reading, cut at the greatest moment, and never before the last event
abbrev pub moment : State → ℕ → ℕ
moment s now = max s.clock (min now num_max)

-- the change that a command asks for
abbrev pub change_of : ℕ → Command → Change
change_of call (command.Register r) = change.Register r
change_of call (command.Unregister id) = change.Unregister id
change_of call (command.SetParams id ps) = change.Step id (step.SetParams ps)
change_of call (command.Exec id t timeout) = change.Step id (step.Exec (record { call = call; task = t; timeout = timeout }))
change_of call (command.Recur id interval timeout check) =
    change.Step id (step.Recur (record { call = call; interval = interval; timeout = timeout; check = check }))
change_of call (command.Cancel id interval) = change.Step id (step.Cancel interval)
change_of call (command.Forget id) = change.Step id step.Forget
change_of call (command.Withdraw id queued) = change.Step id (step.Withdraw queued)

-- the command asks for a registration
abbrev pub IsRegister : Command → Type 0
IsRegister (command.Register r) = ⊤
IsRegister _ = ⊥

-- the event that a command asks for
abbrev pub asked_event : State → ℕ → Command → Event
asked_event s now c = record { at = moment s now; change = change_of s.next_call c }

-- there is a resource of the id, and the test holds for it
abbrev pub holds_at : State → List ℕ → (Resource → Bool) → Bool
holds_at s id test = option_map_or test (resource_at s id) false

-- the refusals that a command may meet, each with its test, in the order in which they are tried
abbrev pub tests : State → Command → ℕ → List (Refusal × Bool)
tests s (command.Register r) size =
    (Exists, is_some (resource_at s r.id)) ∷ (TooManyResources, nat_le resources_limit (length s.resources))
    ∷ (TooLarge, nat_lt event_limit size) ∷ []
tests s (command.Unregister id) size = (UnknownResource, is_none (resource_at s id)) ∷ (Busy, holds_at s id (λ r. is_busy r.history)) ∷ []
tests s (command.SetParams id ps) size = (UnknownResource, is_none (resource_at s id)) ∷ (TooLarge, nat_lt event_limit size) ∷ []
tests s (command.Exec id t timeout) size =
    (UnknownResource, is_none (resource_at s id)) ∷ (QueueFull, holds_at s id (λ r. nat_le queue_limit (length r.history.queue)))
    ∷ (CallsSpent, s.next_call == num_max) ∷ []
tests s (command.Recur id interval timeout check) size =
    (UnknownResource, is_none (resource_at s id)) ∷ (Recurs, holds_at s id (λ r. is_some (of_interval interval r.recurring)))
    ∷ (RecurringFull, holds_at s id (λ r. nat_le recurring_limit (length r.recurring))) ∷ (CallsSpent, s.next_call == num_max) ∷ []
tests s (command.Cancel id interval) size =
    (UnknownResource, is_none (resource_at s id)) ∷ (NoSuchRecurring, holds_at s id (λ r. is_none (of_interval interval r.recurring))) ∷ []
tests s (command.Forget id) size = (UnknownResource, is_none (resource_at s id)) ∷ []
tests s (command.Withdraw id call) size =
    (UnknownResource, is_none (resource_at s id)) ∷ (NotQueued, holds_at s id (λ r. is_none (queued_of call r.history.queue))) ∷ []

-- the first refusal whose test holds, else the event
abbrev pub first_of : List (Refusal × Bool) → Event → Result Event Refusal
first_of [] e = Ok e
first_of (t ∷ ts) e = if t.1 then Err t.0 else first_of ts e

-- the event of a command in a state, or its refusal. An event of more than 16,384 bytes is too large
abbrev pub event_of : State → ℕ → Command → Result Event Refusal
event_of s now c = first_of (tests s c (length (encoded_event (asked_event s now c)))) (asked_event s now c)

-- the info of a resource: its agent, its parameters and its operations
abbrev pub info_of : List ℕ → Resource → Info
info_of id r = record {
  id = id;
  provider = r.provider;
  agent = r.agent;
  params = r.params;
  queued = record { items = map (λ o. o.call) r.history.queue };
  running = r.history.running;
  recurring = record { items = r.recurring };
  failed = r.history.failed;
}

-- the reply about the resource of an id, or the refusal of an unknown one
abbrev pub said_of : State → List ℕ → (Resource → Reply) → Reply
said_of s id say = option_map_or say (resource_at s id) (reply.Refused UnknownResource)

-- the reply to a question
abbrev pub reply_to : State → Question → Reply
reply_to s question.List = reply.List (map (λ e. e.0) s.resources)
reply_to s (question.Info id) = said_of s id (λ r. reply.Info (info_of id r))
reply_to s (question.History id) = said_of s id (λ r. reply.History r.history.ended)
