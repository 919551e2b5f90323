-- The rules of commands, boots, due moments and picks, computed on small states.
use Rattle.std.proofs.Common.{◌≡◌, ℕ, ◌-◌, ◌*◌, min, ◌≤◌, ◌<◌, List, [], ◌∷◌, Option, Some, None, Ok, Err, refl, arith, inl, inr}
use Rattle.std.specs.Prelude.{codes, replicate, option_map, IsSomeAnd, All}
use Rattle.std.proofs.lemmas.List.Elements.{All-from_recursion}
use Rattle.ocf_types.specs.Actions.{plain, task}
use Rattle.ocf_types.specs.declared.action.Action.TheVariants as action
use Rattle.ocf_types.specs.declared.action.Task.{Task}
use Rattle.ocf_types.specs.declared.operation.Op.{Op}
use Rattle.ocf_types.specs.declared.operation.Recur.{Recur}
use Rattle.ocf_types.specs.declared.outcome.RunEnd.TheVariants.{Done}
use Rattle.ocf_types.specs.declared.outcome.Outcome.TheVariants.{Interrupted, Dropped}
use Rattle.ocf_types.specs.declared.event.Step.TheVariants as step
use Rattle.ocf_types.specs.declared.event.Change.TheVariants as change
use Rattle.ocf_types.specs.declared.command.CommandOf.TheVariants as command
use Rattle.ocf_model.specs.declared.refusal.Refusal.TheVariants.{Exists, Recurs, Busy, QueueFull, RecurringFull, CallsSpent, NoSuchRecurring}
use Rattle.ocf_types.specs.Kinds.{Change, Event, Registration}
use Rattle.ocf_model.specs.Resource.{Resource, no_history}
use Rattle.ocf_model.specs.State.{State, empty, resource_at, after, after_all}
use Rattle.ocf_model.specs.Boot.{boot, boot_event, IsLast}
use Rattle.ocf_model.specs.Answer.{event_of}
use Rattle.ocf_types.specs.Encoding.{two_bytes, four_bytes, eight_bytes}
use Rattle.ocf_model.specs.Due.{Due, due_at, due_after, IsBefore, IsPick}
use Rattle.ocf_types.specs.Encoding.{encoded_event_in}

abbrev r1 : List ℕ
r1 = codes "r1"

abbrev dummy : Registration
dummy = record { id = r1; provider = codes "pacemaker"; agent = codes "Dummy"; params = [] }

abbrev at : ℕ → Change → Event
at moment what = record { at = moment; change = what }

abbrev op : ℕ → Task → Op
op call what = record { call = call; task = what; timeout = 20000 }

abbrev monitor : ℕ → ℕ → Recur
monitor call interval = record { call = call; interval = interval; timeout = 20000; check = plain }

abbrev registered : State
registered = after empty (at 0 (change.Register dummy))

-- a resource with these operations
abbrev with_resource : ℕ → List Op → List Recur → State
with_resource next_call queue monitors = record {
  next_call = next_call;
  next_run = 1;
  clock = 0;
  resources = (
    r1,
    record {
      provider = codes "pacemaker";
      agent = codes "Dummy";
      params = [];
      history = record no_history { queue = queue };
      recurring = monitors;
    },
  ) ∷ [];
}

-- a second register of the same id is refused
registered_twice : event_of registered 0 (command.Register dummy) ≡ Err Exists
unfolding two_bytes four_bytes eight_bytes encoded_event_in
registered_twice = refl

-- r1 runs its start, and its stop is queued
abbrev stopped : State
stopped =
    after_all registered (at 5 (change.Step r1 (step.Exec (op 1 (task action.Start plain)))) ∷ at 10 (change.Step r1 (step.Begin 1 1))
    ∷ at 20 (change.Step r1 (step.Exec (op 2 (task action.Stop plain)))) ∷ [])

-- a boot drops the queued actions, and then interrupts the running one
booted_history : option_map (λ r. r.history.ended) (resource_at (boot stopped 500) r1) ≡ Some (
    record { call = 2; run = 0; action = action.Stop; interval = 0; since = 500; at = 500; outcome = Dropped }
    ∷ record { call = 1; run = 1; action = action.Start; interval = 0; since = 10; at = 500; outcome = Interrupted } ∷ [])
booted_history = refl

-- the action that ran is the last of these results
interrupted_last : IsSomeAnd (resource_at (boot stopped 500) r1)
    (λ r. IsLast (record {
      call = 1;
      run = 1;
      action = action.Start;
      interval = 0;
      since = 10;
      at = 500;
      outcome = Interrupted;
    }) r.history.ended)
interrupted_last = (record { call = 2; run = 0; action = action.Stop; interval = 0; since = 500; at = 500; outcome = Dropped } ∷ [], refl)

-- no second boot is needed
booted_once : boot_event (boot stopped 500) 600 ≡ None
booted_once = refl

-- a resource with an action queued or running is not removed
busy : event_of stopped 30 (command.Unregister r1) ≡ Err Busy
unfolding two_bytes four_bytes eight_bytes encoded_event_in
busy = refl

-- the thirty-third queued action
queue_full : event_of (with_resource 40 (replicate 32 (op 1 (task action.Start plain))) []) 0 (command.Exec r1 (task action.Stop plain) 20000) ≡ Err QueueFull
unfolding two_bytes four_bytes eight_bytes encoded_event_in
queue_full = refl

-- the ninth monitor, and a second one of an interval
abbrev eight : List Recur
eight = monitor 1 1 ∷ monitor 2 2 ∷ monitor 3 3 ∷ monitor 4 4 ∷ monitor 5 5 ∷ monitor 6 6 ∷ monitor 7 7 ∷ monitor 8 8 ∷ []

recurring_full : event_of (with_resource 9 [] eight) 0 (command.Recur r1 9 20000 plain) ≡ Err RecurringFull
unfolding two_bytes four_bytes eight_bytes encoded_event_in
recurring_full = refl

same_interval : event_of (with_resource 9 [] eight) 0 (command.Recur r1 8 20000 plain) ≡ Err Recurs
unfolding two_bytes four_bytes eight_bytes encoded_event_in
same_interval = refl

-- an interval that no monitor has
not_recurring : event_of (with_resource 9 [] eight) 0 (command.Cancel r1 9) ≡ Err NoSuchRecurring
unfolding two_bytes four_bytes eight_bytes encoded_event_in
not_recurring = refl

-- the greatest call id is never given
calls_spent : event_of (with_resource 9007199254740991 [] []) 0 (command.Exec r1 (task action.Start plain) 20000) ≡ Err CallsSpent
unfolding two_bytes four_bytes eight_bytes encoded_event_in
calls_spent = refl

-- a moment above the greatest one is cut at that, and the clock does not go back
abbrev late : State
late = after empty (at 9007199254740991 (change.Register dummy))

moment_cut : event_of empty 18446744073709551615 (command.Register dummy) ≡ Ok (at 9007199254740991 (change.Register dummy))
unfolding two_bytes four_bytes eight_bytes encoded_event_in
moment_cut = refl

never_back : event_of late 5 (command.Forget r1) ≡ Ok (at 9007199254740991 (change.Step r1 step.Forget))
unfolding two_bytes four_bytes eight_bytes encoded_event_in
never_back = refl

-- a new monitor is due at once, and after a run of it its interval later; a cancelled one never
abbrev recurring : State
recurring = after registered (at 0 (change.Step r1 (step.Recur (monitor 1 10000))))

abbrev none_due : Due
none_due id call = None

abbrev first_due : Due
first_due = due_after registered none_due (at 0 (change.Step r1 (step.Recur (monitor 1 10000))))

due_at_once : first_due r1 1 ≡ Some 0
due_at_once = refl

abbrev monitoring : State
monitoring = after recurring (at 0 (change.Step r1 (step.Begin 1 1)))

due_later : due_after monitoring first_due (at 30 (change.Step r1 (step.Result 1 (Done 0)))) r1 1 ≡ Some 10030
due_later = refl

due_never : due_after monitoring first_due (at 20 (change.Step r1 (step.Cancel 10000))) r1 1 ≡ None
due_never = refl

due_other : due_after monitoring first_due (at 30 (change.Step r1 step.Forget)) r1 1 ≡ Some 0
due_other = refl

-- all monitors are due at the opening's moment
due_opened : due_at monitoring 500 r1 1 ≡ Some 500
due_opened = refl

-- three monitors, of which the last two are due at the same moment, before the first: the lower call is picked
abbrev three : List Op → Resource
three queue = record {
  provider = codes "pacemaker";
  agent = codes "Dummy";
  params = [];
  history = record no_history { queue = queue };
  recurring = monitor 1 10000 ∷ monitor 2 5000 ∷ monitor 3 7000 ∷ [];
}

abbrev three_due : ℕ → Option ℕ
three_due call = Some (40 - min call 2 * 5)

least_due : IsPick (three []) three_due 50 (Some 2)
least_due = (30, (1, omega arith, refl), omega arith, least)
  where
    pairs : List (ℕ × ℕ)
    pairs = (35, 1) ∷ (30, 2) ∷ (30, 3) ∷ []

    least : All (λ p. p.0 ≤ 50 → IsBefore (30, 2) p) pairs
    least = All-from_recursion (λ p. p.0 ≤ 50 → IsBefore (30, 2) p) pairs
        ((λ _. inl (omega arith)), ((λ _. inr (refl, omega arith)), ((λ _. inr (refl, omega arith)), tt)))

not_due_yet : IsPick (three []) three_due 20 None
not_due_yet = All-from_recursion (λ p. 20 < p.0) ((35, 1) ∷ (30, 2) ∷ (30, 3) ∷ []) (omega arith, (omega arith, (omega arith, tt)))

-- a queued stop comes before a monitor that is due
stop_first : IsPick (three (op 4 (task action.Stop plain) ∷ [])) three_due 50 (Some 4)
stop_first = refl
