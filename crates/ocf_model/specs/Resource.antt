-- One resource as plain lists, and its changes. Pacemaker Explained, resource operations; the number of results that are kept,
-- and the effect of a boot, are this executor's own.
use Rattle.std.specs.Prelude.{ℕ, ◌-◌, ◌==◌, Bool, ◌||◌, List, [], ◌∷◌, ◌++◌, map, length, drop, find, filter, not, nat_lt, Option, Some}
use Rattle.std.specs.Prelude.{None, option_map, option_and_then, option_to_list, is_some, if◌then◌else◌}
use Rattle.std.specs.Option.{option_or}
use Rattle.ocf_types.specs.Layouts.{kept_in, failed_in, current}
use Rattle.ocf_types.specs.Expected.{has_failed}
use Rattle.ocf_types.specs.Params.{ParamList}
use Rattle.ocf_types.specs.Actions.{task}
use Rattle.ocf_types.specs.declared.action.Action.TheVariants.{Monitor}
use Rattle.ocf_types.specs.declared.layout.Layout.{Layout}
use Rattle.ocf_types.specs.declared.operation.Op.{Op}
use Rattle.ocf_types.specs.declared.operation.Recur.{Recur}
use Rattle.ocf_types.specs.declared.operation.Running.{Running}
use Rattle.ocf_types.specs.declared.operation.Ended.{Ended}
use Rattle.ocf_types.specs.declared.outcome.Outcome.{Outcome}
use Rattle.ocf_types.specs.declared.outcome.Outcome.TheVariants.{Interrupted, Dropped, Cancelled}

-- the queued actions, the running one, the results, oldest first, and the last failure
pub record History : Type 0 where
  pub queue : List Op
  pub running : Option Running
  pub ended : List Ended
  pub failed : Option Ended

-- a registered resource: an instance of an agent, with its operations
pub record Resource : Type 0 where
  pub provider : List ℕ
  pub agent : List ℕ
  pub params : ParamList
  pub history : History
  pub recurring : List Recur

-- the number of results that are kept
abbrev pub kept : ℕ
kept = kept_in current

-- the last results, as many as a layout keeps
abbrev pub last_in : Layout → List Ended → List Ended
last_in layout results = drop (length results - kept_in layout) results

abbrev pub last_ended : List Ended → List Ended
last_ended results = last_in current results

-- the run of a queued action, begun at a moment
abbrev pub run_of_op : ℕ → ℕ → Op → Running
run_of_op run at o = record { call = o.call; run = run; task = o.task; timeout = o.timeout; interval = 0; since = at }

-- the run of a recurring monitor, begun at a moment
abbrev pub run_of_monitor : ℕ → ℕ → Recur → Running
run_of_monitor run at m =
    record { call = m.call; run = run; task = task Monitor m.check; timeout = m.timeout; interval = m.interval; since = at }

-- the result of a run that ended at a moment
abbrev pub ended_of : Outcome → ℕ → Running → Ended
ended_of outcome at x =
    record { call = x.call; run = x.run; action = x.task.action; interval = x.interval; since = x.since; at = at; outcome = outcome }

-- the result of a queued action that was dropped
abbrev pub dropped_of : ℕ → Op → Ended
dropped_of at o = record { call = o.call; run = 0; action = o.task.action; interval = 0; since = at; at = at; outcome = Dropped }

-- the result of a queued action that was withdrawn
abbrev pub cancelled_of : ℕ → Op → Ended
cancelled_of at o = record { call = o.call; run = 0; action = o.task.action; interval = 0; since = at; at = at; outcome = Cancelled }

-- the history of a new resource
abbrev pub no_history : History
no_history = record { queue = []; running = None; ended = []; failed = None }

-- an action is queued or running
abbrev pub is_busy : History → Bool
is_busy h = nat_lt 0 (length h.queue) || is_some h.running

-- the history after an action is accepted, at the end of the queue
abbrev pub accepted : Op → History → History
accepted o h = record h { queue = h.queue ++ o ∷ [] }

-- the history after a begin, from this queue: its first action runs or, if it is empty, the recurring monitor
abbrev pub begun_from : List Op → Option Recur → ℕ → ℕ → History → History
begun_from [] monitor run at h = record h { running = option_map (run_of_monitor run at) monitor }
begun_from (o ∷ os) monitor run at h = record h { queue = os; running = Some (run_of_op run at o) }

-- the history after a begin
abbrev pub begun : Option Recur → ℕ → ℕ → History → History
begun monitor run at h = begun_from h.queue monitor run at h

-- the result of a run, if it is a failure
abbrev pub failed_of : Outcome → ℕ → Running → Option Ended
failed_of outcome at x = if has_failed x.task.action x.task.check.expect outcome then Some (ended_of outcome at x) else None

-- the last failure after the running action has ended: its result if it is a failure, else the one before
abbrev pub failed_after : Outcome → ℕ → History → Option Ended
failed_after outcome at h = option_or (option_and_then (failed_of outcome at) h.running) h.failed

-- the history after the running action has ended
abbrev pub ended_in : Layout → Outcome → ℕ → History → History
ended_in layout outcome at h = record h {
  running = None;
  ended = last_in layout (h.ended ++ map (ended_of outcome at) (option_to_list h.running));
  failed = failed_in layout (failed_after outcome at h);
}

abbrev pub ended : Outcome → ℕ → History → History
ended outcome at h = ended_in current outcome at h

-- the history after a boot: the queued actions are dropped, in order, and then the running one is interrupted; these are no failures
abbrev pub booted_in : Layout → ℕ → History → History
booted_in layout at h = record h {
  queue = [];
  running = None;
  ended = last_in layout (h.ended ++ map (dropped_of at) h.queue ++ map (ended_of Interrupted at) (option_to_list h.running));
}

abbrev pub booted : ℕ → History → History
booted at h = booted_in current at h

-- the queued action of a call
abbrev pub queued_of : ℕ → List Op → Option Op
queued_of call queue = find (λ o. o.call == call) queue

-- the queued actions except that of a call
abbrev pub without_call : ℕ → List Op → List Op
without_call call queue = filter (λ o. not (o.call == call)) queue

-- the history after the queued action of a call is withdrawn: it leaves the queue, and is a result
abbrev pub withdrawn_in : Layout → ℕ → ℕ → History → History
withdrawn_in layout call at h = record h {
  queue = without_call call h.queue;
  ended = last_in layout (h.ended ++ map (cancelled_of at) (option_to_list (queued_of call h.queue)));
}

abbrev pub withdrawn : ℕ → ℕ → History → History
withdrawn call at h = withdrawn_in current call at h

-- the history without results
abbrev pub forgotten : History → History
forgotten h = record h { ended = []; failed = None }

-- the history as a layout keeps it
abbrev pub history_in : Layout → History → History
history_in layout h = record h { ended = last_in layout h.ended; failed = failed_in layout h.failed }

-- the monitor of a call
abbrev pub of_call : ℕ → List Recur → Option Recur
of_call call monitors = find (λ m. m.call == call) monitors

-- the monitor of an interval
abbrev pub of_interval : ℕ → List Recur → Option Recur
of_interval interval monitors = find (λ m. m.interval == interval) monitors

-- the monitors except that of an interval
abbrev pub without_interval : ℕ → List Recur → List Recur
without_interval interval monitors = filter (λ m. not (m.interval == interval)) monitors
