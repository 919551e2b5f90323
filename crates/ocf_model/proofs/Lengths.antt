-- The greatest lengths of events' encodings.
use Rattle.std.proofs.Common.{◌≡◌, ℕ, ◌+◌, ◌≤◌, List, length, arith, length-append}
use Rattle.ocf_types.specs.declared.layout.Layout.{Layout}
use Rattle.ocf_types.specs.declared.outcome.RunEnd.{RunEnd}
use Rattle.ocf_types.specs.declared.event.Step.TheVariants as step
use Rattle.ocf_types.specs.declared.event.Change.TheVariants as change
use Rattle.ocf_types.specs.Layouts.{current}
use Rattle.ocf_types.specs.Kinds.{Registration, Step, Change}
use Rattle.ocf_types.specs.Lawful.{IsLawfulChange}
use Rattle.ocf_types.specs.Limits.{event_frame, longest_small, monitor_len}
use Rattle.ocf_types.specs.Encoding.{encoded_event, encoded_event_in, encoded_params, step_fields, step_fields_in, fields, fields_in}
use Rattle.ocf_types.specs.Encoding.{length-four_bytes, length-eight_bytes, HasNoParams}
use Rattle.ocf_types.specs.LengthLemmas.{id_short, length_outcome}

-- an event is its kind, eight bytes of its moment and its fields
pub length-event : (layout : Layout) (at : ℕ) (c : Change)
    → length (encoded_event_in layout (record { at = at; change = c })) ≡ event_frame + length (fields_in layout c)
unfolding encoded_event_in
length-event layout at c = simp (length-append, length-eight_bytes) (omega arith)

-- the fields of a step begin with the id of its resource
pub length-step : (layout : Layout) (id : List ℕ) (s : Step)
    → length (fields_in layout (change.Step id s)) ≡ 1 + length id + length (step_fields_in layout s)
length-step layout id s = simp length-append (omega arith)

-- the parameters of a registration are no longer than its encoding
pub params_shorter : (layout : Layout) (r : Registration)
    → length (encoded_params r.params) ≤ length (fields_in layout (change.Register r))
params_shorter layout r = simp length-append (omega arith)

-- the fields of a begin are sixteen bytes
pub length-begin : (call run : ℕ) → length (step_fields (step.Begin call run)) ≡ 16
length-begin call run = simp (length-append, length-eight_bytes)

-- the fields of a result are ten bytes
pub length-result : (run : ℕ) (end : RunEnd) → length (step_fields (step.Result run end)) ≡ 10
length-result run end = simp (length-append, length-eight_bytes, length_outcome)

-- the fields of a step without parameters are no longer than a monitor's
pub step_short : (id : List ℕ) (s : Step) → HasNoParams (change.Step id s) → length (step_fields s) ≤ monitor_len
step_short id (step.SetParams ps) h = absurd h
step_short id (step.Exec o) h = simp (length-append, length-eight_bytes, length-four_bytes) (omega arith)
step_short id (step.Recur m) h = simp (length-append, length-eight_bytes, length-four_bytes) (omega arith)
step_short id (step.Cancel interval) h = simp length-four_bytes (omega arith)
step_short id step.Forget h = omega arith
step_short id (step.Begin call run) h = omega (arith, length-begin call run)
step_short id (step.Result run end) h = omega (arith, length-result run end)
step_short id (step.Withdraw call) h = simp length-eight_bytes (omega arith)

-- the fields of a change without parameters are at most 83 bytes
pub fields_short : (c : Change) → IsLawfulChange c → HasNoParams c → length (fields c) ≤ 83
fields_short (change.Register r) l h = absurd h
fields_short (change.Unregister id) l h = omega (arith, id_short id l)
fields_short (change.Step id s) l h = omega (arith, length-step current id s, id_short id l.0, step_short id s h)
fields_short change.Boot l h = omega arith

-- the greatest length of an event without parameters
pub event_short : (at : ℕ) (c : Change) → IsLawfulChange c → HasNoParams c
    → length (encoded_event (record { at = at; change = c })) ≤ longest_small
event_short at c l h = omega (arith, length-event current at c, fields_short c l h)
