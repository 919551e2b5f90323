-- Encodings of states, computed, against bytes that another program wrote, and the replies to questions.
use Rattle.std.proofs.Common.{◌≡◌, ℕ, ◌+◌, List, [], ◌∷◌, length, Some, refl}
use Rattle.std.specs.Prelude.{codes}
use Rattle.ocf_types.specs.declared.action.Level.TheVariants.{Ten, Twenty}
use Rattle.ocf_types.specs.declared.action.Action.TheVariants as action
use Rattle.ocf_types.specs.Actions.{plain, task}
use Rattle.ocf_types.specs.declared.expect.Expect.TheVariants.{NotRunning, RunningPromoted}
use Rattle.ocf_types.specs.declared.action.Check.{Check}
use Rattle.ocf_types.specs.declared.action.Task.{Task}
use Rattle.ocf_types.specs.declared.operation.Ended.{Ended}
use Rattle.ocf_types.specs.declared.outcome.RunEnd.TheVariants.{Done}
use Rattle.ocf_types.specs.declared.outcome.Outcome.TheVariants.{Run, Dropped}
use Rattle.ocf_types.specs.declared.event.Step.TheVariants as step
use Rattle.ocf_types.specs.declared.event.Change.TheVariants as change
use Rattle.ocf_types.specs.declared.command.Question.TheVariants as question
use Rattle.ocf_model.specs.declared.reply.ReplyOf.TheVariants as reply
use Rattle.ocf_model.specs.declared.refusal.Refusal.TheVariants.{UnknownResource}
use Rattle.ocf_types.specs.Limits.{head_len, created_len, result_reserve, boot_reserve, bare_state, longest_resource, longest_state}
use Rattle.ocf_model.specs.State.{State, empty, after_all}
use Rattle.ocf_model.specs.Answer.{reply_to}
use Rattle.ocf_types.specs.Encoding.{two_bytes, four_bytes, eight_bytes}
use Rattle.ocf_model.specs.StateEncoding.{encoded_state}
use Rattle.ocf_model.specs.StateEncoding.{encoded_resource_in, encoded_state_in}

abbrev r1 : List ℕ
r1 = codes "r1"

empty_state : encoded_state empty ≡
    0x00 ∷ 0x00 ∷ 0x00 ∷ 0x00 ∷ 0x00 ∷ 0x00 ∷ 0x00 ∷ 0x01 ∷ 0x00 ∷ 0x00 ∷ 0x00 ∷ 0x00 ∷ 0x00 ∷ 0x00 ∷ 0x00 ∷ 0x01 ∷ 0x00 ∷ 0x00 ∷ 0x00
    ∷ 0x00 ∷
    0x00 ∷ 0x00 ∷ 0x00 ∷ 0x00 ∷ 0x00 ∷ 0x00 ∷ []
unfolding two_bytes four_bytes eight_bytes encoded_resource_in encoded_state_in
empty_state = refl

-- r1 is registered and its start accepted at 0; the start begins at 10
abbrev started : State
started = after_all empty (
    record { at = 0; change = change.Register (record { id = r1; provider = codes "pacemaker"; agent = codes "Dummy"; params = [] }) }
    ∷ record { at = 0; change = change.Step r1 (step.Exec (record { call = 1; task = task action.Start plain; timeout = 20000 })) }
    ∷ record { at = 10; change = change.Step r1 (step.Begin 1 1) } ∷ [])

started_state : encoded_state started ≡
    0x00 ∷ 0x00 ∷ 0x00 ∷ 0x00 ∷ 0x00 ∷ 0x00 ∷ 0x00 ∷ 0x02 ∷ 0x00 ∷ 0x00 ∷ 0x00 ∷ 0x00 ∷ 0x00 ∷ 0x00 ∷ 0x00 ∷ 0x02 ∷ 0x00 ∷ 0x00 ∷ 0x00
    ∷ 0x00 ∷
    0x00 ∷ 0x00 ∷ 0x00 ∷ 0x0a ∷ 0x00 ∷ 0x01 ∷ 0x02 ∷ 0x72 ∷ 0x31 ∷ 0x09 ∷ 0x70 ∷ 0x61 ∷ 0x63 ∷ 0x65 ∷ 0x6d ∷ 0x61 ∷ 0x6b ∷ 0x65 ∷ 0x72
    ∷ 0x05 ∷
    0x44 ∷ 0x75 ∷ 0x6d ∷ 0x6d ∷ 0x79 ∷ 0x00 ∷ 0x00 ∷ 0x01 ∷ 0x00 ∷ 0x00 ∷ 0x00 ∷ 0x00 ∷ 0x00 ∷ 0x00 ∷ 0x00 ∷ 0x01 ∷ 0x00 ∷ 0x00 ∷ 0x00
    ∷ 0x00 ∷
    0x00 ∷ 0x00 ∷ 0x00 ∷ 0x01 ∷ 0x01 ∷ 0x00 ∷ 0x00 ∷ 0x00 ∷ 0x00 ∷ 0x4e ∷ 0x20 ∷ 0x00 ∷ 0x00 ∷ 0x00 ∷ 0x00 ∷ 0x00 ∷ 0x00 ∷ 0x00 ∷ 0x00 ∷ 0x00
    ∷ 0x00 ∷
    0x00 ∷ 0x0a ∷ 0x00 ∷ 0x00 ∷ 0x00 ∷ []
unfolding two_bytes four_bytes eight_bytes encoded_resource_in encoded_state_in
started_state = refl

-- a probe, which is to find the resource stopped, and a monitor, which is to find it promoted
abbrev probe : Task
probe = task action.Monitor (record { level = Ten; expect = NotRunning })

abbrev deep : Check
deep = record { level = Twenty; expect = RunningPromoted }

-- a monitor that was to find the resource running, and found it stopped
abbrev stopped : Ended
stopped = record { call = 2; run = 4; action = action.Monitor; interval = 0; since = 100; at = 300; outcome = Run (Done 7) }

-- a state that has an item of each kind
abbrev everything : State
everything = record {
  next_call = 9;
  next_run = 6;
  clock = 500;
  resources = (
    r1,
    record {
      provider = codes "p";
      agent = codes "t";
      params = (codes "a", codes "1") ∷ [];
      history = record {
        queue = record { call = 7; task = probe; timeout = 1000 } ∷ record { call = 8; task = task action.Stop plain; timeout = 20000 } ∷ [];
        running = Some (record { call = 3; run = 5; task = task action.Monitor deep; timeout = 20000; interval = 10000; since = 400 });
        ended =
            record { call = 1; run = 0; action = action.Start; interval = 0; since = 90; at = 90; outcome = Dropped }
            ∷ record { call = 2; run = 4; action = action.Monitor; interval = 0; since = 100; at = 300; outcome = Run (Done 7) } ∷ [];
        failed = Some stopped;
      };
      recurring = record { call = 3; interval = 10000; timeout = 20000; check = deep } ∷ [];
    },
  ) ∷ [];
}

everything_state : encoded_state everything ≡
    0x00 ∷ 0x00 ∷ 0x00 ∷ 0x00 ∷ 0x00 ∷ 0x00 ∷ 0x00 ∷ 0x09 ∷ 0x00 ∷ 0x00 ∷ 0x00 ∷ 0x00 ∷ 0x00 ∷ 0x00 ∷ 0x00 ∷ 0x06 ∷ 0x00 ∷ 0x00 ∷ 0x00
    ∷ 0x00 ∷
    0x00 ∷ 0x00 ∷ 0x01 ∷ 0xf4 ∷ 0x00 ∷ 0x01 ∷ 0x02 ∷ 0x72 ∷ 0x31 ∷ 0x01 ∷ 0x70 ∷ 0x01 ∷ 0x74 ∷ 0x01 ∷ 0x01 ∷ 0x61 ∷ 0x00 ∷ 0x01 ∷ 0x31
    ∷ 0x02 ∷
    0x00 ∷ 0x00 ∷ 0x00 ∷ 0x00 ∷ 0x00 ∷ 0x00 ∷ 0x00 ∷ 0x07 ∷ 0x03 ∷ 0x0a ∷ 0x07 ∷ 0x00 ∷ 0x00 ∷ 0x03 ∷ 0xe8 ∷ 0x00 ∷ 0x00 ∷ 0x00 ∷ 0x00 ∷ 0x00
    ∷ 0x00 ∷
    0x00 ∷ 0x08 ∷ 0x02 ∷ 0x00 ∷ 0x00 ∷ 0x00 ∷ 0x00 ∷ 0x4e ∷ 0x20 ∷ 0x01 ∷ 0x00 ∷ 0x00 ∷ 0x00 ∷ 0x00 ∷ 0x00 ∷ 0x00 ∷ 0x00 ∷ 0x03 ∷ 0x00 ∷ 0x00
    ∷ 0x00 ∷
    0x00 ∷ 0x00 ∷ 0x00 ∷ 0x00 ∷ 0x05 ∷ 0x03 ∷ 0x14 ∷ 0x08 ∷ 0x00 ∷ 0x00 ∷ 0x4e ∷ 0x20 ∷ 0x00 ∷ 0x00 ∷ 0x27 ∷ 0x10 ∷ 0x00 ∷ 0x00 ∷ 0x00 ∷ 0x00
    ∷ 0x00 ∷
    0x00 ∷ 0x01 ∷ 0x90 ∷ 0x01 ∷ 0x00 ∷ 0x00 ∷ 0x00 ∷ 0x00 ∷ 0x00 ∷ 0x00 ∷ 0x00 ∷ 0x03 ∷ 0x00 ∷ 0x00 ∷ 0x27 ∷ 0x10 ∷ 0x00 ∷ 0x00 ∷ 0x4e
    ∷ 0x20 ∷
    0x14 ∷ 0x08 ∷ 0x02 ∷ 0x00 ∷ 0x00 ∷ 0x00 ∷ 0x00 ∷ 0x00 ∷ 0x00 ∷ 0x00 ∷ 0x01 ∷ 0x00 ∷ 0x00 ∷ 0x00 ∷ 0x00 ∷ 0x00 ∷ 0x00 ∷ 0x00 ∷ 0x00 ∷ 0x01
    ∷ 0x00 ∷
    0x00 ∷ 0x00 ∷ 0x00 ∷ 0x00 ∷ 0x00 ∷ 0x00 ∷ 0x00 ∷ 0x00 ∷ 0x00 ∷ 0x00 ∷ 0x5a ∷ 0x00 ∷ 0x00 ∷ 0x00 ∷ 0x00 ∷ 0x00 ∷ 0x00 ∷ 0x00 ∷ 0x5a
    ∷ 0x07 ∷
    0x00 ∷ 0x00 ∷ 0x00 ∷ 0x00 ∷ 0x00 ∷ 0x00 ∷ 0x00 ∷ 0x00 ∷ 0x02 ∷ 0x00 ∷ 0x00 ∷ 0x00 ∷ 0x00 ∷ 0x00 ∷ 0x00 ∷ 0x00 ∷ 0x04 ∷ 0x03 ∷ 0x00
    ∷ 0x00 ∷
    0x00 ∷ 0x00 ∷ 0x00 ∷ 0x00 ∷ 0x00 ∷ 0x00 ∷ 0x00 ∷ 0x00 ∷ 0x00 ∷ 0x64 ∷ 0x00 ∷ 0x00 ∷ 0x00 ∷ 0x00 ∷ 0x00 ∷ 0x00 ∷ 0x01 ∷ 0x2c ∷ 0x01
    ∷ 0x07 ∷
    0x01 ∷ 0x00 ∷ 0x00 ∷ 0x00 ∷ 0x00 ∷ 0x00 ∷ 0x00 ∷ 0x00 ∷ 0x02 ∷ 0x00 ∷ 0x00 ∷ 0x00 ∷ 0x00 ∷ 0x00 ∷ 0x00 ∷ 0x00 ∷ 0x04 ∷ 0x03 ∷ 0x00
    ∷ 0x00 ∷
    0x00 ∷ 0x00 ∷ 0x00 ∷ 0x00 ∷ 0x00 ∷ 0x00 ∷ 0x00 ∷ 0x00 ∷ 0x00 ∷ 0x64 ∷ 0x00 ∷ 0x00 ∷ 0x00 ∷ 0x00 ∷ 0x00 ∷ 0x00 ∷ 0x01 ∷ 0x2c ∷ 0x01
    ∷ 0x07 ∷ []
unfolding two_bytes four_bytes eight_bytes encoded_resource_in encoded_state_in
everything_state = refl

-- the named lengths of encodings, and the lengths of these two states
longest : (longest_resource ≡ 19778) × (longest_state ≡ 5063194)
longest = (refl, refl)

rooms : (result_reserve ≡ 89) × (boot_reserve ≡ 15) × (created_len ≡ head_len + bare_state + 1)
rooms = (refl, refl, refl)

empty_len : length (encoded_state empty) ≡ bare_state
unfolding two_bytes four_bytes eight_bytes encoded_resource_in encoded_state_in
empty_len = refl

everything_len : length (encoded_state everything) ≡ 244
unfolding two_bytes four_bytes eight_bytes encoded_resource_in encoded_state_in
everything_len = refl

-- the replies to the three questions, and to one about an unknown resource
listed : reply_to everything question.List ≡ reply.List (r1 ∷ [])
listed = refl

informed : reply_to everything (question.Info r1) ≡ reply.Info (record {
  id = r1;
  provider = codes "p";
  agent = codes "t";
  params = (codes "a", codes "1") ∷ [];
  queued = record { items = 7 ∷ 8 ∷ [] };
  running = Some (record { call = 3; run = 5; task = task action.Monitor deep; timeout = 20000; interval = 10000; since = 400 });
  recurring = record { items = record { call = 3; interval = 10000; timeout = 20000; check = deep } ∷ [] };
  failed = Some stopped;
})
informed = refl

remembered : reply_to everything (question.History r1) ≡ reply.History (
    record { call = 1; run = 0; action = action.Start; interval = 0; since = 90; at = 90; outcome = Dropped }
    ∷ record { call = 2; run = 4; action = action.Monitor; interval = 0; since = 100; at = 300; outcome = Run (Done 7) } ∷ [])
remembered = refl

unknown : reply_to everything (question.Info (codes "r2")) ≡ reply.Refused UnknownResource
unknown = refl
