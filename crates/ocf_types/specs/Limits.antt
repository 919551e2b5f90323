-- The limits by name: those of the code, and how long encodings are.
use Rattle.std.specs.Prelude.{ℕ, ◌+◌, ◌*◌}
use Rattle.ocf_types.specs.declared.limits.TheConstants.{NUM_MAX, NAME_LIMIT, VALUE_LIMIT, PARAMS_LIMIT, RESOURCES_LIMIT, QUEUE_LIMIT}
use Rattle.ocf_types.specs.declared.limits.TheConstants.{RECURRING_LIMIT, ENDED_KEPT, KEY_LIMIT, EVENT_LIMIT, BODY_LIMIT, PART_LIMIT}
use Rattle.ocf_types.specs.declared.limits.TheConstants.{RESERVE, LINE_LIMIT, METADATA_LIMIT, DEFAULT_TIMEOUT, HEAD_LEN, CREATED_LEN}
use Rattle.ocf_types.specs.declared.limits.TheConstants.{BARE_HEAD, SLOT_FRAME, EVENT_FRAME, OPERATION_LEN, MONITOR_LEN, RUNNING_LEN}
use Rattle.ocf_types.specs.declared.limits.TheConstants.{ENDED_LEN, BARE_STATE}

-- the greatest moment, call id and run number
abbrev pub num_max : ℕ
num_max = NUM_MAX

-- the longest name, value and key, in bytes
abbrev pub name_limit : ℕ
name_limit = NAME_LIMIT

abbrev pub value_limit : ℕ
value_limit = VALUE_LIMIT

abbrev pub key_limit : ℕ
key_limit = KEY_LIMIT

-- how many there are at most: parameters, resources, queued actions, recurring monitors, results that are kept
abbrev pub params_limit : ℕ
params_limit = PARAMS_LIMIT

abbrev pub resources_limit : ℕ
resources_limit = RESOURCES_LIMIT

abbrev pub queue_limit : ℕ
queue_limit = QUEUE_LIMIT

abbrev pub recurring_limit : ℕ
recurring_limit = RECURRING_LIMIT

abbrev pub ended_kept : ℕ
ended_kept = ENDED_KEPT

-- the longest encoding of an event, or of a resource's parameters, in bytes
abbrev pub event_limit : ℕ
event_limit = EVENT_LIMIT

-- the longest body of a slot, the longest part, and the space that a record other than a result or a boot leaves free, in bytes
abbrev pub body_limit : ℕ
body_limit = BODY_LIMIT

abbrev pub part_limit : ℕ
part_limit = PART_LIMIT

abbrev pub reserve : ℕ
reserve = RESERVE

-- the longest command line, and the longest metadata, in bytes
abbrev pub line_limit : ℕ
line_limit = LINE_LIMIT

abbrev pub metadata_limit : ℕ
metadata_limit = METADATA_LIMIT

-- the timeout of an operation that names none, in milliseconds
abbrev pub default_timeout : ℕ
default_timeout = DEFAULT_TIMEOUT

-- the lengths of a head, of a part's first gate and head, and of a part of a new journal, in bytes
abbrev pub bare_head : ℕ
bare_head = BARE_HEAD

abbrev pub head_len : ℕ
head_len = HEAD_LEN

abbrev pub created_len : ℕ
created_len = CREATED_LEN

-- the length of a slot before its body: a gate and a length
abbrev pub slot_frame : ℕ
slot_frame = SLOT_FRAME

-- the length of an event before its fields: a kind and a moment
abbrev pub event_frame : ℕ
event_frame = EVENT_FRAME

-- the encodings of an accepted action, a recurring monitor, a running action, and a result that is kept, in bytes
abbrev pub operation_len : ℕ
operation_len = OPERATION_LEN

abbrev pub monitor_len : ℕ
monitor_len = MONITOR_LEN

abbrev pub running_len : ℕ
running_len = RUNNING_LEN

abbrev pub ended_len : ℕ
ended_len = ENDED_LEN

-- the encoding of a boot, and the longest ones of a result, of a begin, and of an event without parameters, in bytes
abbrev pub boot_len : ℕ
boot_len = event_frame

abbrev pub longest_result : ℕ
longest_result = 84

abbrev pub longest_begin : ℕ
longest_begin = 90

abbrev pub longest_small : ℕ
longest_small = 92

-- the longest slot of a result: 89 bytes
abbrev pub result_reserve : ℕ
result_reserve = slot_frame + longest_result

-- the slot of a boot, and the gate after it: 15 bytes
abbrev pub boot_reserve : ℕ
boot_reserve = slot_frame + boot_len + 1

-- the longest encoding of one parameter, and of 64
abbrev pub longest_param : ℕ
longest_param = 3 + name_limit + value_limit

abbrev pub longest_params : ℕ
longest_params = 1 + params_limit * longest_param

-- the encoding of a state without its resources: 26 bytes
abbrev pub bare_state : ℕ
bare_state = BARE_STATE

-- the longest encoding of a resource: names, parameters, queue, running action, recurring monitors, results and last failure;
-- 19,778 bytes
abbrev pub longest_resource : ℕ
longest_resource =
    3 * (1 + name_limit) + event_limit + (1 + operation_len * queue_limit) + running_len + (1 + monitor_len * recurring_limit)
    + (1 + ended_len * ended_kept) + (1 + ended_len)

-- the longest encoding of a state: 5,063,194 bytes
abbrev pub longest_state : ℕ
longest_state = bare_state + longest_resource * resources_limit
