-- The message of a refusal, and the key that it is about.
use Rattle.std.specs.Prelude.{ℕ, List, ◌++◌, Option, None, Some, is_some, option_map, if◌then◌else◌}
use Rattle.ocf_types.specs.Actions.{action_named}
use Rattle.ocf_model.specs.declared.refusal.Refusal.{Refusal}
use Rattle.ocf_model.specs.declared.refusal.Refusal.TheVariants as refusal
use Rattle.exec_commands.specs.LineKeys.{key_word, range_of, range_text}
use Rattle.exec_commands.specs.declared.key.Key.{Key}
use Rattle.exec_commands.specs.declared.message.TheConstants as text
use Rattle.exec_commands.specs.declared.key.Key.TheVariants as key
use Rattle.exec_commands.specs.declared.refused.About.{About}
use Rattle.exec_commands.specs.declared.refused.About.TheVariants as about

-- the key that a refusal of a well-formed line is about, if any
abbrev pub key_of : Refusal → Option Key
key_of refusal.UnknownResource = Some key.Id
key_of refusal.Busy = Some key.Id
key_of refusal.QueueFull = Some key.Id
key_of refusal.RecurringFull = Some key.Id
key_of refusal.NoSuchRecurring = Some key.Interval
key_of refusal.TooLarge = Some key.Params
key_of refusal.NotQueued = Some key.Call
key_of _ = None

-- the message of a refusal that is about no single key
abbrev pub refusal_text : Refusal → List ℕ
refusal_text refusal.Syntax = text.SYNTAX.now
refusal_text refusal.UnknownOp = text.UNKNOWN_OP.now
refusal_text refusal.BadName = text.BAD_NAME.now
refusal_text refusal.BadValue = text.BAD_VALUE.now
refusal_text refusal.UnknownResource = text.UNKNOWN_RESOURCE.now
refusal_text refusal.Exists = text.EXISTS.now
refusal_text refusal.Recurs = text.RECURS.now
refusal_text refusal.Busy = text.BUSY.now
refusal_text refusal.QueueFull = text.QUEUE_FULL.now
refusal_text refusal.RecurringFull = text.RECURRING_FULL.now
refusal_text refusal.NoSuchRecurring = text.NO_SUCH_RECURRING.now
refusal_text refusal.NotQueued = text.NOT_QUEUED.now
refusal_text refusal.TooManyResources = text.TOO_MANY_RESOURCES.now
refusal_text refusal.TooLarge = text.TOO_LARGE.now
refusal_text refusal.CallsSpent = text.CALLS_SPENT.now
refusal_text refusal.JournalFull = text.JOURNAL_FULL.now
refusal_text refusal.Memory = text.MEMORY.now
refusal_text refusal.Disk = text.DISK.now
refusal_text refusal.Closed = text.CLOSED.now

-- the message that says what a key may hold
abbrev pub key_text : Key → List ℕ
key_text k = key_word k ++ (text.MUST_BE.now ++ range_text (range_of k))

-- what to write in place of a word that names no operation: an action is the value of another key
abbrev pub hint_text : List ℕ → List ℕ
hint_text word =
    if is_some (action_named word) then text.EXAMPLE_HEAD.now ++ (word ++ text.EXAMPLE_TAIL.now)
    else text.ELSE.now ++ key_text key.Op

-- the message that a word names no operation
abbrev pub operation_text : List ℕ → List ℕ
operation_text word = text.NO_OPERATION.now ++ (word ++ hint_text word)

-- the message of a refusal: what the key at fault may hold, or else a message for the kind of refusal
abbrev pub message_of : Refusal → About → List ℕ
message_of why about.Whole = refusal_text why
message_of why about.Twice = text.KEY_TWICE.now
message_of why (about.Key k) = key_text k
message_of why (about.Unknown name) = text.NO_SUCH_KEY.now
message_of why (about.Operation word) = operation_text word

-- the key of the line that a refusal is about, if any
abbrev pub about_key : Refusal → About → Option (List ℕ)
about_key why about.Whole = option_map key_word (key_of why)
about_key why about.Twice = None
about_key why (about.Key k) = Some (key_word k)
about_key why (about.Unknown name) = Some name
about_key why (about.Operation word) = Some (key_word key.Op)
