-- The keys of lines, and the values that each may hold.
use Rattle.std.specs.Prelude.{ℕ, List, ◌++◌, codes, decimal}
use Rattle.ocf_types.specs.Limits.{num_max}
use Rattle.exec_commands.specs.declared.key.Key.{Key}
use Rattle.exec_commands.specs.declared.key.Key.TheVariants as key
use Rattle.exec_commands.specs.declared.range.TheConstants as text
use Rattle.exec_commands.specs.declared.range.Range.{Range}
use Rattle.exec_commands.specs.declared.range.Range.TheVariants as range

-- the name of a key in a line
abbrev pub key_word : Key → List ℕ
key_word key.Op = codes "op"
key_word key.Id = codes "id"
key_word key.Provider = codes "provider"
key_word key.Type = codes "type"
key_word key.Params = codes "params"
key_word key.Action = codes "action"
key_word key.Timeout = codes "timeout"
key_word key.Level = codes "level"
key_word key.Expect = codes "expect"
key_word key.Interval = codes "interval"
key_word key.Call = codes "call"
key_word key.Limit = codes "limit"
key_word key.WatchLimit = codes "limit"
key_word key.Tag = codes "tag"

-- the values that a key may hold
abbrev pub range_of : Key → Range
range_of key.Op = range.Operation
range_of key.Id = range.Id
range_of key.Provider = range.Name
range_of key.Type = range.Name
range_of key.Params = range.Params
range_of key.Action = range.Action
range_of key.Timeout = range.Number 1 4294967295
range_of key.Level = range.Level
range_of key.Expect = range.Expect
range_of key.Interval = range.Number 1 4294967295
range_of key.Call = range.Number 1 num_max
range_of key.Limit = range.Number 0 86400000
range_of key.WatchLimit = range.Number 1 4294967295
range_of key.Tag = range.Tag

-- a range as a part of a sentence
abbrev pub range_text : Range → List ℕ
range_text range.Operation = text.AN_OPERATION.now
range_text range.Id = text.AN_ID.now
range_text range.Name = text.A_NAME.now
range_text range.Params = text.PARAMETERS.now
range_text range.Action = text.AN_ACTION.now
range_text range.Level = text.A_LEVEL.now
range_text range.Expect = text.AN_EXIT_CODE.now
range_text range.Tag = text.A_TAG.now
range_text (range.Number from to) = text.NUMBER_FROM.now ++ decimal from ++ text.NUMBER_TO.now ++ decimal to
