-- How the lines that wait for replies are stored.
use Rattle.std.specs.Prelude.{ℕ, List, [], ◌∷◌, ◌++◌, replicate, Some, None}
use Rattle.std.specs.List.{flat_map}
use Rattle.exec_client.specs.Tags.{CallTag, LineTag}
use Rattle.exec_client.specs.declared.kept_calls.KeptCall.{KeptCall}
use Rattle.exec_client.specs.declared.waiting.Waiting.{Waiting}

-- lines without a tag, and then one with a tag
abbrev pub lines_until : Waiting → List LineTag
lines_until w = replicate w.before None ++ Some w.tag ∷ []

-- the lines of all entries, and then lines without a tag
abbrev pub lines_in : List Waiting → ℕ → List LineTag
lines_in waiting after = flat_map lines_until waiting ++ replicate after None

-- a stored call, as a call with its tag
abbrev pub call_tag : KeptCall → CallTag
call_tag k = (k.call, k.tag)

-- the number of tags: 1 or 0
abbrev pub count_of : LineTag → ℕ
count_of None = 0
count_of (Some tag) = 1
