-- The limits of a session that no option sets.
use Rattle.std.specs.Prelude.{ℕ, ◌*◌}
use Rattle.ocf_types.specs.Limits.{resources_limit}

-- capacity of the agents' book of answers: three for each resource
abbrev pub book_room : ℕ
book_room = 3 * resources_limit

-- the most turns of a drain
abbrev pub most_turns : ℕ
most_turns = 100000000
