-- How much a session answers at once.
use Rattle.std.specs.Prelude.{ℕ}

-- the most reads between two turns in `serve`
abbrev pub reads_a_turn : ℕ
reads_a_turn = 64

-- the most polls between two turns in `serve` that do not wait: one before each read, and one that finds nothing
abbrev pub polls_a_turn : ℕ
polls_a_turn = 65

-- the most commands of a group commit
abbrev pub most_together : ℕ
most_together = 64

-- the longest pause between two turns, in microseconds
abbrev pub longest_pause : ℕ
longest_pause = 50000

-- the longest pause that is short at any time, in microseconds
abbrev pub short_pause : ℕ
short_pause = 1000

-- the longest poll of the input, in milliseconds
abbrev pub longest_wait : ℕ
longest_wait = 1000
