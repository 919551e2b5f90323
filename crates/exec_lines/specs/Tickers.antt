-- What a clock was asked.
use Rattle.std.specs.Prelude.{ℕ}

-- a question to a clock, with its answer
pub data TickerEvent : Type 0 where
  -- a reading, in milliseconds since 1970
  Shown : ℕ → TickerEvent
  -- a pause of this many microseconds
  Rested : ℕ → TickerEvent
