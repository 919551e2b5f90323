-- Times of a clock in milliseconds.
use Rattle.std.specs.Prelude.{ℕ, ◌/◌}
use Rattle.std.specs.declared.time.SystemTime.{SystemTime}
use Rattle.std.specs.Time.{system_time_nanos}

-- whole milliseconds since 1970
abbrev pub millis_of : SystemTime → ℕ
millis_of t = system_time_nanos t / 1000000
