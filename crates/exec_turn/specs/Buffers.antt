-- Vectors that grow within their capacity.
use Rattle.std.specs.Prelude.{◌≡◌, ℕ, ◌+◌, ◌≤◌, Vec, vec_capacity, vec_len}

-- a vector has at most this many items more, and the same capacity
pub record GrowsInRoom {T A : Type 0} (most : ℕ) (old new : Vec T A) : Type 0 where
  pub few : vec_len new ≤ vec_len old + most
  pub room : vec_capacity new ≡ vec_capacity old
