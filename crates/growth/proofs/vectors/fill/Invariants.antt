use Rattle.std.proofs.Common.{◌≡◌, ◌≤◌, ◌+◌, ◌++◌, replicate, vec_capacity, vec_len}
use Rattle.growth.proofs.vectors.fill.Given as goal

abbrev pub invariant-loop : goal.invariant-loop
invariant-loop g l = record {
  items : l.vec.items ≡ l.fn.vec.items ++ replicate l.counter l.value;
  len : vec_len l.vec ≡ vec_len l.fn.vec + l.counter;
  capacity : vec_len l.fn.vec + l.more ≤ vec_capacity l.vec;
}
