use Rattle.std.proofs.Common.{◌≡◌, ◌++◌, take}
use Rattle.circular_buffer.specs.Buffer.{buffer, keep_last}
use Rattle.op_history.proofs.results.Results.push_all.Given as goal

abbrev pub invariant-loop-result : goal.invariant-loop-result
invariant-loop-result g l =
    l.ring ≡ buffer (keep_last l.initial.ring.capacity (l.initial.ring.items ++ take l.result-index l.results)) l.initial.ring.capacity
