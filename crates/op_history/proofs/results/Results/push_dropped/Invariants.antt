use Rattle.std.proofs.Common.{◌≡◌, ◌++◌, map, take}
use Rattle.circular_buffer.specs.Buffer.{buffer, keep_last}
use Rattle.ocf_model.specs.Resource.{dropped_of}
use Rattle.op_history.proofs.results.Results.push_dropped.Given as goal

abbrev pub invariant-loop-queued : goal.invariant-loop-queued
invariant-loop-queued g l =
    l.ring ≡ buffer (keep_last l.initial.ring.capacity
    (l.initial.ring.items ++ map (dropped_of l.at) (take l.queued-index l.queue))) l.initial.ring.capacity
