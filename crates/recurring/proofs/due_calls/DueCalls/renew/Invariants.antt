use Rattle.std.proofs.Common.{◌≡◌, ◌++◌, map, take, drop}
use Rattle.recurring.specs.DueCalls.{due_call_of}
use Rattle.recurring.specs.Monitors.{pairs, IsFirstMoment}
use Rattle.recurring.proofs.due_calls.DueCalls.renew.Given as goal

abbrev pub invariant-loop-index : goal.invariant-loop-index
invariant-loop-index l = record {
  calls : l.calls.items ≡ map due_call_of (take l.index l.monitors) ++ drop l.index l.initial.calls.items;
  first : IsFirstMoment (pairs (take l.index l.monitors)) l.first;
}
