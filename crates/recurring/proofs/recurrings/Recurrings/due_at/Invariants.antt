use Rattle.std.proofs.Common.{◌≡◌, map, take}
use Rattle.recurring.specs.Monitors.{monitor_due_at}
use Rattle.recurring.proofs.recurrings.Recurrings.due_at.Given as goal

abbrev pub invariant-loop-recur : goal.invariant-loop-recur
invariant-loop-recur l = l.monitors.items ≡ map (monitor_due_at l.due) (take l.recur-index l.recurs)
