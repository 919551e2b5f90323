use Rattle.std.proofs.Common.{◌≡◌, take}
use Rattle.recurring.specs.Monitors.{recurs}
use Rattle.exec_state.proofs.answer.recurring.Given as goal

abbrev pub invariant-loop-at : goal.invariant-loop-at
invariant-loop-at l = l.list.items ≡ recurs (take l.at l.monitors)
