use Rattle.std.proofs.Common.{take}
use Rattle.status_report.specs.Endings.{AllRegistered}
use Rattle.status_report.proofs.endings.are_registered.Given as goal

abbrev pub invariant-loop-id : goal.invariant-loop-id
invariant-loop-id l = AllRegistered l.state.state (take l.id-index l.ids)
