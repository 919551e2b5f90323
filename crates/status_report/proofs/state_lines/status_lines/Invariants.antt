use Rattle.std.proofs.Common.{◌≡◌, take}
use Rattle.status_report.specs.StatusLines.{status_lines}
use Rattle.status_report.proofs.state_lines.status_lines.Given as goal

abbrev pub invariant-loop-row : goal.invariant-loop-row
invariant-loop-row l = l.lines.items ≡ status_lines l.options (take l.row-index l.rows)
