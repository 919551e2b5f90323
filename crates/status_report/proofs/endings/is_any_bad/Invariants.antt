use Rattle.std.proofs.Common.{◌≡◌, take, false}
use Rattle.status_table.specs.Rows.{is_any_bad}
use Rattle.status_report.proofs.endings.is_any_bad.Given as goal

abbrev pub invariant-loop-row : goal.invariant-loop-row
invariant-loop-row l = is_any_bad (take l.row-index l.rows) ≡ false
