use Rattle.std.proofs.Common.{◌≡◌, map, take}
use Rattle.status_table.specs.Rows.{row_of}
use Rattle.status_table.proofs.rows.rows_of.Given as goal

abbrev pub invariant-loop-index : goal.invariant-loop-index
invariant-loop-index l = l.rows.items ≡ map (row_of l.options l.recorded.entries) (take l.index l.state.state.resources)
