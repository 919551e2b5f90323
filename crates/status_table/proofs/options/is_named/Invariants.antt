use Rattle.std.proofs.Common.{◌≡◌, take, false}
use Rattle.status_table.specs.Rows.{is_named}
use Rattle.status_table.proofs.options.is_named.Given as goal

abbrev pub invariant-loop-at : goal.invariant-loop-at
invariant-loop-at l = is_named (take l.at l.ids) l.id ≡ false
