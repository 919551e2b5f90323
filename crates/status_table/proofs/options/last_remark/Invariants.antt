use Rattle.std.proofs.Common.{◌≡◌, take}
use Rattle.status_table.specs.Remarks.{is_of}
use Rattle.resource_status.specs.Results.{last_of}
use Rattle.status_table.proofs.options.last_remark.Given as goal

abbrev pub invariant-loop-at : goal.invariant-loop-at
invariant-loop-at l = l.last ≡ last_of (is_of l.id) (take l.at l.remarks)
